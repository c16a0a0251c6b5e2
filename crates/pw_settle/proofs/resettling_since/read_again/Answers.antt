use Rattle.std.proofs.Common.{◌≡◌, ◌++◌, List, drop, length, take, refl, sym, ap, ◌∙◌, subst}
use Rattle.pw_info.specs.declared.info.Info.{Info}
use Rattle.pw_cells.specs.Cells.{IsUnsaid, kept_in}
use Rattle.pw_cells.proofs.Stores.{OnErr_always}
use Rattle.pw_network.specs.Wiring.{wiring}
use Rattle.pw_settle.specs.Settled.{info_at}
use Rattle.pw_settle.specs.inside.Known.{IsAtHandFor, TakesInKept}
use Rattle.pw_settle.specs.inside.Since.{IsReadAgain}
use Rattle.pw_settle.proofs.ReadAgain.{as_long}
use Rattle.pw_settle.proofs.SourceLists.{came_back}
use Rattle.pw_settle.proofs.resettling_since.read_again.Goals as goal

pub take_in_kept-requires : goal.take_in_kept-requires
take_in_kept-requires g c =
    subst (λ (l : List Info). IsAtHandFor c.args.store.now c.args.cell l c.args.known.now.supports) (sym c.deref_mut.ensures.value) c.requires.hand

pub returns-then-is_news-clause-read : goal.returns-then-is_news-clause-read
returns-then-is_news-clause-read g c =
    let known : List Info = c.args.known.now.infos.items in
    let now : List Info = c.take_in_kept.new.infos in
    let taken : TakesInKept c.args.store.now c.args.cell c.args.worldview.now c.in_ok-is_news.is_news known now c.args.known.now.supports c.take_in_kept.new.supports =
    subst (λ (l : List Info). TakesInKept c.args.store.now c.args.cell c.args.worldview.now c.in_ok-is_news.is_news l now c.args.known.now.supports
    c.take_in_kept.new.supports) c.deref_mut.ensures.value c.in_ok-is_news.ensures.taken in
    let back : take c.args.known.now.infos.len (now ++ drop (length now) known) ≡ now =
    came_back now known c.args.known.now.infos.len (sym c.deref_mut.ensures.len ∙ ap length c.deref_mut.ensures.value)
    (as_long c.args.store.now c.args.cell c.args.worldview.now c.in_ok-is_news.is_news known now c.args.known.now.supports c.take_in_kept.new.supports taken) in
    subst (λ (l : List Info). IsReadAgain (wiring c.args.network.now) c.args.store.now c.args.cell c.args.worldview.now known l c.args.known.now.supports
    c.take_in_kept.new.supports c.args.agenda.now c.queue_visible_readers.new.agenda) (sym back)
    (record {
      is_news = c.in_ok-is_news.is_news;
      taken = taken;
      news = λ is. c.queue_visible_readers.ensures.readers;
      none = λ no. let is = c.if-is_news.true in absurd (cc);
    })

pub returns-else-is_news-clause-read : goal.returns-else-is_news-clause-read
returns-else-is_news-clause-read g c =
    let known : List Info = c.args.known.now.infos.items in
    let now : List Info = c.take_in_kept.new.infos in
    let taken : TakesInKept c.args.store.now c.args.cell c.args.worldview.now c.in_ok-is_news.is_news known now c.args.known.now.supports c.take_in_kept.new.supports =
    subst (λ (l : List Info). TakesInKept c.args.store.now c.args.cell c.args.worldview.now c.in_ok-is_news.is_news l now c.args.known.now.supports
    c.take_in_kept.new.supports) c.deref_mut.ensures.value c.in_ok-is_news.ensures.taken in
    let back : take c.args.known.now.infos.len (now ++ drop (length now) known) ≡ now =
    came_back now known c.args.known.now.infos.len (sym c.deref_mut.ensures.len ∙ ap length c.deref_mut.ensures.value)
    (as_long c.args.store.now c.args.cell c.args.worldview.now c.in_ok-is_news.is_news known now c.args.known.now.supports c.take_in_kept.new.supports taken) in
    subst (λ (l : List Info). IsReadAgain (wiring c.args.network.now) c.args.store.now c.args.cell c.args.worldview.now known l c.args.known.now.supports
    c.take_in_kept.new.supports c.args.agenda.now c.args.agenda.now) (sym back)
    (record {
      is_news = c.in_ok-is_news.is_news;
      taken = taken;
      news = λ is. let no = c.if-is_news.false in absurd (cc);
      none = λ no. refl;
    })

pub returns-in_err-is_news-clause-refused : goal.returns-in_err-is_news-clause-refused
returns-in_err-is_news-clause-refused g c =
    let known : List Info = c.args.known.now.infos.items in
    let same : c.take_in_kept.new.infos ≡ known = c.in_err-is_news.ensures.refused.stays.infos_are ∙ c.deref_mut.ensures.value in
    OnErr_always c.from_residual.result (record {
      unsaid = subst (λ (l : List Info). IsUnsaid (info_at l c.args.cell) (kept_in c.args.store.now c.args.cell c.args.worldview.now))
          c.deref_mut.ensures.value c.in_err-is_news.ensures.refused.unsaid;
      stays = record {
        infos_are = came_back c.take_in_kept.new.infos known c.args.known.now.infos.len (sym c.deref_mut.ensures.len ∙ ap length c.deref_mut.ensures.value)
            (ap length same) ∙ same;
        supports_are = c.in_err-is_news.ensures.refused.stays.supports_are;
      };
    })
