use Rattle.std.proofs.Common.{◌≡◌, ◌+◌, ◌++◌, List, drop, length, take, sym, ap, ◌∙◌, subst, arith}
use Rattle.std.proofs.lemmas.List.{length-map}
use Rattle.pw_info.specs.declared.info.Info.{Info}
use Rattle.pw_cells.specs.Cells.{Cell}
use Rattle.pw_network.specs.Wiring.{wiring}
use Rattle.pw_settle.specs.Calls.{is_instance_visible}
use Rattle.pw_settle.specs.inside.Aside.{AreGrownTo}
use Rattle.pw_settle.specs.inside.Known.{IsAtHandFor, TakesInKept}
use Rattle.pw_settle.proofs.AsideGrowth.{as_long, grown_news, grown_none, grown_unshown}
use Rattle.pw_settle.proofs.KeptFacts.{kind_there}
use Rattle.pw_settle.proofs.SourceLists.{came_back}
use Rattle.pw_settle.proofs.growing_aside.grow_cell.Goals as goal

pub returns-then-not-may_show_more-clause-grown : goal.returns-then-not-may_show_more-clause-grown
returns-then-not-may_show_more-clause-grown g c =
    grown_unshown (wiring c.args.network.now) c.args.network.now.well c.args.store.now c.requires.sound.kinds c.requires.sound.sound c.args.earlier.now c.args.worldview.now
    c.args.cell c.requires.cell c.args.known.now.infos.items c.args.known.now.supports c.args.agenda.now c.requires.grown
    (c.may_show_more.ensures.less c.if-not-may_show_more.true) c.may_show_more.ensures.told

pub returns-then-not-is_news-clause-grown : goal.returns-then-not-is_news-clause-grown
returns-then-not-is_news-clause-grown g c =
    let network = wiring c.args.network.now in
    let known : List Info = c.args.known.now.infos.items in
    let now : List Info = c.take_in_kept.new.infos in
    let taken : TakesInKept c.args.store.now c.args.cell c.args.worldview.now c.in_ok-is_news.is_news known now c.args.known.now.supports c.take_in_kept.new.supports =
    subst (λ (l : List Info). TakesInKept c.args.store.now c.args.cell c.args.worldview.now c.in_ok-is_news.is_news l now c.args.known.now.supports
    c.take_in_kept.new.supports) c.deref_mut.ensures.value c.in_ok-is_news.ensures.taken in
    let back : take c.args.known.now.infos.len (now ++ drop (length now) known) ≡ now =
    came_back now known c.args.known.now.infos.len (sym c.deref_mut.ensures.len ∙ ap length c.deref_mut.ensures.value)
    (as_long network c.args.network.now.well c.args.store.now c.requires.sound.kinds c.requires.sound.sound c.args.earlier.now c.args.worldview.now c.args.cell c.requires.cell
    known c.args.known.now.supports c.args.agenda.now c.requires.grown c.in_ok-is_news.is_news now c.take_in_kept.new.supports taken) in
    subst (λ (l : List Info). AreGrownTo network c.args.store.now c.args.earlier.now c.args.worldview.now (c.args.cell + 1) l c.take_in_kept.new.supports
    c.args.agenda.now) (sym back)
    (grown_none network c.args.network.now.well c.args.store.now c.requires.sound.kinds c.requires.sound.sound c.args.earlier.now c.args.worldview.now c.args.cell c.requires.cell
    known c.args.known.now.supports c.args.agenda.now c.requires.grown c.in_ok-is_news.is_news now c.take_in_kept.new.supports taken
    c.if-not-is_news.true c.may_show_more.ensures.told)

pub returns-clause-grown : goal.returns-clause-grown
returns-clause-grown g c =
    let network = wiring c.args.network.now in
    let known : List Info = c.args.known.now.infos.items in
    let now : List Info = c.take_in_kept.new.infos in
    let taken : TakesInKept c.args.store.now c.args.cell c.args.worldview.now c.in_ok-is_news.is_news known now c.args.known.now.supports c.take_in_kept.new.supports =
    subst (λ (l : List Info). TakesInKept c.args.store.now c.args.cell c.args.worldview.now c.in_ok-is_news.is_news l now c.args.known.now.supports
    c.take_in_kept.new.supports) c.deref_mut.ensures.value c.in_ok-is_news.ensures.taken in
    let back : take c.args.known.now.infos.len (now ++ drop (length now) known) ≡ now =
    came_back now known c.args.known.now.infos.len (sym c.deref_mut.ensures.len ∙ ap length c.deref_mut.ensures.value)
    (as_long network c.args.network.now.well c.args.store.now c.requires.sound.kinds c.requires.sound.sound c.args.earlier.now c.args.worldview.now c.args.cell c.requires.cell
    known c.args.known.now.supports c.args.agenda.now c.requires.grown c.in_ok-is_news.is_news now c.take_in_kept.new.supports taken) in
    subst (λ (l : List Info). AreGrownTo network c.args.store.now c.args.earlier.now c.args.worldview.now (c.args.cell + 1) l c.take_in_kept.new.supports
    c.queue_readers.new.agenda) (sym back)
    (grown_news network c.args.network.now.well c.args.store.now c.requires.sound.kinds c.requires.sound.sound c.args.earlier.now c.args.worldview.now c.args.cell c.requires.cell
    known c.args.known.now.supports c.args.agenda.now c.requires.grown c.in_ok-is_news.is_news now c.take_in_kept.new.supports taken
    c.if-not-is_news.false c.args.visible.now c.queue_readers.new.agenda c.requires.visible c.queue_readers.ensures.readers)

pub take_in_kept-requires : goal.take_in_kept-requires
take_in_kept-requires g c =
    subst (λ (l : List Info). IsAtHandFor c.args.store.now c.args.cell l c.args.known.now.supports) (sym c.deref_mut.ensures.value)
    (record {
      exists = c.requires.cell;
      there = omega (
        arith,
        c.requires.cell,
        c.requires.grown.many,
        ap length c.requires.sound.kinds,
        length-map c.args.store.now.cells (λ (x : Cell). x.kind),
      );
      as_many = c.requires.grown.as_many;
      kind = (c.requires.grown.each c.args.cell).kind ∙ sym (kind_there (wiring c.args.network.now) c.args.store.now c.requires.sound.kinds c.args.cell);
    })

pub queue_readers-requires-clause-flags : goal.queue_readers-requires-clause-flags
queue_readers-requires-clause-flags g c = c.requires.grown.flags

pub queue_readers-requires-clause-all : goal.queue_readers-requires-clause-all
queue_readers-requires-clause-all g c =
    ap length c.requires.visible ∙ length-map (wiring c.args.network.now).attached (is_instance_visible c.args.worldview.now)
