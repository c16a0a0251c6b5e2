use Rattle.std.proofs.Common.{◌≡◌, ℕ, ◌<◌, List, ◌++◌, length, map, take, drop, refl, sym, ap, subst, ◌∙◌, inl, inr, arith}
use Rattle.std.proofs.lemmas.List.{get_or_default, length-map, length-set}
use Rattle.pw_info.specs.declared.info.Info.{Info}
use Rattle.pw_info.specs.Information.{kind_of}
use Rattle.pw_facts.specs.declared.fact.Fact.{Fact}
use Rattle.pw_cells.specs.Cells.{Store, kept_in}
use Rattle.pw_premises.specs.Premises.{Premises}
use Rattle.pw_network.specs.Wiring.{wiring}
use Rattle.pw_network.specs.inside.Held.{attachment}
use Rattle.pw_procs.specs.Registry.{procedures_in}
use Rattle.pw_network.specs.Network.{Attached}
use Rattle.pw_settle.specs.Growth.{KeepsMore}
use Rattle.pw_settle.specs.inside.Known.{AreUpstream, StayUpstream, GivesNews, GivesNone, IsNewTo, IsPlaced, TakesIn, news_on}
use Rattle.pw_settle.specs.inside.Progress.{IsNews}
use Rattle.pw_settle.specs.Values.{attached_no}
use Rattle.pw_settle.specs.Settled.{info_at}
use Rattle.pw_settle.proofs.FurtherSettlings.{refused_further, were_kept}
use Rattle.pw_settle.proofs.Growing.{keeps_more_same}
use Rattle.pw_settle.proofs.KeptFacts.{kind-kept}
use Rattle.pw_settle.proofs.KeptProgress.{IsAfterNews, after_news, keeps_news, keeps_upstream, kinds_at_hand, no_instance, satisfied_all, satisfied_kept, visible_below, visible_no}
use Rattle.pw_settle.proofs.KeptNews.{unsaid}
use Rattle.pw_settle.proofs.NewsLemmas.{inputs_there, kept_instance, news_here, none_here, output_kind, output_there, placed_here}
use Rattle.pw_settle.proofs.SourceLists.{came_back}
use Rattle.pw_settle.proofs.settling.call.Given as given
use Rattle.pw_settle.proofs.settling.call.Goals as goal
use Rattle.pw_settle.proofs.settling.call.Goals.{After-deref_mut, After-has_taken_many}

pub bounds-instances-number : goal.bounds-instances-number
bounds-instances-number g c =
    omega (
      arith,
      visible_below (wiring c.args.network.now) c.args.worldview.now c.args.number c.requires.number,
      ap length c.requires.instances,
      length-map c.args.instances.now attachment,
    )

pub news_on-requires-clause-placed : goal.news_on-requires-clause-placed
news_on-requires-clause-placed g c =
    subst (λ (l : List Info). IsPlaced (procedures_in c.args.registry.now) (map kind_of l) (attachment c.index-instances-number.result).instance) (sym c.deref.ensures.value)
    (placed_here (wiring c.args.network.now) c.args.network.now.well c.args.known.now.infos.items (procedures_in c.args.registry.now) c.args.number
    (attachment c.index-instances-number.result) c.requires.registry
    (kinds_at_hand c.args.store.now c.args.worldview.now c.args.known.now.infos.items c.args.known.now.supports c.requires.kept ∙ c.requires.kinds)
    (visible_below (wiring c.args.network.now) c.args.worldview.now c.args.number c.requires.number)
    (λ d. kept_instance (wiring c.args.network.now) c.args.instances.now c.args.number c.index-instances-number.result d c.requires.instances
    (visible_below (wiring c.args.network.now) c.args.worldview.now c.args.number c.requires.number) c.index-instances-number.is))

pub news_on-requires-clause-there : goal.news_on-requires-clause-there
news_on-requires-clause-there g c =
    subst (λ (l : List Info). c.index-instances-number.result.output < length l) (sym c.deref.ensures.value)
    (output_there (wiring c.args.network.now) c.args.network.now.well c.args.known.now.infos.items (procedures_in c.args.registry.now) c.args.number
    (attachment c.index-instances-number.result) c.requires.registry
    (kinds_at_hand c.args.store.now c.args.worldview.now c.args.known.now.infos.items c.args.known.now.supports c.requires.kept ∙ c.requires.kinds)
    (visible_below (wiring c.args.network.now) c.args.worldview.now c.args.number c.requires.number)
    (λ d. kept_instance (wiring c.args.network.now) c.args.instances.now c.args.number c.index-instances-number.result d c.requires.instances
    (visible_below (wiring c.args.network.now) c.args.worldview.now c.args.number c.requires.number) c.index-instances-number.is))

-- its number is one of the instances'
low : (g : given.Over) (c : After-deref_mut g) → c.args.number < length (wiring c.args.network.now).attached
low g c = visible_below (wiring c.args.network.now) c.args.worldview.now c.args.number c.requires.number

-- the instance that is called
called : (g : given.Over) (c : After-deref_mut g) (d : Attached) →
    attached_no (wiring c.args.network.now) c.args.number d ≡ attachment c.index-instances-number.result
called g c d =
    kept_instance (wiring c.args.network.now) c.args.instances.now c.args.number c.index-instances-number.result d c.requires.instances
    (low g c) c.index-instances-number.is

-- its news, as a fact on what is at hand
abbrev fact : (g : given.Over) (c : After-deref_mut g) → Fact
fact g c = news_on c.args.known.now.supports (attachment c.index-instances-number.result) c.in-Some.info

-- what it gave, of the informations at hand
gives : (g : given.Over) (c : After-deref_mut g) →
    GivesNews (procedures_in c.args.registry.now) c.args.known.now.infos.items (attachment c.index-instances-number.result) c.in-Some.info
gives g c =
    subst (λ (l : List Info). GivesNews (procedures_in c.args.registry.now) l (attachment c.index-instances-number.result) c.in-Some.info) c.deref.ensures.value
    c.in-Some.ensures.news

news_is : (g : given.Over) (c : After-deref_mut g) →
    IsNews (wiring c.args.network.now) c.args.known.now.infos.items c.args.known.now.supports
    (attached_no (wiring c.args.network.now) c.args.number no_instance) c.index-instances-number.result.output (fact g c)
news_is g c =
    news_here (wiring c.args.network.now) c.args.network.now.well c.args.known.now.infos.items (procedures_in c.args.registry.now) c.args.number
    (attachment c.index-instances-number.result) c.requires.registry
    (kinds_at_hand c.args.store.now c.args.worldview.now c.args.known.now.infos.items c.args.known.now.supports c.requires.kept ∙ c.requires.kinds) (low g c) (called g c)
    c.in-Some.info (gives g c) c.args.known.now.supports no_instance

-- it is about a cell, and of its kind
below : (g : given.Over) (c : After-deref_mut g) → c.index-instances-number.result.output < length c.args.known.now.infos.items
below g c =
    output_there (wiring c.args.network.now) c.args.network.now.well c.args.known.now.infos.items (procedures_in c.args.registry.now) c.args.number
    (attachment c.index-instances-number.result) c.requires.registry
    (kinds_at_hand c.args.store.now c.args.worldview.now c.args.known.now.infos.items c.args.known.now.supports c.requires.kept ∙ c.requires.kinds) (low g c) (called g c)

of_kind : (g : given.Over) (c : After-deref_mut g) →
    kind_of c.in-Some.info ≡ kind_of (info_at c.args.known.now.infos.items c.index-instances-number.result.output)
of_kind g c =
    output_kind (wiring c.args.network.now) c.args.network.now.well c.args.known.now.infos.items (procedures_in c.args.registry.now) c.args.number
    (attachment c.index-instances-number.result) c.requires.registry
    (kinds_at_hand c.args.store.now c.args.worldview.now c.args.known.now.infos.items c.args.known.now.supports c.requires.kept ∙ c.requires.kinds) (low g c) (called g c)
    c.in-Some.info (gives g c).kind

-- so the store may keep them, and they may be merged into what is at hand
pub keep_news-requires : goal.keep_news-requires
keep_news-requires g c =
    let d = (goal.at.keep_news-requires g c).After-deref_mut in
    record {
      there =
          subst (λ (n : ℕ). c.index-instances-number.result.output < n) c.requires.kept.many (below g d);
      kind =
          of_kind g d ∙ ap kind_of (c.requires.kept.infos_are c.index-instances-number.result.output) ∙ kind-kept c.args.store.now c.index-instances-number.result.output c.args.worldview.now;
      inputs =
          inputs_there (wiring c.args.network.now) c.args.network.now.well c.args.known.now.infos.items (wiring c.args.network.now).declared.procedures c.args.number
          (attachment c.index-instances-number.result) refl
          (kinds_at_hand c.args.store.now c.args.worldview.now c.args.known.now.infos.items c.args.known.now.supports c.requires.kept ∙ c.requires.kinds)
          (low g d) (called g d) (length c.args.known.now.supports) (c.requires.kept.as_many ∙ sym c.requires.kept.many);
      new =
          subst (λ (l : List Info). IsNewTo l c.args.known.now.supports c.index-instances-number.result.output c.in-Some.info) (sym c.deref_mut.ensures.value)
          (record {
            there = below g d;
            as_many = c.requires.kept.as_many ∙ sym c.requires.kept.many;
            kind = of_kind g d;
            news = (news_is g d).new;
          });
      unsaid =
          unsaid (wiring c.args.network.now) c.args.network.now.well c.args.store.now c.requires.kinds c.args.worldview.now
          c.args.known.now.infos.items c.args.known.now.supports c.requires.kept (attached_no (wiring c.args.network.now) c.args.number no_instance)
          (c.args.number, low g d, get_or_default (wiring c.args.network.now).attached c.args.number (attached_no (wiring c.args.network.now) c.args.number no_instance) no_instance (low g d))
          (visible_no (wiring c.args.network.now) c.args.worldview.now c.args.number no_instance (low g d) ∙ c.requires.number) c.index-instances-number.result.output (fact g d) (news_is g d);
    }

-- how they are taken in
taken : (g : given.Over) (c : After-has_taken_many g) →
    TakesIn c.index-instances-number.result.output (fact g (goal.at.returns-in-Some-clause-further g c).After-deref_mut) c.args.known.now.infos.items c.keep_news.new.infos c.args.known.now.supports c.keep_news.new.supports
taken g c =
    subst (λ (l : List Info). TakesIn c.index-instances-number.result.output (fact g (goal.at.returns-in-Some-clause-further g c).After-deref_mut) l c.keep_news.new.infos c.args.known.now.supports c.keep_news.new.supports)
    c.deref_mut.ensures.value c.in_ok-keep_news.ensures.kept.takes_in

-- and what there is afterwards
after : (g : given.Over) (c : After-has_taken_many g) →
    IsAfterNews (wiring c.args.network.now) c.args.store.now c.keep_news.new.store c.args.worldview.now c.keep_news.new.infos
    c.args.known.now.supports c.keep_news.new.supports c.args.number c.index-instances-number.result.output
after g c =
    let kept = c.in_ok-keep_news.ensures.kept.keeps in
    after_news (wiring c.args.network.now) c.args.network.now.well c.args.store.now c.keep_news.new.store c.requires.kinds c.args.worldview.now
    c.args.known.now.infos.items c.args.known.now.supports c.requires.kept c.args.number c.requires.number c.index-instances-number.result.output (fact g (goal.at.returns-in-Some-clause-further g c).After-deref_mut) (news_is g (goal.at.returns-in-Some-clause-further g c).After-deref_mut)
    (below g (goal.at.returns-in-Some-clause-further g c).After-deref_mut) (of_kind g (goal.at.returns-in-Some-clause-further g c).After-deref_mut) kept.told kept.kept kept.assimilates kept.others kept.kinds kept.remembers kept.continues c.keep_news.new.infos c.keep_news.new.supports (taken g c)

-- the informations at hand come back whole
infos_back : (g : given.Over) (c : After-has_taken_many g) →
    take c.args.known.now.infos.len (c.keep_news.new.infos ++ drop (length c.keep_news.new.infos) c.args.known.now.infos.items) ≡ c.keep_news.new.infos
infos_back g c =
    came_back c.keep_news.new.infos c.args.known.now.infos.items c.args.known.now.infos.len
    (sym c.deref.ensures.len ∙ ap length c.deref.ensures.value) (ap length (taken g c).infos_are ∙ length-set c.args.known.now.infos.items c.index-instances-number.result.output _)

-- where they are not taken in, the store has kept them all the same, or is as it was
pub returns-in_err-keep_news-clause-further : goal.returns-in_err-keep_news-clause-further
returns-in_err-keep_news-clause-further g c =
    let d = (goal.at.returns-in_err-keep_news-clause-further g c).After-deref_mut in
    let network = wiring c.args.network.now in
    let w = c.args.worldview.now in
    let old : Store = c.args.store.now in
    let new : Store = c.keep_news.new.store in
    let infos : List Info = c.args.known.now.infos.items in
    let supports : List Premises = c.args.known.now.supports in
    let its : ℕ = c.index-instances-number.result.output in
    let stays = c.in_err-keep_news.ensures.refused.stays in
    let grows : KeepsMore network old new =
    elim c.in_err-keep_news.ensures.refused.store [
      | inl same ↦ subst (λ (s : Store). KeepsMore network old s) (sym {A = Store} same) (keeps_more_same network old)
      | inr kept ↦
          keeps_news network c.args.network.now.well old new c.requires.kinds w infos supports c.requires.kept c.args.number c.requires.number its (fact g d) (news_is g d)
          (below g d) (of_kind g d) kept.told kept.kept kept.assimilates kept.others kept.kinds kept.remembers kept.continues
    ] in
    let upstream : StayUpstream network old supports new supports = λ given are.
    elim c.in_err-keep_news.ensures.refused.store [
      | inl same ↦ subst (λ (s : Store). AreUpstream network given s supports) (sym {A = Store} same) are
      | inr kept ↦
          keeps_upstream network c.args.network.now.well old new c.requires.kinds w infos supports c.requires.kept c.args.number c.requires.number its (fact g d) (news_is g d)
          (below g d) (of_kind g d) kept.told kept.kept kept.assimilates kept.others kept.kinds kept.remembers kept.continues given are
    ] in
    let same : c.keep_news.new.infos ≡ infos = stays.infos_are ∙ c.deref_mut.ensures.value in
    let back = came_back c.keep_news.new.infos infos c.args.known.now.infos.len
    (sym c.deref.ensures.len ∙ ap length c.deref.ensures.value) (ap length same) ∙ same in
    refused_further c.from_residual.result c.from_residual.ensures.0 network w old supports new _ c.keep_news.new.supports c.args.agenda.now grows
    (rw (stays.supports_are) upstream)
    (rw (back, stays.supports_are) (were_kept network old new w infos supports c.requires.kept grows))

pub returns-in-Some-clause-further : goal.returns-in-Some-clause-further
returns-in-Some-clause-further g c = record {
  grows = (after g c).grows;
  upstream = λ given are. (after g c).upstream given are;
  underway = record {
    kinds = (after g c).grows.kinds ∙ c.requires.kinds;
    kept = rw (infos_back g c) (after g c).kept;
    flags = c.queue_visible_readers.ensures.readers.flags ∙ c.requires.flags;
    seen = λ n flag. elim (c.queue_visible_readers.ensures.readers.others n flag) [
      | inl was ↦ c.requires.seen n was
      | inr read ↦ read.0
    ];
    satisfied = (after g c).satisfied c.args.agenda.now c.queue_visible_readers.new.agenda c.requires.others
        (λ n reader seen. c.queue_visible_readers.ensures.readers.readers c.index-instances-number.result.output n refl reader seen)
        c.queue_visible_readers.ensures.readers.stay;
  };
  between = tt;
}

pub returns-in-Some-clause-most : goal.returns-in-Some-clause-most
returns-in-Some-clause-most g c =
    omega (arith, c.queue_visible_readers.ensures.most, (after g c).weight_is)

-- where they say nothing new, the instance is satisfied
pub returns-clause-further : goal.returns-clause-further
returns-clause-further g c = record {
  grows = keeps_more_same (wiring c.args.network.now) c.args.store.now;
  upstream = λ given are. are;
  underway = record {
    kinds = c.requires.kinds;
    kept = c.requires.kept;
    flags = c.requires.flags;
    seen = c.requires.seen;
    satisfied =
        satisfied_all (wiring c.args.network.now) c.args.worldview.now (λ cell. kept_in c.args.store.now cell c.args.worldview.now) c.args.agenda.now c.args.number
        c.requires.others
        (λ d. satisfied_kept (wiring c.args.network.now) c.args.store.now c.args.worldview.now c.args.known.now.infos.items c.args.known.now.supports
        c.requires.kept (attached_no (wiring c.args.network.now) c.args.number d)
        (none_here (wiring c.args.network.now) c.args.network.now.well c.args.known.now.infos.items (procedures_in c.args.registry.now) c.args.number
        (attachment c.index-instances-number.result) c.requires.registry
        (kinds_at_hand c.args.store.now c.args.worldview.now c.args.known.now.infos.items c.args.known.now.supports c.requires.kept ∙ c.requires.kinds)
        (visible_below (wiring c.args.network.now) c.args.worldview.now c.args.number c.requires.number)
        (λ d. kept_instance (wiring c.args.network.now) c.args.instances.now c.args.number c.index-instances-number.result d c.requires.instances
        (visible_below (wiring c.args.network.now) c.args.worldview.now c.args.number c.requires.number) c.index-instances-number.is)
        (subst (λ (l : List Info). GivesNone (procedures_in c.args.registry.now) l (attachment c.index-instances-number.result)) c.deref.ensures.value
        c.in_default.ensures.none) d));
  };
  between = tt;
}
