use Rattle.std.proofs.Common.{◌≡◌, ◌+◌, ◌<◌, ◌≤◌, Bool, List, ◌++◌, length, map, take, drop, refl, sym, ap, subst, ◌∙◌, inl, inr, arith}
use Rattle.std.specs.List.{count_by}
use Rattle.std.proofs.lemmas.List.{length-map, length-set}
use Rattle.pw_info.specs.declared.info.Info.{Info}
use Rattle.pw_info.specs.Information.{kind_of}
use Rattle.pw_network.specs.Wiring.{wiring}
use Rattle.pw_network.specs.Readers.{readers_of}
use Rattle.pw_settle.specs.Calls.{is_instance_visible, is_set, reader_count, tally}
use Rattle.pw_settle.specs.Settled.{info_at}
use Rattle.pw_settle.specs.Values.{attached_no}
use Rattle.pw_settle.specs.inside.Aside.{weight_of}
use Rattle.pw_settle.specs.inside.Known.{GivesNews, GivesNone, IsNewTo, IsPlaced, TakesIn, news_on}
use Rattle.pw_settle.specs.inside.Progress.{IsNews}
use Rattle.pw_settle.proofs.AsideNews.{IsAfterAside, after_aside, says_same}
use Rattle.pw_settle.proofs.AsideStarts.{found_kinds}
use Rattle.pw_settle.proofs.KeptProgress.{no_instance, satisfied_all, visible_below}
use Rattle.pw_settle.proofs.NewsLemmas.{inputs_there, kept_instance, news_here, none_here, output_kind, output_there, placed_here}
use Rattle.pw_facts.specs.declared.fact.Fact.{Fact}
use Rattle.pw_network.specs.inside.Held.{attachment}
use Rattle.pw_procs.specs.Registry.{procedures_in}
use Rattle.pw_network.specs.Network.{Attached}
use Rattle.pw_settle.proofs.SourceLists.{came_back}
use Rattle.pw_settle.proofs.calling_aside.call_aside.Given as given
use Rattle.pw_settle.proofs.calling_aside.call_aside.Goals as goal
use Rattle.pw_settle.proofs.calling_aside.call_aside.Goals.{After-deref_mut, After-queue_readers}

pub bounds-instances-number : goal.bounds-instances-number
bounds-instances-number g c =
    omega (
      arith,
      visible_below (wiring c.args.network.now) c.args.worldview.now c.args.number c.requires.number,
      ap length c.requires.instances,
      length-map c.args.instances.now attachment,
    )

pub news_on-requires-clause-placed : goal.news_on-requires-clause-placed
news_on-requires-clause-placed g c =
    subst (λ (l : List Info). IsPlaced (procedures_in c.args.registry.now) (map kind_of l) (attachment c.index-instances-number.result).instance) (sym c.deref.ensures.value)
    (placed_here (wiring c.args.network.now) c.args.network.now.well c.args.known.now.infos.items (procedures_in c.args.registry.now) c.args.number
    (attachment c.index-instances-number.result) c.requires.registry
    (found_kinds (wiring c.args.network.now) c.args.store.now c.args.worldview.now c.args.known.now.infos.items c.args.known.now.supports c.requires.found)
    (visible_below (wiring c.args.network.now) c.args.worldview.now c.args.number c.requires.number)
    (λ d. kept_instance (wiring c.args.network.now) c.args.instances.now c.args.number c.index-instances-number.result d c.requires.instances
    (visible_below (wiring c.args.network.now) c.args.worldview.now c.args.number c.requires.number) c.index-instances-number.is))

pub news_on-requires-clause-there : goal.news_on-requires-clause-there
news_on-requires-clause-there g c =
    subst (λ (l : List Info). c.index-instances-number.result.output < length l) (sym c.deref.ensures.value)
    (output_there (wiring c.args.network.now) c.args.network.now.well c.args.known.now.infos.items (procedures_in c.args.registry.now) c.args.number
    (attachment c.index-instances-number.result) c.requires.registry
    (found_kinds (wiring c.args.network.now) c.args.store.now c.args.worldview.now c.args.known.now.infos.items c.args.known.now.supports c.requires.found)
    (visible_below (wiring c.args.network.now) c.args.worldview.now c.args.number c.requires.number)
    (λ d. kept_instance (wiring c.args.network.now) c.args.instances.now c.args.number c.index-instances-number.result d c.requires.instances
    (visible_below (wiring c.args.network.now) c.args.worldview.now c.args.number c.requires.number) c.index-instances-number.is))

-- its number is one of the instances'
low : (g : given.Over) (c : After-deref_mut g) → c.args.number < length (wiring c.args.network.now).attached
low g c = visible_below (wiring c.args.network.now) c.args.worldview.now c.args.number c.requires.number

-- the instance that is called
called : (g : given.Over) (c : After-deref_mut g) (d : Attached) →
    attached_no (wiring c.args.network.now) c.args.number d ≡ attachment c.index-instances-number.result
called g c d =
    kept_instance (wiring c.args.network.now) c.args.instances.now c.args.number c.index-instances-number.result d c.requires.instances
    (low g c) c.index-instances-number.is

-- its news, as a fact on what is at hand
abbrev fact : (g : given.Over) (c : After-deref_mut g) → Fact
fact g c = news_on c.args.known.now.supports (attachment c.index-instances-number.result) c.in-Some.info

-- what it gave, of the informations at hand
gives : (g : given.Over) (c : After-deref_mut g) →
    GivesNews (procedures_in c.args.registry.now) c.args.known.now.infos.items (attachment c.index-instances-number.result) c.in-Some.info
gives g c =
    subst (λ (l : List Info). GivesNews (procedures_in c.args.registry.now) l (attachment c.index-instances-number.result) c.in-Some.info) c.deref.ensures.value
    c.in-Some.ensures.news

news_is : (g : given.Over) (c : After-deref_mut g) →
    IsNews (wiring c.args.network.now) c.args.known.now.infos.items c.args.known.now.supports
    (attached_no (wiring c.args.network.now) c.args.number no_instance) c.index-instances-number.result.output (fact g c)
news_is g c =
    news_here (wiring c.args.network.now) c.args.network.now.well c.args.known.now.infos.items (procedures_in c.args.registry.now) c.args.number
    (attachment c.index-instances-number.result) c.requires.registry
    (found_kinds (wiring c.args.network.now) c.args.store.now c.args.worldview.now c.args.known.now.infos.items c.args.known.now.supports c.requires.found) (low g c) (called g c)
    c.in-Some.info (gives g c) c.args.known.now.supports no_instance

-- it is about a cell, and of its kind
below : (g : given.Over) (c : After-deref_mut g) → c.index-instances-number.result.output < length c.args.known.now.infos.items
below g c =
    output_there (wiring c.args.network.now) c.args.network.now.well c.args.known.now.infos.items (procedures_in c.args.registry.now) c.args.number
    (attachment c.index-instances-number.result) c.requires.registry
    (found_kinds (wiring c.args.network.now) c.args.store.now c.args.worldview.now c.args.known.now.infos.items c.args.known.now.supports c.requires.found) (low g c) (called g c)

of_kind : (g : given.Over) (c : After-deref_mut g) →
    kind_of c.in-Some.info ≡ kind_of (info_at c.args.known.now.infos.items c.index-instances-number.result.output)
of_kind g c =
    output_kind (wiring c.args.network.now) c.args.network.now.well c.args.known.now.infos.items (procedures_in c.args.registry.now) c.args.number
    (attachment c.index-instances-number.result) c.requires.registry
    (found_kinds (wiring c.args.network.now) c.args.store.now c.args.worldview.now c.args.known.now.infos.items c.args.known.now.supports c.requires.found) (low g c) (called g c)
    c.in-Some.info (gives g c).kind

pub take_in_news-requires-clause-inputs : goal.take_in_news-requires-clause-inputs
take_in_news-requires-clause-inputs g c =
    let d = (goal.at.take_in_news-requires-clause-inputs g c).After-deref_mut in
    inputs_there (wiring c.args.network.now) c.args.network.now.well c.args.known.now.infos.items (wiring c.args.network.now).declared.procedures c.args.number
    (attachment c.index-instances-number.result) refl
    (found_kinds (wiring c.args.network.now) c.args.store.now c.args.worldview.now c.args.known.now.infos.items c.args.known.now.supports c.requires.found)
    (low g d) (called g d) (length c.args.known.now.supports) c.requires.found.as_many

pub take_in_news-requires-clause-new : goal.take_in_news-requires-clause-new
take_in_news-requires-clause-new g c =
    let d = (goal.at.take_in_news-requires-clause-new g c).After-deref_mut in
    subst (λ (l : List Info). IsNewTo l c.args.known.now.supports c.index-instances-number.result.output c.in-Some.info) (sym c.deref_mut.ensures.value)
    (record {
      there = below g d;
      as_many = c.requires.found.as_many;
      kind = of_kind g d;
      news = (news_is g d).new;
    })

-- how they are taken in
taken : (g : given.Over) (c : After-queue_readers g) →
    TakesIn c.index-instances-number.result.output (fact g (goal.at.returns-in_ok-take_in_news-clause-further g c).After-deref_mut) c.args.known.now.infos.items c.take_in_news.new.infos c.args.known.now.supports c.take_in_news.new.supports
taken g c =
    subst (λ (l : List Info). TakesIn c.index-instances-number.result.output (fact g (goal.at.returns-in_ok-take_in_news-clause-further g c).After-deref_mut) l c.take_in_news.new.infos c.args.known.now.supports c.take_in_news.new.supports)
    c.deref_mut.ensures.value c.in_ok-take_in_news.ensures.taken

-- and what there is afterwards
after : (g : given.Over) (c : After-queue_readers g) →
    IsAfterAside (wiring c.args.network.now) c.args.store.now c.args.worldview.now c.args.known.now.infos.items c.take_in_news.new.infos c.args.known.now.supports c.take_in_news.new.supports
    c.args.number c.index-instances-number.result.output
after g c =
    after_aside (wiring c.args.network.now) c.args.network.now.well c.args.store.now c.requires.kinds c.args.worldview.now
    c.args.known.now.infos.items c.args.known.now.supports c.requires.found c.args.number c.requires.number c.index-instances-number.result.output (fact g (goal.at.returns-in_ok-take_in_news-clause-further g c).After-deref_mut) (news_is g (goal.at.returns-in_ok-take_in_news-clause-further g c).After-deref_mut)
    (below g (goal.at.returns-in_ok-take_in_news-clause-further g c).After-deref_mut) (of_kind g (goal.at.returns-in_ok-take_in_news-clause-further g c).After-deref_mut)
    c.take_in_news.new.infos c.take_in_news.new.supports (taken g c)

-- the informations at hand come back whole
infos_back : (g : given.Over) (c : After-queue_readers g) →
    take c.args.known.now.infos.len (c.take_in_news.new.infos ++ drop (length c.take_in_news.new.infos) c.args.known.now.infos.items) ≡ c.take_in_news.new.infos
infos_back g c =
    came_back c.take_in_news.new.infos c.args.known.now.infos.items c.args.known.now.infos.len
    (sym c.deref.ensures.len ∙ ap length c.deref.ensures.value) (ap length (taken g c).infos_are ∙ length-set c.args.known.now.infos.items c.index-instances-number.result.output _)

pub returns-in_ok-take_in_news-clause-most : goal.returns-in_ok-take_in_news-clause-most
returns-in_ok-take_in_news-clause-most g c =
    let readers : count_by (is_set c.args.visible.now) (readers_of (wiring c.args.network.now) c.index-instances-number.result.output)
    ≡ reader_count (wiring c.args.network.now) c.args.worldview.now c.index-instances-number.result.output =
    ap (λ (l : List Bool). count_by (is_set l) (readers_of (wiring c.args.network.now) c.index-instances-number.result.output)) c.requires.visible in
    let falls = (after g c).weight_is in
    subst (λ (l : List Info). tally c.queue_readers.new.agenda + weight_of (wiring c.args.network.now) c.args.worldview.now l
    ≤ tally c.args.agenda.now + weight_of (wiring c.args.network.now) c.args.worldview.now c.args.known.now.infos.items) (sym (infos_back g c))
    (omega (arith, c.queue_readers.ensures.most, readers, falls))

pub queue_readers-requires-clause-flags : goal.queue_readers-requires-clause-flags
queue_readers-requires-clause-flags g c = c.requires.flags

pub queue_readers-requires-clause-all : goal.queue_readers-requires-clause-all
queue_readers-requires-clause-all g c =
    ap length c.requires.visible ∙ length-map (wiring c.args.network.now).attached (is_instance_visible c.args.worldview.now)

pub returns-in_default-clause-most : goal.returns-in_default-clause-most
returns-in_default-clause-most g c = omega arith

pub returns-in_ok-take_in_news-clause-least : goal.returns-in_ok-take_in_news-clause-least
returns-in_ok-take_in_news-clause-least g c = c.queue_readers.ensures.least

pub returns-in_ok-take_in_news-clause-further : goal.returns-in_ok-take_in_news-clause-further
returns-in_ok-take_in_news-clause-further g c =
    rw (infos_back g c) (
    record {
      underway = record {
        kinds = c.requires.kinds;
        found = (after g c).found;
        flags = c.queue_readers.ensures.readers.flags ∙ c.requires.flags;
        seen = λ n flag. elim (c.queue_readers.ensures.readers.others n flag) [
          | inl was ↦ c.requires.seen n was
          | inr read ↦ sym (ap (λ (l : List Bool). is_set l n) c.requires.visible) ∙ read.0
        ];
        satisfied = (after g c).satisfied c.args.agenda.now c.queue_readers.new.agenda c.requires.others
            (λ n reader seen. c.queue_readers.ensures.readers.readers c.index-instances-number.result.output n refl reader
            (ap (λ l. is_set l n) c.requires.visible ∙ seen))
            c.queue_readers.ensures.readers.stay;
      };
      more = (after g c).more;
      lie = (after g c).lie;
    })

pub returns-in_default-clause-further : goal.returns-in_default-clause-further
returns-in_default-clause-further g c = record {
  underway = record {
    kinds = c.requires.kinds;
    found = c.requires.found;
    flags = c.requires.flags;
    seen = c.requires.seen;
    satisfied =
        satisfied_all (wiring c.args.network.now) c.args.worldview.now (info_at c.args.known.now.infos.items) c.args.agenda.now c.args.number
        c.requires.others
        (none_here (wiring c.args.network.now) c.args.network.now.well c.args.known.now.infos.items (procedures_in c.args.registry.now) c.args.number
        (attachment c.index-instances-number.result) c.requires.registry
        (found_kinds (wiring c.args.network.now) c.args.store.now c.args.worldview.now c.args.known.now.infos.items c.args.known.now.supports c.requires.found)
        (visible_below (wiring c.args.network.now) c.args.worldview.now c.args.number c.requires.number)
        (λ d. kept_instance (wiring c.args.network.now) c.args.instances.now c.args.number c.index-instances-number.result d c.requires.instances
        (visible_below (wiring c.args.network.now) c.args.worldview.now c.args.number c.requires.number) c.index-instances-number.is)
        (subst (λ (l : List Info). GivesNone (procedures_in c.args.registry.now) l (attachment c.index-instances-number.result)) c.deref.ensures.value
        c.in_default.ensures.none));
  };
  more = says_same c.args.known.now.infos.items c.args.known.now.supports;
  lie = λ given rests lie. lie;
}
