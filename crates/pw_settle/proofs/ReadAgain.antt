-- What is kept of all cells is read again, one cell after another, and merged into what is known about
-- them: what is known then is what is kept.
use Rattle.std.proofs.Common.{◌≡◌, ℕ, ◌+◌, ◌<◌, ◌≤◌, Bool, eqb, List, length, map, sym, ap, ◌∙◌, subst, arith, inl, inr}
use Rattle.std.proofs.lemmas.Bool.{cases_Bool, eqb-false, eqb-true}
use Rattle.std.proofs.lemmas.List.Elements.{All-contains}
use Rattle.pw_info.specs.declared.info.Info.{Info}
use Rattle.pw_info.specs.Information.{Implies}
use Rattle.pw_premises.specs.Premises.{Premises}
use Rattle.pw_facts.specs.declared.fact.Fact.{Fact}
use Rattle.pw_facts.specs.Facts.{shows}
use Rattle.pw_cells.specs.Cells.{Store, IsUnsaid, kept_at, kept_in}
use Rattle.pw_cells.specs.Shown.{IsKeptIn}
use Rattle.pw_network.specs.Network.{Network}
use Rattle.pw_settle.specs.Growth.{RestOnUpstreamAfter}
use Rattle.pw_settle.specs.Calls.{is_instance_visible}
use Rattle.pw_settle.specs.Settled.{info_at}
use Rattle.pw_settle.specs.Sound.{LiesUpstream, RestsUpstream}
use Rattle.pw_settle.specs.inside.Queueing.{QueuesReaders}
use Rattle.pw_settle.specs.inside.Known.{AreKept, IsAtHandFor, TakesIn, TakesInKept}
use Rattle.pw_settle.specs.inside.Since.{IsAtHand, IsReadAgain, QueuesChanged}
use Rattle.pw_settle.proofs.KeptFacts.{implies_also, implies_shown, kind-kept}
use Rattle.pw_settle.proofs.KnownParts.{AreParts, hand_parts, no_less, parts_kept, parts_taken, still_at_hand, upstream_taken}
use Rattle.pw_settle.proofs.QueuedNews.{queued_more}
use Rattle.pw_settle.proofs.TakenNews.{as_many_infos, news_known}

-- so far the first cells were read again, as many as this number: all that is kept of them is known,
-- and no less than was known before
pub record AreReadAgain (store : Store) (w : Premises) (first : List Info) (first_supports : List Premises) (count : ℕ) (infos : List Info)
    (supports : List Premises) : Type 0 where
  pub parts : AreParts store w infos supports
  pub more : (cell : ℕ) → cell < length store.cells → Implies (info_at infos cell) (info_at first cell)
  pub says : (cell : ℕ) → cell < count → cell < length store.cells → Implies (info_at infos cell) (kept_in store cell w)
  pub upstream : (network : Network) → RestOnUpstreamAfter network first_supports store supports

-- ---- one cell

-- as many are known as before
pub as_long : (store : Store) (cell : ℕ) (w : Premises) (is_news : Bool) (infos new_infos : List Info) (supports new_supports : List Premises) →
    TakesInKept store cell w is_news infos new_infos supports new_supports → length new_infos ≡ length infos
as_long store cell w is_news infos new_infos supports new_supports takes =
    elim (cases_Bool is_news) [
      | inl is ↦ let its = takes.news is in as_many_infos cell its.0 infos new_infos supports new_supports its.2
      | inr not_so ↦ ap length (takes.none not_so).1
    ]

-- what is kept of a cell rests upstream, where the facts do that are kept of it
pub kept_upstream : (network : Network) (given : ℕ → ℕ → Bool) (store : Store) (cell : ℕ) (w : Premises) (fact : Fact) → IsKeptIn store cell w fact →
    RestsUpstream network given store → LiesUpstream network given cell fact.support
kept_upstream network given store cell w fact kept rests cells upstream has p one =
    let from = kept.rests p one in
    All-contains (λ (f : Fact). LiesUpstream network given cell f.support) (kept_at store cell) from.0 (rests.kept cell) from.1 cells upstream has p from.2

module _ (store : Store) (w : Premises) (mark : ℕ) (first : List Info) (first_supports : List Premises)
    (hand : IsAtHand store w mark first first_supports) where
  -- at first none was read
  pub again_none : AreReadAgain store w first first_supports 0 first first_supports
  again_none = record {
    parts = hand_parts store w mark first first_supports hand;
    more = λ cell there u possible. possible;
    says = λ cell below there. absurd (omega (arith, below));
    upstream = λ network given rests lie. lie;
  }

  module _ (count : ℕ) (infos : List Info) (supports : List Premises) (so_far : AreReadAgain store w first first_supports count infos supports) where
    -- if no more is read, what is known is still at hand
    pub again_at_hand : IsAtHand store w mark infos supports
    again_at_hand = still_at_hand store w infos supports so_far.parts mark first first_supports hand so_far.more

    -- something is at hand for each cell
    pub again_for : (cell : ℕ) → cell < length store.cells → IsAtHandFor store cell infos supports
    again_for cell there = record {
      exists = there;
      there = omega (arith, there, so_far.parts.many);
      as_many = so_far.parts.as_many;
      kind = (so_far.parts.each cell there).kind;
    }

    -- and if more is kept of a cell than is known, more is than was known at first
    pub unsaid_first : (cell : ℕ) → cell < length store.cells → (kept : Info) → IsUnsaid (info_at infos cell) kept → IsUnsaid (info_at first cell) kept
    unsaid_first cell there kept unsaid said = unsaid (λ u possible. said u (so_far.more cell there u possible))

    -- when all were read, what is known is what is kept
    pub again_kept : length store.cells ≤ count → AreKept store w infos supports
    again_kept all = parts_kept store w infos supports so_far.parts (λ cell there. so_far.says cell (omega (arith, there, all)) there)

module _ (store : Store) (w : Premises) (first : List Info) (first_supports : List Premises) (many : length first ≡ length store.cells) (count : ℕ)
    (there : count < length store.cells) (infos : List Info) (supports : List Premises)
    (so_far : AreReadAgain store w first first_supports count infos supports) where
  -- what is known of the next cell says all that is kept
  says_more : (new_infos : List Info) → ((c : ℕ) → Implies (info_at new_infos c) (info_at infos c)) → Implies (info_at new_infos count) (kept_in store count w) →
      (c : ℕ) → c < count + 1 → c < length store.cells → Implies (info_at new_infos c) (kept_in store c w)
  says_more new_infos no_less says c below within =
      elim (cases_Bool (eqb c count)) [
        | inl same ↦ subst (λ (n : ℕ). Implies (info_at new_infos n) (kept_in store n w)) (sym (eqb-true c count same)) says
        | inr other ↦ λ u possible. so_far.says c (omega (arith, below, eqb-false c count other)) within u (no_less c u possible)
      ]

  again_known : Implies (info_at infos count) (kept_in store count w) → AreReadAgain store w first first_supports (count + 1) infos supports
  again_known says = record {
    parts = so_far.parts;
    more = so_far.more;
    says = says_more infos (λ c u possible. possible) says;
    upstream = so_far.upstream;
  }

  module _ (fact : Fact) (kept : IsKeptIn store count w fact) (new_infos : List Info) (new_supports : List Premises)
      (takes : TakesIn count fact infos new_infos supports new_supports) where
    shown : (v : Premises) → Implies (kept_in store count v) (shows v fact)
    shown v = implies_shown (kept_in store count v) fact v (kind-kept store count v ∙ sym kept.kind) (λ has. kept.larger v has)

    now_parts : AreParts store w new_infos new_supports
    now_parts = parts_taken store w infos supports so_far.parts count there fact kept.kind kept.within shown new_infos new_supports takes

    still : (c : ℕ) → Implies (info_at new_infos c) (info_at infos c)
    still = no_less store w infos supports so_far.parts count there fact kept.kind kept.within shown new_infos new_supports takes

    again_news : AreReadAgain store w first first_supports (count + 1) new_infos new_supports
    again_news = record {
      parts = now_parts;
      more = λ cell below u possible. so_far.more cell below u (still cell u possible);
      says = says_more new_infos still
          (implies_also (info_at new_infos count) fact.info (kept_in store count w) kept.info
          (news_known count fact infos new_infos supports new_supports takes (omega (arith, there, so_far.parts.many))
          ((so_far.parts.each count there).kind ∙ sym kept.kind)));
      upstream = λ network. upstream_taken store w infos supports so_far.parts count there fact kept.kind kept.within shown new_infos new_supports takes
          network first_supports (λ given rests. kept_upstream network given store count w fact kept rests) (so_far.upstream network);
    }

    queued_again : (network : Network) (visible old queued new_queued : List Bool) → IsUnsaid (info_at infos count) (kept_in store count w) →
        QueuesChanged network visible first infos old queued → QueuesReaders network visible (λ c. c ≡ count) queued new_queued →
        QueuesChanged network visible first new_infos old new_queued
    queued_again network visible old queued new_queued unsaid =
        queued_more network visible old queued new_queued store w first infos supports so_far.parts
        (λ c below. so_far.more c (omega (arith, below, many))) count there fact kept.kind
        (λ said. unsaid (implies_also (info_at infos count) fact.info (kept_in store count w) kept.info said))
        new_infos new_supports takes now_parts

  -- one cell more was read again
  pub again_more : (network : Network) (queued new_queued : List Bool) (new_infos : List Info) (new_supports : List Premises) →
      IsReadAgain network store count w infos new_infos supports new_supports queued new_queued →
      AreReadAgain store w first first_supports (count + 1) new_infos new_supports
  again_more network queued new_queued new_infos new_supports read =
      elim (cases_Bool read.is_news) [
        | inl is ↦ let its = read.taken.news is in again_news its.0 its.1 new_infos new_supports its.2
        | inr not_so ↦ let stays = read.taken.none not_so in rw (stays.1, stays.2) (again_known stays.0)
      ]

  pub again_flags : (network : Network) (queued new_queued : List Bool) (new_infos : List Info) (new_supports : List Premises) →
      IsReadAgain network store count w infos new_infos supports new_supports queued new_queued → length new_queued ≡ length queued
  again_flags network queued new_queued new_infos new_supports read =
      elim (cases_Bool read.is_news) [
        | inl is ↦ (read.news is).flags
        | inr not_so ↦ ap length (read.none not_so)
      ]

  -- and just the readers of the cells that have changed are queued
  pub again_queues : (network : Network) (old queued new_queued : List Bool) (new_infos : List Info) (new_supports : List Premises) →
      IsReadAgain network store count w infos new_infos supports new_supports queued new_queued →
      QueuesChanged network (map (is_instance_visible w) network.attached) first infos old queued →
      QueuesChanged network (map (is_instance_visible w) network.attached) first new_infos old new_queued
  again_queues network old queued new_queued new_infos new_supports read so_far_queued =
      elim (cases_Bool read.is_news) [
        | inl is ↦
            let its = read.taken.news is in
            queued_again its.0 its.1 new_infos new_supports its.2 network (map (is_instance_visible w) network.attached) old queued new_queued
            (read.taken.unsaid is) so_far_queued (read.news is)
        | inr not_so ↦
            subst (QueuesChanged network (map (is_instance_visible w) network.attached) first new_infos old) (sym (read.none not_so))
            (subst (λ (l : List Info). QueuesChanged network (map (is_instance_visible w) network.attached) first l old queued)
            (sym (read.taken.none not_so).1) so_far_queued)
      ]
