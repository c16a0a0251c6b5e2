-- Values that a settling changes in place: what is known about the cells while it runs, and what waits
-- then.
use Rattle.std.proofs.Common.{◌≡◌, ◌⊎◌, ℕ, ◌<◌, ◌≤◌, Bool, true, false, List, length, map, take, inl, inr, refl, sym, ap, ◌∙◌, subst, arith}
use Rattle.std.specs.Prelude.{◌&&◌, nat_lt, not}
use Rattle.std.specs.FinSet.{contains, contains-empty, empty, is_subset}
use Rattle.std.specs.Ordering.{nat_cmp}
use Rattle.std.proofs.lemmas.Bool.{cases_Bool, ltb-false, ltb-true}
use Rattle.std.proofs.lemmas.List.{get_or-take, get_or_default, get_or_past, length-map, length-take-le}
use Rattle.std.proofs.lemmas.List.Elements.{All-contains}
use Rattle.pw_info.specs.declared.kind.Kind.TheVariants as kinds
use Rattle.pw_info.specs.declared.info.Info.{Info}
use Rattle.pw_info.specs.Information.{kind_of, nothing, Implies}
use Rattle.pw_premises.specs.Premises.{Premises}
use Rattle.pw_premises.specs.PremiseSubsets.{empty_is_subset, is_subset_refl}
use Rattle.pw_facts.specs.declared.fact.Fact.{Fact}
use Rattle.pw_facts.specs.Facts.{IsLeastAbove}
use Rattle.pw_facts.proofs.Shown.{implies_same}
use Rattle.pw_cells.specs.Arrivals.{IsAccounted}
use Rattle.pw_cells.specs.Cells.{Store, kept_at, kept_in, kind_in_store, kinds_of, told_in}
use Rattle.pw_network.specs.Network.{Network, IsWellNetwork}
use Rattle.pw_settle.specs.Calls.{is_instance_visible, is_set, visible_at}
use Rattle.pw_settle.specs.Growth.{CanContinue, IsFitting, RestOnUpstreamAfter}
use Rattle.pw_settle.specs.Settled.{Settled, info_at, support_at}
use Rattle.pw_settle.specs.Sound.{LiesUpstream}
use Rattle.pw_settle.specs.Values.{kinds_in}
use Rattle.pw_settle.specs.inside.Queueing.{HasChanged, QueuesReaders, found_of}
use Rattle.pw_settle.specs.Due.{AreDue}
use Rattle.pw_settle.specs.inside.Known.{AreKept, SaysTold}
use Rattle.pw_settle.specs.inside.Since.{AreReadTo, IsAtHand, QueuesChanged}
use Rattle.pw_settle.proofs.FittingValues.{due_flags}
use Rattle.pw_settle.proofs.KeptFacts.{also_implies, implies_also, kind_there}
use Rattle.pw_settle.proofs.NewlyQueued.{later_new}

-- what is at hand says at least what was told
pub told_at_hand : (store : Store) (w : Premises) (mark : ℕ) (infos : List Info) (supports : List Premises) → IsAtHand store w mark infos supports →
    SaysTold store w
told_at_hand store w mark infos supports hand cell there = hand.continues.accounted.told cell (omega (arith, there, hand.many))

-- ---- what two lists of changes come to

-- readers that were queued for one reason, and then more for another, are queued for both
queued_both : (network : Network) (visible : List Bool) (IsFirst IsNext IsOne : ℕ → Type 0) (old queued new : List Bool) →
    ((cell : ℕ) → IsFirst cell → IsOne cell) → ((cell : ℕ) → IsNext cell → IsOne cell) → ((cell : ℕ) → IsOne cell → IsFirst cell ⊎ IsNext cell) →
    QueuesReaders network visible IsFirst old queued → QueuesReaders network visible IsNext queued new → QueuesReaders network visible IsOne old new
queued_both network visible IsFirst IsNext IsOne old queued new first_one next_one either first next = record {
  flags = next.flags ∙ first.flags;
  stay = λ n flag. next.stay n (first.stay n flag);
  readers = λ cell n one reader seen. elim (either cell one) [
    | inl is ↦ next.stay n (first.readers cell n is reader seen)
    | inr is ↦ next.readers cell n is reader seen
  ];
  others = λ n flag. elim (next.others n flag) [
    | inl was ↦ elim (first.others n was) [
      | inl at_first ↦ inl at_first
      | inr (seen, (cell, is, reader)) ↦ inr (seen, (cell, first_one cell is, reader))
    ]
    | inr (seen, (cell, is, reader)) ↦ inr (seen, (cell, next_one cell is, reader))
  ];
}

-- of a cell past the last that was found, it matters only what is known now
changed_past : (before now other others : List Info) (cell : ℕ) → length before ≤ cell → length other ≤ cell → info_at others cell ≡ info_at now cell →
    HasChanged before now cell → HasChanged other others cell
changed_past before now other others cell past other_past same has implies =
    has (subst (λ (i : Info). Implies i (info_at now cell)) (sym (get_or_past before cell (nothing (kind_of (info_at now cell))) past))
    (subst (λ (i : Info). Implies (nothing (kind_of i)) i) same
    (subst (λ (i : Info). Implies i (info_at others cell)) (get_or_past other cell (nothing (kind_of (info_at others cell))) other_past) implies)))

-- ---- after the cells that came since were read

module _ (network : Network) (store : Store) (same : kinds_of store ≡ kinds_in network) (before : Settled) (fits : IsFitting network store before)
    (continues : CanContinue store before) (infos : List Info) (supports : List Premises)
    (read : AreReadTo store before.worldview (length store.cells) before.infos infos before.supports supports) where
  -- what holds of the first cells and of those that were read holds of all
  of_each : (P : ℕ → Type 0) → ((cell : ℕ) → cell < length before.infos → P cell) →
      ((cell : ℕ) → length before.infos ≤ cell → cell < length store.cells → P cell) → (cell : ℕ) → cell < length store.cells → P cell
  of_each P first next cell there =
      elim (cases_Bool (nat_lt cell (length before.infos))) [
        | inl is ↦ first cell (ltb-true cell (length before.infos) is)
        | inr later ↦ next cell (ltb-false cell (length before.infos) later) there
      ]

  -- past the last cell no premises are listed
  no_premises : (cell : ℕ) → nat_lt cell (length store.cells) ≡ false → support_at supports cell ≡ empty
  no_premises cell past = get_or_past supports cell empty (omega (arith, ltb-false cell (length store.cells) past, read.as_many))

  within_read : (cell : ℕ) → is_subset (support_at supports cell) before.worldview ≡ true
  within_read cell =
      elim (cases_Bool (nat_lt cell (length store.cells))) [
        | inl is ↦
            of_each (λ c. is_subset (support_at supports c) before.worldview ≡ true)
            (λ c below. ap (λ (s : Premises). is_subset s before.worldview) (read.supports_stay c below) ∙ continues.within c)
            (λ c past there. (read.read c past there).within) cell (ltb-true cell (length store.cells) is)
        | inr past ↦ ap (λ (s : Premises). is_subset s before.worldview) (no_premises cell past) ∙ empty_is_subset before.worldview
      ]

  enough_read : (cell : ℕ) → cell < length store.cells → IsLeastAbove (support_at supports cell) (kept_in store cell) (info_at infos cell)
  enough_read =
      of_each (λ c. IsLeastAbove (support_at supports c) (kept_in store c) (info_at infos c))
      (λ c below. subst (λ (i : Info). IsLeastAbove (support_at supports c) (kept_in store c) i) (sym (read.infos_stay c below))
      (subst (λ (s : Premises). IsLeastAbove s (kept_in store c) (info_at before.infos c)) (sym (read.supports_stay c below)) (continues.enough c below)))
      (λ c past there. (read.read c past there).larger)

  -- with what came since, it says what is kept
  accounted_read : IsAccounted store before.mark before.worldview (length infos) (info_at infos)
  accounted_read = record {
    marked = continues.accounted.marked;
    there = omega (arith, read.many);
    told = λ cell below. of_each (λ c. Implies (kept_in store c before.worldview) (told_in store c before.worldview)) continues.accounted.told
        (λ c past there. also_implies (told_in store c before.worldview) (info_at infos c) (kept_in store c before.worldview)
        (read.read c past there).info (read.read c past there).told) cell (omega (arith, below, read.many));
    kept = λ cell below. of_each (λ c. Implies (kept_in store c before.worldview) (info_at infos c))
        (λ c first. implies_also (kept_in store c before.worldview) (info_at before.infos c) (info_at infos c)
        (sym (read.infos_stay c first)) (continues.accounted.kept c first))
        (λ c past there. implies_same (kept_in store c before.worldview) (info_at infos c) (sym (read.read c past there).info))
        cell (omega (arith, below, read.many));
    came = continues.accounted.came;
    all = λ list is cell below info kind says came. elim (cases_Bool (nat_lt cell (length before.infos))) [
      | inl first ↦
          continues.accounted.all list is cell (ltb-true cell (length before.infos) first) info kind
          (implies_also info (info_at infos cell) (info_at before.infos cell) (read.infos_stay cell (ltb-true cell (length before.infos) first)) says) came
      | inr later ↦
          implies_also info (info_at infos cell) (kept_in store cell before.worldview)
          (read.read cell (ltb-false cell (length before.infos) later) (omega (arith, below, read.many))).info says
    ];
  }

  -- so a settling can continue from it
  pub read_at_hand : IsAtHand store before.worldview before.mark infos supports
  read_at_hand = record {
    many = read.many;
    kinds = λ cell below. of_each (λ c. kind_of (info_at infos c) ≡ kind_in_store store c)
        (λ c first. ap kind_of (read.infos_stay c first) ∙ fits.kinds c first ∙ sym (kind_there network store same c))
        (λ c past there. (read.read c past there).kind) cell (omega (arith, below, read.many));
    continues = record {
      as_many = read.as_many ∙ sym read.many;
      within = within_read;
      enough = λ cell below. enough_read cell (omega (arith, below, read.many));
      accounted = accounted_read;
    };
  }

  -- and its premises lie upstream, if what is kept and the earlier values rest there
  pub read_upstream : RestOnUpstreamAfter network before.supports store supports
  read_upstream given rests lie cell =
      elim (cases_Bool (nat_lt cell (length store.cells))) [
        | inl is ↦
            of_each (λ c. LiesUpstream network given c (support_at supports c))
            (λ c below. subst (LiesUpstream network given c) (sym (read.supports_stay c below)) (lie c))
            (λ c past there cells upstream has p one.
            let fact = (read.read c past there).rests p one in
            All-contains (λ (f : Fact). LiesUpstream network given c f.support) (kept_at store c) fact.0 (rests.kept c) fact.1 cells upstream has p fact.2)
            cell (ltb-true cell (length store.cells) is)
        | inr past ↦
            λ cells upstream has p one.
            let none : contains (support_at supports cell) p ≡ false = ap (λ (s : Premises). contains s p) (no_premises cell past) ∙ contains-empty nat_cmp p in
            absurd (cc)
      ]

  -- ---- after all that came since is taken in

  module _ (now : List Info) (now_supports : List Premises) (kept : AreKept store before.worldview now now_supports) where
    abbrev first : List Info
    first = take (length before.infos) infos

    no_more : length before.infos ≤ length infos
    no_more = omega (arith, continues.accounted.there, read.many)

    -- of the first cells nothing was read
    first_unchanged : (cell : ℕ) → cell < length before.infos → HasChanged first infos cell → ⊥
    first_unchanged cell below has =
        has (implies_same (found_of first infos cell) (info_at infos cell)
        (get_or-take (length before.infos) infos cell (nothing (kind_of (info_at infos cell))) below
        ∙ get_or_default infos cell (nothing (kind_of (info_at infos cell))) (nothing kinds.Interval) (omega (arith, below, no_more))))

    found_first : (cell : ℕ) → cell < length before.infos → found_of before.infos now cell ≡ found_of infos now cell
    found_first cell below =
        get_or_default before.infos cell (nothing (kind_of (info_at now cell))) (nothing kinds.Interval) below
        ∙ sym (read.infos_stay cell below)
        ∙ sym (get_or_default infos cell (nothing (kind_of (info_at now cell))) (nothing kinds.Interval) (omega (arith, below, no_more)))

    -- and about those that were read nothing came
    read_now : (cell : ℕ) → length before.infos ≤ cell → cell < length store.cells → info_at infos cell ≡ info_at now cell
    read_now cell past there = (read.read cell past there).info ∙ sym (kept.infos_are cell)

    read_unchanged : (cell : ℕ) → length before.infos ≤ cell → cell < length store.cells → HasChanged infos now cell → ⊥
    read_unchanged cell past there has =
        has (implies_same (found_of infos now cell) (info_at now cell)
        (get_or_default infos cell (nothing (kind_of (info_at now cell))) (nothing kinds.Interval) (omega (arith, there, read.many))
        ∙ read_now cell past there))

    first_past : (cell : ℕ) → length before.infos ≤ cell → length first ≤ cell
    first_past cell past = omega (arith, past, length-take-le (length before.infos) infos no_more)

    changed_first : (cell : ℕ) → (cell < length infos) × HasChanged first infos cell → (cell < length now) × HasChanged before.infos now cell
    changed_first cell (there, has) =
        elim (cases_Bool (nat_lt cell (length before.infos))) [
          | inl is ↦ absurd (first_unchanged cell (ltb-true cell (length before.infos) is) has)
          | inr later ↦
              let past = ltb-false cell (length before.infos) later in (
                omega (arith, there, read.many, kept.many),
                changed_past first infos before.infos now cell (first_past cell past) past
                    (sym (read_now cell past (omega (arith, there, read.many)))) has,
              )
        ]

    changed_next : (cell : ℕ) → (cell < length now) × HasChanged infos now cell → (cell < length now) × HasChanged before.infos now cell
    changed_next cell (there, has) =
        elim (cases_Bool (nat_lt cell (length before.infos))) [
          | inl is ↦ (
            there,
            λ implies. has (subst (λ (i : Info). Implies i (info_at now cell)) (found_first cell (ltb-true cell (length before.infos) is)) implies),
          )
          | inr later ↦ absurd (read_unchanged cell (ltb-false cell (length before.infos) later) (omega (arith, there, kept.many)) has)
        ]

    changed_either : (cell : ℕ) → (cell < length now) × HasChanged before.infos now cell →
        ((cell < length infos) × HasChanged first infos cell) ⊎ ((cell < length now) × HasChanged infos now cell)
    changed_either cell (there, has) =
        elim (cases_Bool (nat_lt cell (length before.infos))) [
          | inl is ↦ inr (
            there,
            λ implies. has (subst (λ (i : Info). Implies i (info_at now cell)) (sym (found_first cell (ltb-true cell (length before.infos) is))) implies),
          )
          | inr later ↦
              let past = ltb-false cell (length before.infos) later in
              inl (
                omega (arith, there, read.many, kept.many),
                changed_past before.infos now first infos cell past (first_past cell past) (read_now cell past (omega (arith, there, kept.many))) has,
              )
        ]

    pub queued_since : (visible old queued new : List Bool) → QueuesChanged network visible first infos old queued →
        QueuesChanged network visible infos now queued new → QueuesChanged network visible before.infos now old new
    queued_since visible old queued new =
        queued_both network visible (λ cell. (cell < length infos) × HasChanged first infos cell) (λ cell. (cell < length now) × HasChanged infos now cell)
        (λ cell. (cell < length now) × HasChanged before.infos now cell) old queued new changed_first changed_next changed_either

    -- the instances wait that are due
    pub due_since : IsWellNetwork network → (old queued new : List Bool) → length old ≡ length network.attached →
        ((n : ℕ) → is_set old n ≡ (visible_at network before.worldview n && not (nat_lt n before.instances))) →
        QueuesChanged network (map (is_instance_visible before.worldview) network.attached) first infos old queued →
        QueuesChanged network (map (is_instance_visible before.worldview) network.attached) infos now queued new →
        AreDue network store before.worldview before new
    due_since well old queued new many later one two =
        let visible : List Bool = map (is_instance_visible before.worldview) network.attached in
        due_flags network well store before.worldview same before fits (is_subset_refl before.worldview) now now_supports kept visible old new refl
        (many ∙ sym (length-map network.attached (is_instance_visible before.worldview)))
        (λ n. later n ∙ later_new network before visible refl n) (queued_since visible old queued new one two)
