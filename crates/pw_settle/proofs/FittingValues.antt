-- Values of a settling: that they fit what is there then, and what of them still holds later.
use Rattle.std.proofs.Common.{◌≡◌, ℕ, ◌<◌, ◌≤◌, Bool, true, false, ◌∷◌, [], List, Contains, length, map, inl, inr, refl, sym, ap, ◌∙◌, subst, arith}
use Rattle.std.specs.Prelude.{◌&&◌, nat_eq, nat_lt, slice_index_or}
use Rattle.std.specs.List.{list_any}
use Rattle.std.specs.FinSet.{is_subset}
use Rattle.std.proofs.Math.Path.{fun_ext}
use Rattle.std.proofs.lemmas.Bool.{cases_Bool, false_from_ne_true, ltb-false, ltb-true, not-false, or_left, or_right}
use Rattle.std.proofs.lemmas.Bool.Decides.{nat_tests}
use Rattle.std.proofs.lemmas.List.{get_or_default, get_or_past, length-map}
use Rattle.std.proofs.lemmas.List.Elements.{All-contains}
use Rattle.pw_kinds.proofs.Order.{both_true, true_both}
use Rattle.pw_info.specs.declared.kind.Kind.{Kind}
use Rattle.pw_info.specs.declared.kind.Kind.TheVariants as kinds
use Rattle.pw_info.specs.declared.info.Info.{Info}
use Rattle.pw_info.specs.Information.{allows, kind_of, nothing, Implies}
use Rattle.pw_info.proofs.Informations.{Implies-antisym, implies_nothing, kind-closest}
use Rattle.pw_premises.specs.Premises.{Premises}
use Rattle.pw_cells.specs.Cells.{Cell, Store, cell_at, kept_in, kept_of, kinds_of, new_cell}
use Rattle.pw_cells.proofs.Together.{larger_shown}
use Rattle.pw_procs.specs.Procedure.{Procedure, value_by}
use Rattle.pw_network.specs.Network.{Attached, Network, IsWellNetwork}
use Rattle.pw_settle.specs.Calls.{is_set}
use Rattle.pw_settle.specs.Calls.{is_instance_visible, visible_at}
use Rattle.pw_settle.specs.inside.Queueing.{HasChanged, QueuesReaders, found_of}
use Rattle.pw_settle.specs.Due.{AreDue, IsDue, is_new}
use Rattle.pw_settle.specs.Growth.{IsFitting, said_of}
use Rattle.pw_settle.specs.inside.Known.{AreKept}
use Rattle.pw_settle.specs.inside.Progress.{AreSatisfied}
use Rattle.pw_settle.specs.Values.{IsSatisfied, attached_no}
use Rattle.pw_settle.specs.inside.Known.{IsPlaced}
use Rattle.pw_settle.specs.Settled.{Settled, info_at}
use Rattle.pw_settle.specs.Sources.{IsImplied}
use Rattle.pw_settle.specs.Values.{kinds_in, numbered}
use Rattle.pw_settle.proofs.KeptFacts.{implies_also, kind-kept, kind_there}
use Rattle.pw_settle.proofs.KeptProgress.{reader_listed, visible_no}
use Rattle.pw_settle.proofs.PlacedInstances.{accepted, all_sources, the_source}
use Rattle.pw_settle.proofs.SettledValues.{all_placed, kinds_many}

-- what is known about all cells is said about each
said_known : (network : Network) (store : Store) (w : Premises) (settled : Settled) → kinds_of store ≡ kinds_in network →
    length settled.infos ≡ length store.cells → ((cell : ℕ) → info_at settled.infos cell ≡ kept_in store cell w) →
    (cell : ℕ) → said_of network settled cell ≡ kept_in store cell w
said_known network store w settled same many are cell =
    elim (cases_Bool (nat_lt cell (length settled.infos))) [
      | inl is ↦
          get_or_default settled.infos cell (nothing ((numbered (kinds_in network)).kind cell)) (nothing kinds.Interval)
          (ltb-true cell (length settled.infos) is) ∙ are cell
      | inr not ↦
          let past : length settled.infos ≤ cell = ltb-false cell (length settled.infos) not in
          let kinds_past : length (kinds_in network) ≤ cell = omega (arith, past, many, length-map store.cells (λ (x : Cell). x.kind), ap length same) in
          get_or_past settled.infos cell (nothing ((numbered (kinds_in network)).kind cell)) past
          ∙ ap nothing (get_or_past (kinds_in network) cell kinds.Interval kinds_past)
          ∙ sym (get_or_past settled.infos cell (nothing kinds.Interval) past) ∙ are cell
    ]

-- values that are what is kept, and satisfy all that is visible, fit
pub fits_now : (network : Network) → IsWellNetwork network → (store : Store) (settled : Settled) → kinds_of store ≡ kinds_in network →
    settled.instances ≡ length network.attached → AreKept store settled.worldview settled.infos settled.supports →
    (queued : List Bool) → AreSatisfied network settled.worldview (λ cell. kept_in store cell settled.worldview) queued →
    ((n : ℕ) → is_set queued n ≡ false) → IsFitting network store settled
fits_now network well store settled same all kept queued satisfied done = record {
  instances = omega (arith, all);
  cells = omega (arith, kept.many, length-map store.cells (λ (x : Cell). x.kind), ap length same, kinds_many network well);
  kinds = λ cell below. ap kind_of (kept.infos_are cell) ∙ kind-kept store cell settled.worldview ∙ kind_there network store same cell;
  kept = λ cell below v possible. subst (λ (i : Info). allows i v ≡ true) (sym (kept.infos_are cell)) possible;
  satisfied = λ number d below seen.
      subst (λ (known : ℕ → Info). IsSatisfied network known (attached_no network number d))
      (sym (fun_ext (said_known network store settled.worldview settled same kept.many kept.infos_are)))
      (satisfied number d (omega (arith, below, all)) seen (done number));
}

-- ---- going on from values that fit

-- what is not seen to fail of an information holds
pub implies_stable : (a b : Info) → ((Implies a b → ⊥) → ⊥) → Implies a b
implies_stable a b not_not v possible =
    elim (cases_Bool (allows b v)) [
      | inl is ↦ is
      | inr not ↦ absurd (not_not (λ implies. let is = implies v possible in absurd (cc)))
    ]

-- cells of which the same is known, where an instance reads them
same_read : (before now : ℕ → Info) (inputs : List ℕ) → ((c : ℕ) → list_any (nat_eq c) inputs ≡ true → now c ≡ before c) → map now inputs ≡ map before inputs
same_read before now [] same = refl
same_read before now (c ∷ inputs) same = λ i.
    same c (or_left (nat_eq c c) (list_any (nat_eq c) inputs) (itself c)) i
    ∷ same_read before now inputs (λ d among. same d (or_right (nat_eq d c) (list_any (nat_eq d) inputs) among)) i
  where
    itself : (n : ℕ) → nat_eq n n ≡ true
    itself n = grind (arith, nat_tests)

-- an instance that was satisfied by what was known is satisfied by what is known now, if of its
-- inputs the same is known
pub satisfied_still : (network : Network) (well : IsWellNetwork network) (a : Attached) → Contains network.attached a → (before now : ℕ → Info) →
    map now a.instance.inputs ≡ map before a.instance.inputs → Implies (now a.instance.output) (before a.instance.output) →
    IsSatisfied network before a → IsSatisfied network now a
satisfied_still network well a there before now same more satisfied =
    all_sources network.declared.procedures (kinds_in network) a.instance placed (IsImplied now)
    (λ v possible. subst (λ (infos : List Info). allows (value_by procedure infos) v ≡ true) (sym same)
    (the_source network.declared.procedures (kinds_in network) a.instance placed (IsImplied before) satisfied v (more v possible)))
  where
    placed : IsPlaced network.declared.procedures (kinds_in network) a.instance
    placed = All-contains (λ (b : Attached). IsPlaced network.declared.procedures (kinds_in network) b.instance) network.attached a (all_placed network well) there

    procedure : Procedure
    procedure = (accepted network.declared.procedures (kinds_in network) a.instance placed).0

module _ (network : Network) (well : IsWellNetwork network) (store : Store) (w : Premises) (same : kinds_of store ≡ kinds_in network)
    (settled : Settled) (fits : IsFitting network store settled) (inside : is_subset settled.worldview w ≡ true) where
  abbrev now : ℕ → Info
  now cell = kept_in store cell w

  kind-now : (cell : ℕ) → kind_of (now cell) ≡ (numbered (kinds_in network)).kind cell
  kind-now cell = kind-kept store cell w ∙ kind_there network store same cell

  -- what is said about a cell below the last is what was found, past it nothing
  said_here : (cell : ℕ) → cell < length settled.infos → said_of network settled cell ≡ info_at settled.infos cell
  said_here cell below = get_or_default settled.infos cell (nothing ((numbered (kinds_in network)).kind cell)) (nothing kinds.Interval) below

  said_past : (cell : ℕ) → length settled.infos ≤ cell → said_of network settled cell ≡ nothing ((numbered (kinds_in network)).kind cell)
  said_past cell past = get_or_past settled.infos cell (nothing ((numbered (kinds_in network)).kind cell)) past

  kind-said : (cell : ℕ) → kind_of (said_of network settled cell) ≡ (numbered (kinds_in network)).kind cell
  kind-said cell =
      elim (cases_Bool (nat_lt cell (length settled.infos))) [
        | inl is ↦ let below = ltb-true cell (length settled.infos) is in ap kind_of (said_here cell below) ∙ fits.kinds cell below
        | inr not ↦ ap kind_of (said_past cell (ltb-false cell (length settled.infos) not)) ∙ kind-closest ((numbered (kinds_in network)).kind cell) (λ v. true)
      ]

  -- what is kept now says at least as much
  says_more : (cell : ℕ) → Implies (now cell) (said_of network settled cell)
  says_more cell =
      elim (cases_Bool (nat_lt cell (length settled.infos))) [
        | inl is ↦
            let below = ltb-true cell (length settled.infos) is in
            implies_also (now cell) (info_at settled.infos cell) (said_of network settled cell) (sym (said_here cell below))
            (λ v possible. fits.kept cell below v
            (larger_shown (cell_at store cell).kind settled.worldview w (cell_at store cell).kept inside v possible))
        | inr not ↦
            implies_also (now cell) (nothing ((numbered (kinds_in network)).kind cell)) (said_of network settled cell)
            (sym (said_past cell (ltb-false cell (length settled.infos) not)))
            (implies_nothing (now cell) ((numbered (kinds_in network)).kind cell) (kind-now cell))
      ]

  -- if what was said implies what is kept, they are equal
  said_now : (cell : ℕ) → Implies (said_of network settled cell) (now cell) → now cell ≡ said_of network settled cell
  said_now cell implies =
      Implies-antisym (now cell) (said_of network settled cell) (kind-now cell ∙ sym (kind-said cell)) (says_more cell) implies

  -- past the last cell they are equal
  same_past : (cell : ℕ) → length (kinds_in network) ≤ cell → now cell ≡ said_of network settled cell
  same_past cell past =
      let cells_past : length store.cells ≤ cell = omega (arith, past, length-map store.cells (λ (x : Cell). x.kind), ap length same) in
      ap (λ (c : Cell). kept_of c w) (get_or_past store.cells cell (new_cell kinds.Interval) cells_past)
      ∙ ap nothing (sym (get_or_past (kinds_in network) cell kinds.Interval past))
      ∙ sym (said_past cell (omega (arith, past, fits.cells, kinds_many network well)))

  -- what was found is what was said, if all is at hand that is kept
  found_said : (infos : List Info) (supports : List Premises) → AreKept store w infos supports → (cell : ℕ) →
      found_of settled.infos infos cell ≡ said_of network settled cell
  found_said infos supports kept cell =
      ap (λ (k : Kind). slice_index_or settled.infos cell (nothing k)) (ap kind_of (kept.infos_are cell) ∙ kind-now cell)

  pub kinds_found : (infos : List Info) (supports : List Premises) → AreKept store w infos supports → (cell : ℕ) →
      kind_of (found_of settled.infos infos cell) ≡ kind_of (info_at infos cell)
  kinds_found infos supports kept cell =
      ap kind_of (found_said infos supports kept cell) ∙ kind-said cell ∙ sym (ap kind_of (kept.infos_are cell) ∙ kind-now cell)

  -- the flags of the new instances, with those of the readers of what has changed, are those of the
  -- due ones
  pub due_flags : (infos : List Info) (supports : List Premises) → AreKept store w infos supports → (visible flags queued : List Bool) →
      visible ≡ map (is_instance_visible w) network.attached → length flags ≡ length visible →
      ((n : ℕ) → is_set flags n ≡ (is_set visible n && is_new network settled n)) →
      QueuesReaders network visible (λ cell. (cell < length infos) × HasChanged settled.infos infos cell) flags queued → AreDue network store w settled queued
  due_flags infos supports kept visible flags queued seen many new queues = record {
    many = queues.flags ∙ many ∙ ap length seen ∙ length-map network.attached (is_instance_visible w);
    are = λ n. (λ flag. due n flag, λ is. set n is);
  } where
    visible_is : (n : ℕ) → is_set visible n ≡ visible_at network w n
    visible_is n = ap (λ (l : List Bool). is_set l n) seen

    -- what has not changed is equal
    changed : (cell : ℕ) → HasChanged settled.infos infos cell → now cell ≡ said_of network settled cell → ⊥
    changed cell has one =
        has (subst (λ (i : Info). Implies i (info_at infos cell)) (sym (found_said infos supports kept cell))
        (λ v possible. subst (λ (i : Info). allows i v ≡ true) (sym (kept.infos_are cell ∙ one)) possible))

    due : (n : ℕ) → is_set queued n ≡ true → IsDue network store w settled n
    due n flag =
        elim (queues.others n flag) [
          | inl was ↦
              let parts = true_both (is_set visible n) (is_new network settled n) (sym (new n) ∙ was) in
              (sym (visible_is n) ∙ parts.0, inl parts.1)
          | inr (seen_n, (cell, (below, has), reader)) ↦ (sym (visible_is n) ∙ seen_n, inr (cell, reader, λ one. changed cell has one))
        ]

    set : (n : ℕ) → IsDue network store w settled n → is_set queued n ≡ true
    set n (seen_n, inl is_new_n) =
        queues.stay n (new n ∙ both_true (is_set visible n) (is_new network settled n) (visible_is n ∙ seen_n) is_new_n)
    set n (seen_n, inr (cell, reader, differs)) =
        elim (cases_Bool (nat_lt cell (length infos))) [
          | inl is ↦
              queues.readers cell n (
                ltb-true cell (length infos) is,
                λ implies. differs (said_now cell (subst (λ (i : Info). Implies i (now cell)) (found_said infos supports kept cell)
                    (λ v possible. subst (λ (i : Info). allows i v ≡ true) (kept.infos_are cell) (implies v possible)))),
              ) reader (visible_is n ∙ seen_n)
          | inr not ↦
              let past = ltb-false cell (length infos) not in
              absurd (differs (same_past cell (omega (arith, past, kept.many, length-map store.cells (λ (x : Cell). x.kind), ap length same))))
        ]

  -- all that is visible and not due is satisfied
  pub satisfied_but_due : (queued : List Bool) → AreDue network store w settled queued → AreSatisfied network w now queued
  satisfied_but_due queued due n d below seen free =
      satisfied_still network well (attached_no network n d) (n, below, get_or_default network.attached n (attached_no network n d) d below) (said_of network settled) now
      (same_read (said_of network settled) now (attached_no network n d).instance.inputs unchanged) (says_more (attached_no network n d).instance.output)
      (fits.satisfied n d (ltb-true n settled.instances was.0)
      (visible_no network settled.worldview n d below ∙ was.1))
    where
      not_due : IsDue network store w settled n → ⊥
      not_due is = let flag = (due.are n).1 is in absurd (cc)

      seen_at : visible_at network w n ≡ true
      seen_at = sym (visible_no network w n d below) ∙ seen

      was : (nat_lt n settled.instances ≡ true) × (visible_at network settled.worldview n ≡ true)
      was =
          true_both (nat_lt n settled.instances) (visible_at network settled.worldview n)
          (not-false (nat_lt n settled.instances && visible_at network settled.worldview n)
          (false_from_ne_true (is_new network settled n) (λ new. not_due (seen_at, inl new))))

      unchanged : (c : ℕ) → list_any (nat_eq c) (attached_no network n d).instance.inputs ≡ true → now c ≡ said_of network settled c
      unchanged c reading =
          said_now c (implies_stable (said_of network settled c) (now c)
          (λ not. not_due (
            seen_at,
            inr (
              c,
              reader_listed network c n d below reading,
              λ one. not (λ v possible. subst (λ (i : Info). allows i v ≡ true) (sym one) possible),
            ),
          )))
