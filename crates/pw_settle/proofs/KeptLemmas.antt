-- What is read of the cells of a store in a worldview, one after another.
use Rattle.std.proofs.Common.{◌≡◌, ℕ, ◌+◌, ◌<◌, ◌≤◌, Bool, true, false, eqb, List, [], ◌∷◌, ◌++◌, length, sym, ap, ◌∙◌, subst, arith, inl, inr, length-append}
use Rattle.std.specs.Prelude.{nat_lt}
use Rattle.std.specs.FinSet.{contains, contains-empty, empty, is_subset}
use Rattle.std.specs.Ordering.{nat_cmp}
use Rattle.std.proofs.lemmas.Bool.{cases_Bool, eqb-false, eqb-true, ltb-true, ltb-false}
use Rattle.std.proofs.lemmas.List.{get_or_append_left, get_or_past, get_or_push}
use Rattle.std.proofs.lemmas.List.Elements.{All-contains}
use Rattle.pw_info.specs.declared.kind.Kind.TheVariants as kinds
use Rattle.pw_info.specs.declared.info.Info.{Info}
use Rattle.pw_info.specs.Information.{allows, nothing, Implies}
use Rattle.pw_info.proofs.Informations.{implies_nothing}
use Rattle.pw_premises.specs.Premises.{Premises}
use Rattle.pw_premises.specs.PremiseSubsets.{empty_is_subset}
use Rattle.pw_facts.specs.declared.fact.Fact.{Fact}
use Rattle.pw_facts.specs.Facts.{IsLeastAbove}
use Rattle.pw_cells.specs.Cells.{Cell, Store, ArePremisesOf, kept_at, kept_in, kept_of, new_cell, told_in}
use Rattle.pw_network.specs.Network.{Network}
use Rattle.pw_settle.specs.inside.Known.{AreKept, SaysTold}
use Rattle.pw_settle.specs.Settled.{info_at, support_at}
use Rattle.pw_settle.specs.Sound.{LiesUpstream, LieUpstream, RestsUpstream}
use Rattle.pw_settle.proofs.KeptFacts.{kind-kept}

-- what is read of one cell: the information that is kept, and premises that are enough for it, each
-- of them of a kept fact
pub record IsRead (store : Store) (w : Premises) (cell : ℕ) (info : Info) (support : Premises) : Type 0 where
  pub info_is : info ≡ kept_in store cell w
  pub within : is_subset support w ≡ true
  pub enough : IsLeastAbove support (kept_in store cell) info
  pub rests : ArePremisesOf (kept_at store cell) support
  pub told : Implies info (told_in store cell w)

-- so far the cells below this number were read
pub record IsReadTo (store : Store) (w : Premises) (count : ℕ) (infos : List Info) (supports : List Premises) : Type 0 where
  pub many : length infos ≡ count
  pub as_many : length supports ≡ count
  pub read : (cell : ℕ) → cell < count → IsRead store w cell (info_at infos cell) (support_at supports cell)

-- at first none was
pub read_none : (store : Store) (w : Premises) (infos : List Info) (supports : List Premises) → infos ≡ [] → supports ≡ [] → IsReadTo store w 0 infos supports
read_none store w infos supports none also = record { many = ap length none; as_many = ap length also; read = λ cell below. absurd (omega (arith, below)) }

-- and one more
pub read_more : (store : Store) (w : Premises) (count : ℕ) (infos : List Info) (supports : List Premises) (info : Info) (support : Premises) →
    IsReadTo store w count infos supports → IsRead store w count info support → IsReadTo store w (count + 1) (infos ++ info ∷ []) (supports ++ support ∷ [])
read_more store w count infos supports info support so_far one = record {
  many = omega (arith, length-append infos (info ∷ []), so_far.many);
  as_many = omega (arith, length-append supports (support ∷ []), so_far.as_many);
  read = λ cell below. elim (cases_Bool (eqb cell count)) [
    | inl is ↦
        let e : cell ≡ count = eqb-true cell count is in
        subst (λ (c : ℕ). IsRead store w c (info_at (infos ++ info ∷ []) c) (support_at (supports ++ support ∷ []) c)) (sym e) last
    | inr other ↦
        let less : cell < count = omega (arith, below, eqb-false cell count other) in
        rw (
          get_or_append_left infos (info ∷ []) (nothing kinds.Interval) cell (omega (arith, less, so_far.many)),
          get_or_append_left supports (support ∷ []) empty cell (omega (arith, less, so_far.as_many)),
        ) (so_far.read cell less)
  ];
} where
  last : IsRead store w count (info_at (infos ++ info ∷ []) count) (support_at (supports ++ support ∷ []) count)
  last = rw (get_or_push infos info (nothing kinds.Interval) count so_far.many, get_or_push supports support empty count so_far.as_many) one

module _ (store : Store) (w : Premises) (infos : List Info) (supports : List Premises) (read : IsReadTo store w (length store.cells) infos supports) where
  past_info : (cell : ℕ) → length store.cells ≤ cell → info_at infos cell ≡ kept_in store cell w
  past_info cell past =
      get_or_past infos cell (nothing kinds.Interval) (omega (arith, past, read.many))
      ∙ sym (ap (λ (c : Cell). kept_of c w) (get_or_past store.cells cell (new_cell kinds.Interval) past))

  past_support : (cell : ℕ) → length store.cells ≤ cell → support_at supports cell ≡ empty
  past_support cell past = get_or_past supports cell empty (omega (arith, past, read.as_many))

  -- what holds of a cell that exists and of one past the last holds of all
  each : (P : ℕ → Type 0) → ((cell : ℕ) → cell < length store.cells → P cell) → ((cell : ℕ) → length store.cells ≤ cell → P cell) → (cell : ℕ) → P cell
  each P here past cell =
      elim (cases_Bool (nat_lt cell (length store.cells))) [
        | inl below ↦ here cell (ltb-true cell (length store.cells) below)
        | inr not ↦ past cell (ltb-false cell (length store.cells) not)
      ]

  -- what was read of all cells is what is kept
  pub all_kept : AreKept store w infos supports
  all_kept = record {
    many = read.many;
    as_many = read.as_many;
    infos_are = each (λ cell. info_at infos cell ≡ kept_in store cell w) (λ cell below. (read.read cell below).info_is) past_info;
    within = each (λ cell. is_subset (support_at supports cell) w ≡ true) (λ cell below. (read.read cell below).within)
        (λ cell past. subst (λ (p : Premises). is_subset p w ≡ true) (sym (past_support cell past)) (empty_is_subset w));
    enough = each (λ cell. IsLeastAbove (support_at supports cell) (kept_in store cell) (info_at infos cell)) (λ cell below. (read.read cell below).enough)
        (λ cell past s inside.
        subst (Implies (kept_in store cell s)) (sym (get_or_past infos cell (nothing kinds.Interval) (omega (arith, past, read.many))))
        (implies_nothing (kept_in store cell s) kinds.Interval
        (kind-kept store cell s ∙ ap (λ (c : Cell). c.kind) (get_or_past store.cells cell (new_cell kinds.Interval) past))));
  }

  pub says_told : SaysTold store w
  says_told cell below v possible =
      (read.read cell below).told v (subst (λ (i : Info). allows i v ≡ true) (sym (read.read cell below).info_is) possible)

  pub lie_upstream : (network : Network) (given : ℕ → ℕ → Bool) → RestsUpstream network given store → LieUpstream network given supports
  lie_upstream network given rests =
      each (λ cell. LiesUpstream network given cell (support_at supports cell))
      (λ cell below cells upstream has p one.
      let fact = (read.read cell below).rests p one in
      All-contains (λ (f : Fact). LiesUpstream network given cell f.support) (kept_at store cell) fact.0 (rests.kept cell) fact.1 cells upstream has p fact.2)
      (λ cell past cells upstream has p one.
      let none : contains (support_at supports cell) p ≡ false = ap (λ (s : Premises). contains s p) (past_support cell past) ∙ contains-empty nat_cmp p in
      absurd (cc))
