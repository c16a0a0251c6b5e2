-- Conditions of which it is known whether they hold.
use Rattle.std.proofs.Common.{◌≡◌, ℕ, ◌<◌, ◌≤◌, Bool, true, false, List, [], ◌∷◌, ◌++◌, Option, Some, None, ◌⊎◌, inl, inr, refl, sym, ◌∙◌, ap, subst, map, arith}
use Rattle.std.specs.Prelude.{IsSome, slice_get}
use Rattle.std.specs.List.{list_any, IsDistinct}
use Rattle.std.specs.Str.{bytes_eq}
use Rattle.std.proofs.lemmas.Bool.{cases_Bool, cases_eq, cases_lt, false≢true}
use Rattle.std.proofs.lemmas.Option.{none-some, same_Some}
use Rattle.pw_info.specs.declared.kind.Kind.{Kind}
use Rattle.pw_info.specs.declared.kind.Kind.TheVariants as kinds
use Rattle.pw_info.specs.Lines.{IsFirstIn, HoldsOfNone}
use Rattle.pw_info.proofs.Informations.{same_set}
use Rattle.pw_procs.specs.declared.signature.Signature.{Signature}
use Rattle.pw_procs.specs.declared.signature.Slot.{Slot}
use Rattle.pw_procs.specs.declared.signature.Slot.TheVariants.{Fixed, Same}
use Rattle.pw_procs.specs.Procedure.{Procedure}
use Rattle.pw_procs.specs.Signature.{input_slots_of, output_slot_of, Accepts}
use Rattle.pw_procs.specs.Slots.{kind_in_slot, KindsFit}
use Rattle.pw_decl.specs.declared.step.Callable.{Callable}
use Rattle.pw_decl.specs.declared.step.Callable.TheVariants as callables
use Rattle.pw_decl.specs.Compound.{Compound, AcceptsKinds}
use Rattle.pw_decl.proofs.MemberLemmas.{distinct_none, repeats, differ_where}

-- it holds, or it does not
abbrev pub Decided : Type 0 → Type 0
Decided P = P ⊎ (P → ⊥)

-- of a list of conditions one is the first that holds, or none holds
pub first_or_none : {A : Type 0} (P : A → Type 0) → ((x : A) → Decided (P x)) → (xs : List A) → ((x : A) × IsFirstIn P xs x) ⊎ HoldsOfNone P xs
first_or_none P decide [] = inr tt
first_or_none P decide (x ∷ xs) =
    elim (decide x) [
      | inl holds ↦ inl (x, inl (refl, holds))
      | inr fails ↦
          elim (first_or_none P decide xs) [
            | inl later ↦ inl (later.0, inr (fails, later.1))
            | inr none ↦ inr (fails, none)
          ]
    ]

pub decided_not : {P : Type 0} → Decided P → Decided (P → ⊥)
decided_not (inl holds) = inr (λ not. not holds)
decided_not (inr not) = inl not

pub decided_or : {P Q : Type 0} → Decided P → Decided Q → Decided (P ⊎ Q)
decided_or (inl p) q = inl (inl p)
decided_or (inr not) (inl q) = inl (inr q)
decided_or (inr not) (inr nor) = inr (λ either. elim either [ inl p ↦ not p | inr q ↦ nor q ])

pub decided_less : (m n : ℕ) → Decided (m < n)
decided_less m n = elim (cases_lt m n) [
  | inl less ↦ inl less
  | inr least ↦ inr (λ less. omega arith)
]

pub decided_at_most : (m n : ℕ) → Decided (m ≤ n)
decided_at_most m n = elim (cases_lt n m) [
  | inl more ↦ inr (λ most. omega arith)
  | inr most ↦ inl (omega arith)
]

pub decided_some : {A : Type 0} (o : Option A) → Decided (IsSome o)
decided_some None = inr false≢true
decided_some (Some x) = inl refl

pub decided_none : {A : Type 0} (o : Option A) → Decided (o ≡ None)
decided_none None = inl refl
decided_none (Some x) = inr (λ none. cc)

-- whether no two words are equal
pub decided_distinct : (words : List (List ℕ)) → Decided (IsDistinct bytes_eq words)
decided_distinct [] = inl distinct_none
decided_distinct (word ∷ words) =
    elim (cases_Bool (list_any (bytes_eq word) words)) [
      | inl among ↦ inr (repeats word words among)
      | inr apart ↦
          let others = differ_where word words apart in
          elim (decided_distinct words) [
            | inl differ ↦ inl (others.1 differ)
            | inr equal ↦ inr (λ all. equal (others.0 all))
          ]
    ]

pub decided_false : (b : Bool) → Decided (b ≡ false)
decided_false true = inr (λ e. false≢true (sym e))
decided_false false = inl refl

-- whether a list is empty
pub decided_nil : {A : Type 0} (xs : List A) → Decided (xs ≡ [])
decided_nil [] = inl refl
decided_nil (x ∷ xs) = inr (λ e. cc)

-- a condition on the value of an option is decided, if it is decided for each value
pub decided_there : {A : Type 0} (o : Option A) (P : A → Type 0) → ((x : A) → Decided (P x)) → Decided ((x : A) × (o ≡ Some x) × P x)
decided_there None P decide = inr (λ (x, at, holds). none-some x at)
decided_there (Some y) P decide =
    elim (decide y) [
      | inl holds ↦ inl (y, refl, holds)
      | inr fails ↦ inr (λ (x, at, holds). fails (subst P (sym (same_Some y x at)) holds))
    ]

-- ---- kinds

-- the number and the size of a set kind, of another kind 0
abbrev number_of_kind : Kind → ℕ
number_of_kind (kinds.Members set) = set.number
number_of_kind kind = 0

abbrev size_of_kind : Kind → ℕ
size_of_kind (kinds.Members set) = set.size
size_of_kind kind = 0

-- whether two kinds are equal
pub decided_kind : (a b : Kind) → Decided (a ≡ b)
decided_kind kinds.Interval kinds.Interval = inl refl
decided_kind kinds.Interval (kinds.Members t) = inr (λ e. cc)
decided_kind kinds.Interval kinds.Exact = inr (λ e. cc)
decided_kind (kinds.Members s) kinds.Interval = inr (λ e. cc)
decided_kind (kinds.Members s) (kinds.Members t) =
    elim (cases_eq s.number t.number) [
      | inl numbers ↦
          elim (cases_eq s.size t.size) [
            | inl sizes ↦ inl (same_set s t numbers sizes)
            | inr other ↦ inr (λ e. other (ap size_of_kind e))
          ]
      | inr other ↦ inr (λ e. other (ap number_of_kind e))
    ]
decided_kind (kinds.Members s) kinds.Exact = inr (λ e. cc)
decided_kind kinds.Exact kinds.Interval = inr (λ e. cc)
decided_kind kinds.Exact (kinds.Members t) = inr (λ e. cc)
decided_kind kinds.Exact kinds.Exact = inl refl

first_is : {A : Type 0} (x y : A) (xs ys : List A) → x ∷ xs ≡ y ∷ ys → x ≡ y
first_is x y xs ys e = cc

rest_is : {A : Type 0} (x y : A) (xs ys : List A) → x ∷ xs ≡ y ∷ ys → xs ≡ ys
rest_is x y xs ys e = cc

-- whether two lists of kinds are equal
pub decided_kinds : (xs ys : List Kind) → Decided (xs ≡ ys)
decided_kinds [] [] = inl refl
decided_kinds [] (y ∷ ys) = inr (λ e. cc)
decided_kinds (x ∷ xs) [] = inr (λ e. cc)
decided_kinds (x ∷ xs) (y ∷ ys) =
    elim (decided_kind x y) [
      | inl first ↦
          elim (decided_kinds xs ys) [
            | inl rest ↦ inl (ap (λ (k : Kind). k ∷ xs) first ∙ ap (λ (l : List Kind). y ∷ l) rest)
            | inr other ↦ inr (λ e. other (rest_is x y xs ys e))
          ]
      | inr other ↦ inr (λ e. other (first_is x y xs ys e))
    ]

-- ---- what a callable accepts

-- the kind in the first slot of any kind, if there is one
abbrev kind_of_same : List Slot → List Kind → Kind
kind_of_same (Fixed fixed ∷ slots) (kind ∷ kinds) = kind_of_same slots kinds
kind_of_same (Same ∷ slots) (kind ∷ kinds) = kind
kind_of_same slots list = kinds.Interval

-- if kinds fit, they fit with it
settled : (slots : List Slot) (kinds : List Kind) (same : Kind) → kinds ≡ map (kind_in_slot same) slots → kinds ≡ map (kind_in_slot (kind_of_same slots kinds)) slots
settled [] kinds same e = e
settled (slot ∷ slots) [] same e = absurd cc
settled (Fixed fixed ∷ slots) (kind ∷ kinds) same e =
    ap (λ (k : Kind). k ∷ kinds) (first_is kind fixed kinds (map (kind_in_slot same) slots) e)
    ∙ ap (λ (l : List Kind). fixed ∷ l) (settled slots kinds same (rest_is kind fixed kinds (map (kind_in_slot same) slots) e))
settled (Same ∷ slots) (kind ∷ kinds) same e =
    subst (λ (k : Kind). kind ∷ kinds ≡ map (kind_in_slot k) (Same ∷ slots)) (sym (first_is kind same kinds (map (kind_in_slot same) slots) e)) e

decided_fit : (slots : List Slot) (kinds : List Kind) → Decided (KindsFit slots kinds)
decided_fit slots kinds =
    elim (decided_kinds kinds (map (kind_in_slot (kind_of_same slots kinds)) slots)) [
      | inl fit ↦ inl (kind_of_same slots kinds, fit)
      | inr other ↦ inr (λ (same, fit). other (settled slots kinds same fit))
    ]

-- whether kinds fit a signature
pub decided_accepts : (signature : Signature) (kinds : List Kind) → Decided (Accepts signature kinds)
decided_accepts signature kinds = decided_fit (input_slots_of signature ++ output_slot_of signature ∷ []) kinds

-- whether a callable accepts kinds
pub decided_accepts_kinds : (procedures : List Procedure) (compounds : List Compound) (callable : Callable) (kinds : List Kind) →
    Decided (AcceptsKinds procedures compounds callable kinds)
decided_accepts_kinds procedures compounds (callables.Stored number) kinds =
    decided_there (slice_get procedures number) (λ procedure. Accepts procedure.signature kinds) (λ procedure. decided_accepts procedure.signature kinds)
decided_accepts_kinds procedures compounds (callables.Compound number) kinds =
    decided_there (slice_get compounds number) (λ compound. kinds ≡ compound.parameters) (λ compound. decided_kinds kinds compound.parameters)
