-- Kinds in slots, one by one.
use Rattle.std.proofs.Common.{◌≡◌, ◌↔◌, IsTrue, ℕ, suc, ◌<◌, ◌≤◌, ◌+◌, ◌-◌, nat_eq, Bool, List, [], ◌∷◌, ◌++◌, replicate, length, take, drop, get_or, map, arith, sym, ◌∙◌, ap, subst}
use Rattle.std.proofs.lemmas.Bool.Decides.{nat_tests}
use Rattle.std.proofs.lemmas.List.{take_all, length-take-le, drop-replicate}
use Rattle.std.proofs.Math.Seq.{take-append-add}
use Rattle.pw_info.specs.declared.kind.Kind.{Kind}
use Rattle.pw_info.specs.declared.kind.SetKind.{SetKind}
use Rattle.pw_info.specs.declared.kind.Kind.TheVariants as kinds
use Rattle.pw_info.proofs.Informations.{same_set}
use Rattle.pw_procs.specs.declared.signature.Slot.{Slot}
use Rattle.pw_procs.specs.declared.signature.Slot.TheVariants.{Fixed, Same}
use Rattle.pw_procs.specs.Slots.{kind_in_slot, KindsFit}

-- the items after the first, as code takes them
abbrev pub after : {A : Type 0} → List A → List A
after xs = take (length xs - 1) (drop 1 xs)

after_first : {A : Type 0} (x : A) (xs : List A) → after (x ∷ xs) ≡ xs
after_first x xs = take_all (length (x ∷ xs) - 1) xs (omega arith)

-- kinds are those in slots if the first is, and those after it are
pub kinds_from_first : (same : Kind) (slots : List Slot) (kinds : List Kind) (slot : Slot) (kind : Kind) (rest : Bool) →
    0 < length slots → 0 < length kinds → slot ≡ get_or slots 0 slot → kind ≡ get_or kinds 0 kind → kind ≡ kind_in_slot same slot →
    IsTrue rest ↔ (after kinds ≡ map (kind_in_slot same) (after slots)) → IsTrue rest ↔ (kinds ≡ map (kind_in_slot same) slots)
kinds_from_first same [] kinds slot kind rest few more slot_is kind_is here rests = absurd (omega arith)
kinds_from_first same (s ∷ slots) [] slot kind rest few more slot_is kind_is here rests = absurd (omega arith)
kinds_from_first same (s ∷ slots) (k ∷ kinds) slot kind rest few more slot_is kind_is here rests =
    let kinds_after = after_first k kinds in
    let slots_after = ap (map (kind_in_slot same)) (after_first s slots) in
    let first : k ≡ kind_in_slot same s = sym kind_is ∙ here ∙ ap (kind_in_slot same) slot_is in (
      λ t. let tail : kinds ≡ map (kind_in_slot same) slots = sym kinds_after ∙ rests.0 t ∙ slots_after in cc,
      λ e. let tail : kinds ≡ map (kind_in_slot same) slots = cc in rests.1 (kinds_after ∙ tail ∙ sym slots_after),
    )

-- a first slot of a fixed kind says nothing of the others
pub same_after_fixed : (slots : List Slot) (kinds : List Kind) (slot : Slot) (fixed found : Kind) →
    0 < length slots → 0 < length kinds → slot ≡ get_or slots 0 slot → slot ≡ Fixed fixed →
    ((same : Kind) → after kinds ≡ map (kind_in_slot same) (after slots) → after kinds ≡ map (kind_in_slot found) (after slots)) →
    (same : Kind) → kinds ≡ map (kind_in_slot same) slots → kinds ≡ map (kind_in_slot found) slots
same_after_fixed [] kinds slot fixed found few more slot_is fixed_is rests same e = absurd (omega arith)
same_after_fixed (s ∷ slots) [] slot fixed found few more slot_is fixed_is rests same e = absurd (omega arith)
same_after_fixed (s ∷ slots) (k ∷ kinds) slot fixed found few more slot_is fixed_is rests same e =
    let kinds_after = after_first k kinds in
    let slots_after = after_first s slots in
    let s_is : s ≡ Fixed fixed = sym slot_is ∙ fixed_is in
    let tail : kinds ≡ map (kind_in_slot same) slots = cc in
    let first : k ≡ kind_in_slot found s = let h : k ≡ kind_in_slot same s = cc in h ∙ ap (kind_in_slot same) s_is ∙ ap (kind_in_slot found) (sym s_is) in
    let others : kinds ≡ map (kind_in_slot found) slots = sym kinds_after ∙ rests same (kinds_after ∙ tail ∙ ap (map (kind_in_slot same)) (sym slots_after)) ∙ ap (map (kind_in_slot found)) slots_after in
    cc

-- a first slot of any kind settles that kind
pub same_is_first : (slots : List Slot) (kinds : List Kind) (slot : Slot) (kind : Kind) →
    0 < length slots → 0 < length kinds → slot ≡ get_or slots 0 slot → kind ≡ get_or kinds 0 kind → slot ≡ Same →
    (same : Kind) → kinds ≡ map (kind_in_slot same) slots → kinds ≡ map (kind_in_slot kind) slots
same_is_first [] kinds slot kind few more slot_is kind_is any same e = absurd (omega arith)
same_is_first (s ∷ slots) [] slot kind few more slot_is kind_is any same e = absurd (omega arith)
same_is_first (s ∷ slots) (k ∷ kinds) slot kind few more slot_is kind_is any same e =
    let first : k ≡ kind_in_slot same s = cc in
    let settled : same ≡ kind = sym (kind_is ∙ first ∙ ap (kind_in_slot same) (sym slot_is ∙ any)) in
    subst (λ (x : Kind). k ∷ kinds ≡ map (kind_in_slot x) (s ∷ slots)) settled e

-- the size of a set kind, of another kind 0
abbrev size_of_kind : Kind → ℕ
size_of_kind (kinds.Members set) = set.size
size_of_kind _ = 0

-- the kinds of two sets of one number are equal where their sizes are
pub equal_sets : (a b : Kind) (s t : SetKind) → a ≡ kinds.Members s → b ≡ kinds.Members t → s.number ≡ t.number →
    IsTrue (nat_eq s.size t.size) ↔ (a ≡ b)
equal_sets a b s t p q numbers = (
  λ sizes. p ∙ same_set s t (grind (arith, nat_tests)) (grind (arith, nat_tests)) ∙ sym q,
  λ e. let sizes : s.size ≡ t.size = ap size_of_kind (sym p ∙ e ∙ q) in grind (arith, nat_tests),
)

-- the slots of the inputs, written over the first of nine copies of the output, and one more copy
pub with_output : (written inputs : List Slot) (count : ℕ) (output : Slot) → written ≡ inputs → length written ≡ length (take count (replicate 9 output)) → count ≤ 8 →
    take (count + 1) (written ++ drop count (replicate 9 output)) ≡ inputs ++ output ∷ []
with_output written inputs count output same room most =
    let here : length written ≡ count = room ∙ length-take-le count (replicate 9 output) (omega arith) in
    let copies : drop count (replicate 9 output) ≡ output ∷ replicate (8 - count) output =
    drop-replicate count 9 output ∙ ap (λ n. replicate n output) (let e : 9 - count ≡ suc (8 - count) = omega arith in e) in
    ap (λ l. take (count + 1) (written ++ l)) copies
    ∙ ap (λ n. take (n + 1) (written ++ output ∷ replicate (8 - count) output)) (sym here)
    ∙ take-append-add written (output ∷ replicate (8 - count) output) 1
    ∙ ap (λ l. l ++ output ∷ []) same

-- what fits these slots fits equal ones
pub fits_equal : (written slots : List Slot) (kinds : List Kind) (fits : Bool) → written ≡ slots → IsTrue fits ↔ KindsFit written kinds → IsTrue fits ↔ KindsFit slots kinds
fits_equal written slots kinds fits same tested = subst (λ s. IsTrue fits ↔ KindsFit s kinds) same tested
