-- The kinds of inputs that fit.
use Rattle.std.proofs.Common.{◌≡◌, ℕ, List, [], ◌∷◌, length, refl, sym, ap, ◌∙◌}
use Rattle.pw_info.specs.declared.kind.Kind.{Kind}
use Rattle.pw_info.specs.declared.kind.Kind.TheVariants as kinds
use Rattle.pw_info.specs.declared.info.Info.{Info}
use Rattle.pw_info.specs.declared.info.Info.TheVariants as info
use Rattle.pw_kinds.specs.declared.members.Members.{Members}
use Rattle.pw_kinds.specs.Members.{size_of}
use Rattle.pw_info.specs.Information.{kind_of}
use Rattle.pw_procs.specs.declared.signature.Slot.{Slot}
use Rattle.pw_procs.specs.Slots.{FitSlots, kind_in_slot}
use Rattle.pw_procs.specs.Values.{input, bool}

-- one input
pub one_fits : (s : Slot) (inputs : List Info) → (f : FitSlots (s ∷ []) inputs) → (length inputs ≡ 1) × (kind_of (input inputs 0) ≡ kind_in_slot f.0 s)
one_fits s (x ∷ []) (same, k) = (refl, cc)
one_fits s [] (same, k) = absurd (cc)
one_fits s (x ∷ y ∷ rest) (same, k) = absurd (cc)

-- two inputs
pub two_fit : (s t : Slot) (inputs : List Info) → (f : FitSlots (s ∷ t ∷ []) inputs) → (length inputs ≡ 2) × (kind_of (input inputs 0) ≡ kind_in_slot f.0 s) × (kind_of (input inputs 1) ≡ kind_in_slot f.0 t)
two_fit s t (x ∷ y ∷ []) (same, k) = (refl, cc, cc)
two_fit s t [] (same, k) = absurd (cc)
two_fit s t (x ∷ []) (same, k) = absurd (cc)
two_fit s t (x ∷ y ∷ z ∷ rest) (same, k) = absurd (cc)

-- the number of a set kind, of another kind 0
abbrev number_of_kind : Kind → ℕ
number_of_kind (kinds.Members set) = set.number
number_of_kind _ = 0

-- members of the kind of truths are of set 0
pub truths_number : (number : ℕ) (part : Members) (x : Info) → x ≡ info.Members number part → kind_of x ≡ bool → info.Members 0 part ≡ x
truths_number number part x e k =
    let zero_is : number ≡ 0 = ap number_of_kind (sym (ap kind_of e) ∙ k) in
    ap (λ n. info.Members n part) (sym zero_is) ∙ sym e

-- the size of a set kind, of another kind 0
abbrev size_of_kind : Kind → ℕ
size_of_kind (kinds.Members set) = set.size
size_of_kind _ = 0

-- and there are two of them
pub truths_size : (number : ℕ) (part : Members) (x : Info) → x ≡ info.Members number part → kind_of x ≡ bool → size_of part ≡ 2
truths_size number part x e k = ap size_of_kind (sym (ap kind_of e) ∙ k)
