-- The kinds of the values of meanings.
use Rattle.std.proofs.Common.{◌≡◌, List, [], ◌∷◌, ◌++◌, map, Bool, true, false, ◌&&◌, pos, if◌then◌else◌, refl, sym, ◌∙◌, ap}
use Rattle.std.proofs.lemmas.List.{map-append, same_from_push}
use Rattle.std.proofs.Math.Logic.{∥∥₁_elim}
use Rattle.pw_info.specs.declared.kind.Kind.{Kind}
use Rattle.pw_info.specs.declared.kind.Kind.TheVariants as kinds
use Rattle.pw_info.specs.declared.info.Info.{Info}
use Rattle.pw_info.specs.Information.{kind_of, allows, nothing}
use Rattle.pw_info.proofs.Informations.{kind-closest}
use Rattle.pw_procs.specs.declared.rule.Rule.{Rule}
use Rattle.pw_procs.specs.declared.signature.Slot.{Slot}
use Rattle.pw_procs.specs.declared.signature.Slot.TheVariants.{Fixed, Same}
use Rattle.pw_procs.specs.declared.meaning.Meaning.{Meaning}
use Rattle.pw_procs.specs.declared.meaning.Meaning.TheVariants as meanings
use Rattle.pw_procs.specs.Slots.{FitSlots, kind_in_slot}
use Rattle.pw_procs.specs.declared.signature.Signature.{Signature}
use Rattle.pw_procs.specs.Signature.{input_slots_of, output_slot_of, FitSignature, Accepts, AcceptsApart, IsSignatureOf, IsOfOutputKind}
use Rattle.pw_procs.specs.Procedure.{Procedure, GivesWhatItAccepts}
use Rattle.pw_info.specs.contracts.kind.Kind as kind
use base.Stored.{Coded-set}
use Rattle.pw_procs.specs.Values.{NumberSet, input, image_of_one, image_of_two, truths_of, truth, bool, is_possible}
use Rattle.pw_procs.specs.Meaning.{quotient_of, between_quotients}
use Rattle.pw_procs.specs.Rules.{value_of_rules}
use Rattle.pw_procs.specs.Meaning.{AreSlotsOf, inputs_of_meaning, value_of_meaning, switched}
use Rattle.pw_procs.proofs.FittingInputs.{one_fits, two_fit}
use Rattle.pw_procs.proofs.HullLaws.{at_most, equality, negation, conjunction, disjunction}

-- one of two informations of one kind is of that kind
kind-if : (test : Bool) (x y : Info) (k : Kind) → kind_of x ≡ k → kind_of y ≡ k → kind_of (if test then x else y) ≡ k
kind-if true x y k p q = p
kind-if false x y k p q = q

-- what truths, a switch, rules and a quotient give is of the kind of their output
kind-truths : (set : NumberSet) → kind_of (truths_of set) ≡ bool
kind-truths set = kind-closest bool _

kind-switched : (p x : Info) → kind_of (switched p x) ≡ kind_of x
kind-switched p x = kind-if _ _ _ (kind_of x) (kind-closest (kind_of x) (λ v. false))
    (kind-if (allows p (truth false)) _ x (kind_of x) (kind-closest (kind_of x) (λ v. true)) refl)

kind-rules : (k : Kind) (rules : List Rule) (xs : List Info) → kind_of (value_of_rules k rules xs) ≡ k
kind-rules k rules xs = kind-if _ _ _ k (kind-closest k _) (kind-closest k _)

pub kind-quotient : (t x : Info) → kind_of (quotient_of t x) ≡ kinds.Interval
kind-quotient t x = kind-if (is_possible t && allows x (pos 0)) (nothing kinds.Interval) (between_quotients t x) kinds.Interval refl refl

-- what fits slots fits equal slots
pub fit_same : (slots others : List Slot) (xs : List Info) → slots ≡ others → (f : FitSlots slots xs) → map kind_of xs ≡ map (kind_in_slot f.0) others
fit_same slots others xs e f = f.1 ∙ ap (map (kind_in_slot f.0)) e

-- the value is of the kind of the output
pub value_kind : (output : Slot) (meaning : Meaning) (slots : List Slot) (xs : List Info)
    → AreSlotsOf meaning slots output → (f : FitSlots slots xs) → kind_of (value_of_meaning output meaning xs) ≡ kind_in_slot f.0 output
value_kind output meanings.Adder slots xs are f = ap (kind_in_slot f.0) (sym are.1)
value_kind output meanings.Subtractor slots xs are f = ap (kind_in_slot f.0) (sym are.1)
value_kind output meanings.Multiplier slots xs are f = ap (kind_in_slot f.0) (sym are.1)
value_kind output meanings.Squarer slots xs are f = ap (kind_in_slot f.0) (sym are.1)
value_kind output meanings.Divider slots xs are f = kind-quotient (input xs 0) (input xs 1) ∙ ap (kind_in_slot f.0) (sym are.1)
value_kind output meanings.AtMost slots xs are f = kind-truths (image_of_two at_most (input xs 0) (input xs 1)) ∙ ap (kind_in_slot f.0) (sym are.1)
value_kind output meanings.Equal slots xs are f = kind-truths (image_of_two equality (input xs 0) (input xs 1)) ∙ ap (kind_in_slot f.0) (sym are.1)
value_kind output meanings.Inverter slots xs are f = kind-truths (image_of_one negation (input xs 0)) ∙ ap (kind_in_slot f.0) (sym are.1)
value_kind output meanings.Conjoiner slots xs are f = kind-truths (image_of_two conjunction (input xs 0) (input xs 1)) ∙ ap (kind_in_slot f.0) (sym are.1)
value_kind output meanings.Disjoiner slots xs are f = kind-truths (image_of_two disjunction (input xs 0) (input xs 1)) ∙ ap (kind_in_slot f.0) (sym are.1)
value_kind output meanings.Switch slots xs are f =
    kind-switched (input xs 0) (input xs 1)
    ∙ (two_fit (Fixed bool) Same xs (f.0, fit_same slots (inputs_of_meaning meanings.Switch) xs are.0 f)).2 ∙ ap (kind_in_slot f.0) (sym are.1)
value_kind output meanings.Copy slots xs are f =
    (one_fits Same xs (f.0, fit_same slots (inputs_of_meaning meanings.Copy) xs are.0 f)).1 ∙ ap (kind_in_slot f.0) (sym are.1)
value_kind output meanings.Point slots xs are f = ap (kind_in_slot f.0) (sym are.1)
value_kind output meanings.Fixed slots xs are f = ap (kind_in_slot f.0) (sym are.1)
value_kind output (meanings.Rules rules) slots xs (input_kinds, kind, inputs_are, output_is, have_kinds) f =
    kind-rules (kind_in_slot kinds.Interval output) rules.items xs ∙ ap (kind_in_slot kinds.Interval) output_is ∙ ap (kind_in_slot f.0) (sym output_is)

-- a meaning with a signature of it gives values of the kind of the signature's output
pub of_output_kind : (signature : Signature) (meaning : Meaning) → ∥ IsSignatureOf meaning signature ∥₁ → IsOfOutputKind signature meaning
of_output_kind signature meaning slots inputs fit =
    ∥∥₁_elim slots (Coded-set kind.the_row.coded _ _) (λ are. value_kind (output_slot_of signature) meaning (input_slots_of signature) inputs are fit)

-- kinds that fit slots and one more fit the slots, and the one its slot, for one kind
pub apart : (signature : Signature) (xs : List Kind) (k : Kind) → Accepts signature (xs ++ k ∷ []) → AcceptsApart signature xs k
apart signature xs k (same, are) =
    let both = same_from_push xs (map (kind_in_slot same) (input_slots_of signature)) k (kind_in_slot same (output_slot_of signature))
    (are ∙ map-append (kind_in_slot same) (input_slots_of signature) (output_slot_of signature ∷ [])) in
    (same, both.0, both.1)

pub together : (signature : Signature) (xs : List Kind) (k : Kind) → AcceptsApart signature xs k → Accepts signature (xs ++ k ∷ [])
together signature xs k (same, inputs, output) =
    (same, rw (inputs, output) (sym (map-append (kind_in_slot same) (input_slots_of signature) (output_slot_of signature ∷ []))))

-- a procedure gives what it accepts
pub gives_accepted : (procedure : Procedure) (xs : List Info) (k : Kind) → GivesWhatItAccepts procedure xs k
gives_accepted procedure xs k accepts =
    let (same, inputs, output) = apart procedure.signature (map kind_of xs) k accepts in
    let fit : FitSignature procedure.signature xs = (same, inputs) in
    (fit, of_output_kind procedure.signature procedure.meaning procedure.slots xs fit ∙ sym output)
