use Rattle.std.proofs.Common.{rules, ◌≡◌, List, [], ◌∷◌, length, arith, sym, ap, ◌∙◌}
use Rattle.std.proofs.lemmas.List.{get_or_default}
use Rattle.std.specs.Prelude.{slice_index_or}
use Rattle.pw_info.specs.declared.info.Info.{Info}
use Rattle.pw_info.specs.Information.{kind_of, nothing, contradiction}
use Rattle.pw_info.specs.declared.kind.Kind.TheVariants as kinds
use Rattle.pw_procs.specs.declared.signature.Slot.TheVariants.{Fixed, Same}
use Rattle.pw_procs.specs.Slots.{FitSlots}
use Rattle.pw_procs.specs.Values.{input, bool}
use Rattle.pw_procs.proofs.FittingInputs.{two_fit}
use Rattle.pw_procs.proofs.SwitchedValues.{empty_switches, false_switches, true_switches}
use Rattle.pw_procs.proofs.bodies.switch.Goals as goal

-- what was read at place 1 is the second input
second : (inputs : List Info) (x : Info) → FitSlots (Fixed bool ∷ Same ∷ []) inputs → x ≡ slice_index_or inputs 1 x → x ≡ input inputs 1
second inputs x fits e =
    let long : length inputs ≡ 2 = (two_fit (Fixed bool) Same inputs fits).0 in
    e ∙ sym (get_or_default inputs 1 (nothing kinds.Interval) x (omega arith))

pub returns-then-is_empty : goal.returns-then-is_empty
returns-then-is_empty c =
    let x : c.copied-x.result ≡ input c.args.inputs.now 1 = c.copied-x.ensures ∙ second c.args.inputs.now _ c.requires c.index-inputs-1.is in
    c.contradiction.ensures.exact ∙ ap contradiction (c.kind.ensures ∙ ap kind_of x)
    ∙ empty_switches c.truths_at-p.result _ (input c.args.inputs.now 1) c.truths_at-p.ensures.value (search rules)

pub returns-then-contains : goal.returns-then-contains
returns-then-contains c =
    let x : c.copied-x.result ≡ input c.args.inputs.now 1 = c.copied-x.ensures ∙ second c.args.inputs.now _ c.requires c.index-inputs-1.is in
    c.nothing.ensures.exact ∙ ap nothing (c.kind-then-contains.ensures ∙ ap kind_of x)
    ∙ false_switches c.truths_at-p.result _ (input c.args.inputs.now 1) c.truths_at-p.ensures.value (sym c.contains.ensures ∙ c.if-contains.true)

pub returns : goal.returns
returns c =
    let x : c.copied-x.result ≡ input c.args.inputs.now 1 = c.copied-x.ensures ∙ second c.args.inputs.now _ c.requires c.index-inputs-1.is in
    x ∙ true_switches c.truths_at-p.result _ (input c.args.inputs.now 1) c.truths_at-p.ensures.value
    (λ none. search rules)
    (sym c.contains.ensures ∙ c.if-contains.false)
