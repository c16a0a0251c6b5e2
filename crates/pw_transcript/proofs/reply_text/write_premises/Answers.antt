use Rattle.std.proofs.Common.{◌≡◌, ℕ, suc, ◌+◌, ◌-◌, true, List, [], ◌++◌, codes, length, sym, ap, ◌∙◌, subst, arith}
use Rattle.std.specs.FinSet.{contains}
use Rattle.std.specs.List.{flat_map}
use Rattle.pw_info.specs.Passing.{IsPassed}
use Rattle.pw_info.proofs.PassingFacts.{broken_off_then, first_fails, second_writes, written_then}
use Rattle.pw_decl.specs.Declaration.{Declared}
use Rattle.pw_decl.specs.inside.Fields.{declared}
use Rattle.pw_transcript.specs.ReplyText.{after_space, text_of_names}
use Rattle.pw_transcript.specs.inside.Gathering.{has_some, names_below}
use Rattle.pw_transcript.proofs.PremiseTexts.{below_without, names_at_end, some_below, text_of_none, whole_from, written_with}
use Rattle.pw_transcript.proofs.reply_text.write_premises.Goals as goal
use Rattle.pw_transcript.proofs.reply_text.write_premises.Goals.{then-contains+in_ok-write_after_space, else-contains}

pub returns-in_err-write_after_space : goal.returns-in_err-write_after_space
returns-in_err-write_after_space g c =
    let d : Declared = declared c.args.declaration.now in
    let number : ℕ = c.loop-premise.premise in
    let more : ℕ = length d.premises - (number + 1) in
    let all : number + suc more ≡ length d.premises = omega (arith, c.loop-premise-test.true, c.premises-premise-end.ensures.count) in
    first_fails g.O.Output.passes g.O.Output.has_failed _ _ c.from_residual.result _
    (flat_map after_space (names_below d c.args.premises number) ++ after_space c.premise_name.result.now) _ c.from_residual.ensures.0
    (broken_off_then g.O.Output.passes g.O.Output.has_failed g.met.O.Output.joins c.args.output.now c.loop-premise.output c.write_after_space.new.output
    (flat_map after_space (names_below d c.args.premises number)) (after_space c.premise_name.result.now) c.loop-premise.invariant.written
    c.in_err-write_after_space.ensures)
    (whole_from d c.args.premises number c.premise_name.result.now more all (sym c.contains.ensures.member ∙ c.if-contains.true) c.premise_name.ensures.name)

pub loop-premise-preserved : goal.loop-premise-preserved
loop-premise-preserved g c =
    let d : Declared = declared c.args.declaration.now in
    let number : ℕ = c.loop-premise.premise in
    elim c.if-contains.branch [
      | then-contains+in_ok-write_after_space w ↦
          let is : contains c.args.premises number ≡ true = sym c.contains.ensures.member ∙ w.if-contains.true in
          record {
            written = rw w.output-is (subst (IsPassed g.O.Output.passes g.O.Output.has_failed c.args.output.now w.write_after_space.new.output)
                (sym (written_with d c.args.premises number w.premise_name.result.now is w.premise_name.ensures.name))
                (written_then g.O.Output.passes g.O.Output.has_failed g.met.O.Output.joins c.args.output.now c.loop-premise.output w.write_after_space.new.output
                (flat_map after_space (names_below d c.args.premises number)) (after_space w.premise_name.result.now) c.loop-premise.invariant.written
                w.in_ok-write_after_space.ensures));
            any = w.any-is ∙ sym (some_below d c.args.premises number w.premise_name.result.now is w.premise_name.ensures.name);
          }
      | else-contains w ↦
          let same = below_without d c.args.premises number (sym c.contains.ensures.member ∙ w.if-contains.false) in
          record {
            written = rw (w.output-is, same) c.loop-premise.invariant.written;
            any = w.any-is ∙ c.loop-premise.invariant.any ∙ ap has_some (sym same);
          }
    ]

pub returns-else-any : goal.returns-else-any
returns-else-any g c =
    let d : Declared = declared c.args.declaration.now in
    let number : ℕ = c.loop-premise.premise in
    let names : List (List ℕ) = names_below d c.args.premises number in
    let end : number ≡ length d.premises =
    omega (arith, c.loop-premise-test.false, c.loop-premise.auto.premise-end, c.premises-premise-end.ensures.count) in
    let none = text_of_none names (sym c.loop-premise.invariant.any ∙ c.if-any.false) in
    second_writes g.O.Output.passes g.O.Output.has_failed g.met.O.Output.joins _ _ _ c.put_all.result _ [] (codes " none")
    (subst (λ (l : List (List ℕ)). IsPassed g.O.Output.passes g.O.Output.has_failed c.args.output.now c.loop-premise.output (flat_map after_space l)) none.0
    c.loop-premise.invariant.written)
    c.put_all.ensures
    (ap text_of_names (sym (names_at_end d c.args.premises number end)) ∙ none.1)
