use Rattle.std.proofs.Common.{◌≡◌, ℕ, ◌+◌, List, [], ◌++◌, drop, get_or, map, take, sym, ap, ◌∙◌, subst}
use Rattle.std.specs.List.{flat_map}
use Rattle.std.proofs.lemmas.Option.{get_or_from_slice_get}
use Rattle.pw_info.specs.Passing.{IsPassed}
use Rattle.pw_info.specs.SetNames.{name_at}
use Rattle.pw_info.proofs.PassingFacts.{broken_off_then, first_fails, written_then}
use Rattle.pw_decl.specs.Declaration.{Declared}
use Rattle.pw_decl.specs.inside.Fields.{declared}
use Rattle.pw_transcript.specs.ReplyText.{after_space}
use Rattle.pw_transcript.proofs.RowTexts.{row_more, row_whole}
use Rattle.pw_transcript.proofs.reply_text.write_premise_names.Goals as goal

pub returns-in_err-write_after_space : goal.returns-in_err-write_after_space
returns-in_err-write_after_space g c =
    let d : Declared = declared c.args.declaration.now in
    let at : ℕ = c.loop-premise.premise-index in
    let so_far : List ℕ = flat_map after_space (map (name_at d.premises) (take at c.args.premises.now)) in
    let name : name_at d.premises (get_or c.args.premises.now at 0) ≡ c.premise_name.result.now =
    get_or_from_slice_get d.premises (get_or c.args.premises.now at 0) c.premise_name.result.now [] c.premise_name.ensures.name in
    first_fails g.O.Output.passes g.O.Output.has_failed _ _ c.from_residual.result _ (so_far ++ after_space c.premise_name.result.now) _ c.from_residual.ensures.0
    (broken_off_then g.O.Output.passes g.O.Output.has_failed g.met.O.Output.joins c.args.output.now c.loop-premise.output c.write_after_space.new.output
    so_far (after_space c.premise_name.result.now) c.loop-premise.invariant c.in_err-write_after_space.ensures)
    (row_whole (name_at d.premises) c.args.premises.now at c.loop-premise-test.true
    ∙ ap (λ n. (so_far ++ after_space n) ++ flat_map after_space (map (name_at d.premises) (drop (at + 1) c.args.premises.now))) name)

pub loop-premise-preserved : goal.loop-premise-preserved
loop-premise-preserved g c =
    let d : Declared = declared c.args.declaration.now in
    let at : ℕ = c.loop-premise.premise-index in
    let so_far : List ℕ = flat_map after_space (map (name_at d.premises) (take at c.args.premises.now)) in
    let name : name_at d.premises (get_or c.args.premises.now at 0) ≡ c.premise_name.result.now =
    get_or_from_slice_get d.premises (get_or c.args.premises.now at 0) c.premise_name.result.now [] c.premise_name.ensures.name in
    subst (IsPassed g.O.Output.passes g.O.Output.has_failed c.args.output.now c.write_after_space.new.output)
    (sym (row_more (name_at d.premises) c.args.premises.now at c.loop-premise-test.true ∙ ap (λ n. so_far ++ after_space n) name))
    (written_then g.O.Output.passes g.O.Output.has_failed g.met.O.Output.joins c.args.output.now c.loop-premise.output c.write_after_space.new.output
    so_far (after_space c.premise_name.result.now) c.loop-premise.invariant c.in_ok-write_after_space.ensures)
