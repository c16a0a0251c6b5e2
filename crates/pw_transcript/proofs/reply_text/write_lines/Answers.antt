use Rattle.std.proofs.Common.{ℕ, List, ◌++◌, codes, get_or, map, take}
use Rattle.std.specs.Fmt.{decimal}
use Rattle.std.specs.List.{flat_map}
use Rattle.pw_info.proofs.PassingFacts.{broken_off_then, first_fails}
use Rattle.pw_transcript.specs.ReplyText.{after_space}
use Rattle.pw_transcript.proofs.RowTexts.{row_whole}
use Rattle.pw_transcript.proofs.reply_text.write_lines.Goals as goal

pub returns-in_err-write_line : goal.returns-in_err-write_line
returns-in_err-write_line g c =
    let name : ℕ → List ℕ = λ line. codes "line " ++ decimal line in
    let at : ℕ = c.loop-line.line-index in
    let so_far : List ℕ = flat_map after_space (map name (take at c.args.lines.now)) in
    let next : List ℕ = after_space (name (get_or c.args.lines.now at 0)) in
    first_fails g.O.Output.passes g.O.Output.has_failed _ _ c.from_residual.result _ (so_far ++ next) _ c.from_residual.ensures.0
    (broken_off_then g.O.Output.passes g.O.Output.has_failed g.met.O.Output.joins c.args.output.now c.loop-line.output c.write_line.new.output
    so_far next c.loop-line.invariant c.in_err-write_line.ensures)
    (row_whole name c.args.lines.now at c.loop-line-test.true)
