use Rattle.std.proofs.Common.{◌+◌, ◌<◌, List, ℕ, ◌++◌, length, codes, map, subst}
use Rattle.std.specs.Fmt.{decimal}
use Rattle.std.specs.List.{flat_map}
use Rattle.pw_decl.specs.Declaration.{Declared}
use Rattle.pw_decl.specs.inside.Fields.{declared}
use Rattle.pw_info.specs.Passing.{IsBrokenOff, IsPassed, Writes}
use Rattle.pw_info.specs.SetNames.{name_at}
use Rattle.pw_info.proofs.PassingFacts.{first_fails, second_writes}
use Rattle.pw_reasons.specs.Conflicts.{Conflicts}
use Rattle.pw_transcript.specs.ReplyText.{after_space}
use Rattle.pw_transcript.proofs.RowTexts.{conflicts_text, some_cell, some_line}
use Rattle.pw_transcript.proofs.reply_text.write_conflict_names.Goals as goal
use Rattle.pw_transcript.proofs.reply_text.write_conflict_names.Goals.{else-is_empty-via-then-is_empty+else-is_empty-2, else-is_empty-via-else-is_empty}

pub returns-in_err-write_cells : goal.returns-in_err-write_cells
returns-in_err-write_cells g c =
    let d : Declared = declared c.args.declaration.now in
    let conflicts : Conflicts = c.args.conflicts.now in
    let cells : List ℕ = flat_map after_space (map (name_at d.cells) conflicts.cells) in
    let lines : List ℕ = flat_map after_space (map (λ line. codes "line " ++ decimal line) conflicts.lines) in
    let some : 0 < length conflicts.cells + length conflicts.lines = elim c.else-is_empty.branch [
      | else-is_empty-via-then-is_empty+else-is_empty-2 w ↦ some_line conflicts w.lines.result.now w.lines.ensures w.if-is_empty-2.ensures
      | else-is_empty-via-else-is_empty w ↦ some_cell conflicts c.cells.result.now c.cells.ensures w.if-is_empty.ensures
    ] in
    first_fails g.O.Output.passes g.O.Output.has_failed _ _ c.from_residual.result _ cells lines
    c.from_residual.ensures.0
    (subst (λ (l : List ℕ). IsBrokenOff g.O.Output.passes g.O.Output.has_failed c.args.output.now c.write_cells.new.output (flat_map after_space (map (name_at d.cells) l))) c.cells-2.ensures
    c.in_err-write_cells.ensures)
    (conflicts_text d conflicts some)

pub returns : goal.returns
returns g c =
    let d : Declared = declared c.args.declaration.now in
    let conflicts : Conflicts = c.args.conflicts.now in
    let cells : List ℕ = flat_map after_space (map (name_at d.cells) conflicts.cells) in
    let lines : List ℕ = flat_map after_space (map (λ line. codes "line " ++ decimal line) conflicts.lines) in
    let some : 0 < length conflicts.cells + length conflicts.lines = elim c.else-is_empty.branch [
      | else-is_empty-via-then-is_empty+else-is_empty-2 w ↦ some_line conflicts w.lines.result.now w.lines.ensures w.if-is_empty-2.ensures
      | else-is_empty-via-else-is_empty w ↦ some_cell conflicts c.cells.result.now c.cells.ensures w.if-is_empty.ensures
    ] in
    second_writes g.O.Output.passes g.O.Output.has_failed g.met.O.Output.joins _ _ _ c.write_lines.result _ cells lines
    (subst (λ (l : List ℕ). IsPassed g.O.Output.passes g.O.Output.has_failed c.args.output.now c.write_cells.new.output (flat_map after_space (map (name_at d.cells) l))) c.cells-2.ensures
    c.in_ok-write_cells.ensures)
    (subst (λ (l : List ℕ). Writes g.O.Output.passes g.O.Output.has_failed c.write_cells.new.output c.write_lines.new.output c.write_lines.result (flat_map after_space (map (λ line. codes "line " ++ decimal line) l)))
    c.lines-2.ensures c.write_lines.ensures)
    (conflicts_text d conflicts some)
