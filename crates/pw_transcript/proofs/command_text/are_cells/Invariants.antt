use Rattle.std.proofs.Common.{◌≡◌, length}
use Rattle.std.specs.List.{list_all}
use Rattle.pw_decl.specs.inside.Fields.{declared}
use Rattle.pw_transcript.specs.Reading.{is_cell}
use Rattle.pw_transcript.specs.inside.Forms.{before_under}
use Rattle.pw_transcript.proofs.command_text.are_cells.Given as goal

-- all name cells if the remaining ones do
abbrev pub invariant-loop-word : goal.invariant-loop-word
invariant-loop-word g l =
    list_all (is_cell (declared l.declaration)) (before_under l.fn.words) ≡ list_all (is_cell (declared l.declaration)) (before_under l.words)

abbrev pub decreases-loop-word : goal.decreases-loop-word
decreases-loop-word g l = length l.words
