use Rattle.std.proofs.Common.{◌≡◌, ◌+◌, ◌≤◌, ◌++◌, true, length, take}
use Rattle.std.specs.List.{list_all}
use Rattle.pw_procs.specs.inside.Shapes.{most_arguments}
use Rattle.pw_decl.specs.inside.Fields.{declared}
use Rattle.pw_transcript.specs.Reading.{is_cell, cells_named}
use Rattle.pw_transcript.specs.inside.Forms.{before_under}
use Rattle.pw_transcript.proofs.command_text.named_cells.Given as goal

-- the cells so far and those of the remaining words are the cells of all words
abbrev pub invariant-loop-word : goal.invariant-loop-word
invariant-loop-word g l = record {
  room : length l.cells ≡ most_arguments;
  most : l.count ≤ most_arguments;
  counted : l.count + length (before_under l.words) ≡ length (before_under l.fn.words);
  named : cells_named (declared l.declaration) (before_under l.fn.words) ≡ take l.count l.cells ++ cells_named (declared l.declaration) (before_under l.words);
  known : list_all (is_cell (declared l.declaration)) (before_under l.words) ≡ true;
}

abbrev pub decreases-loop-word : goal.decreases-loop-word
decreases-loop-word g l = length l.words
