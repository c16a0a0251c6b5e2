use Rattle.std.proofs.Common.{◌+◌, ◌≤◌, length}
use Rattle.pw_info.specs.Lines.{lines_of}
use Rattle.pw_decl.specs.inside.Fields.{declared}
use Rattle.pw_decl.specs.Limits.{most_text_bytes}
use Rattle.pw_decl.specs.inside.Opened.{IsWellPlaced}
use Rattle.pw_decl.specs.inside.Fields.{placed}
use Rattle.pw_decl.proofs.DeclarationSteps.{IsReadUpTo}
use Rattle.pw_decl.proofs.text.read_lines.Given as goal

abbrev pub invariant-loop-line : goal.invariant-loop-line
invariant-loop-line g l = record {
  kept : IsWellPlaced (declared l.declaration) l.place;
  read : IsReadUpTo (placed (declared l.fn.declaration) l.fn.place) (lines_of l.fn.text) l.lines l.count (placed (declared l.declaration) l.place);
  room : l.count + length l.lines ≤ most_text_bytes;
}

abbrev pub decreases-loop-line : goal.decreases-loop-line
decreases-loop-line g l = length l.lines
