use Rattle.std.proofs.Common.{◌≡◌, length}
use Rattle.std.specs.List.{list_all}
use Rattle.pw_info.specs.Lines.{lines_of}
use Rattle.pw_info.specs.Words.{is_idle}
use Rattle.pw_explain.proofs.cut.all_idle.Given as goal

-- all are idle if those that are left are
abbrev pub invariant-loop-line : goal.invariant-loop-line
invariant-loop-line l = list_all is_idle (lines_of l.fn.text) ≡ list_all is_idle l.lines

abbrev pub decreases-loop-line : goal.decreases-loop-line
decreases-loop-line l = length l.lines
