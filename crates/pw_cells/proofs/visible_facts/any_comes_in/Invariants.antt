use Rattle.std.proofs.Common.{length}
use Rattle.pw_cells.specs.inside.OneCell.{AreShownBefore}
use Rattle.pw_cells.proofs.visible_facts.any_comes_in.Given as goal

abbrev pub invariant-loop-left : goal.invariant-loop-left
invariant-loop-left g l = AreShownBefore l.before l.worldview l.left → AreShownBefore l.before l.worldview l.facts

abbrev pub decreases-loop-left : goal.decreases-loop-left
decreases-loop-left g l = length l.left
