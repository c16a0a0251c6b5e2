use Rattle.std.proofs.Common.{take}
use Rattle.pw_cells.specs.inside.OneCell.{AreShownBefore}
use Rattle.pw_cells.proofs.visible_facts.one_comes_in.Given as goal

abbrev pub invariant-loop-held : goal.invariant-loop-held
invariant-loop-held g l = AreShownBefore l.before l.worldview (take l.held-index l.facts)
