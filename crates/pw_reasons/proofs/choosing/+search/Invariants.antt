use Rattle.std.proofs.Common.{◌≡◌, ◌+◌, ◌-◌, None, drop, length, take}
use Rattle.pw_network.specs.Wiring.{wiring}
use Rattle.pw_reasons.specs.Combinations.{groups_of, picked_in}
use Rattle.pw_reasons.specs.inside.Products.{worldviews_beside}
use Rattle.pw_reasons.specs.inside.Reasoning.{AreSettledLast}
use Rattle.pw_reasons.specs.inside.Searching.{AreCovered, LeavesSound}
use Rattle.pw_reasons.proofs.SearchSteps.{IsPassed}
use Rattle.pw_reasons.proofs.choosing.+search.Given as goal

-- groups are left
abbrev pub decreases-search : goal.decreases-search
decreases-search g l = length (groups_of l.groups.now) - length (picked_in l.picks.now)

-- the premises so far are passed; nothing changed where all were covered at the start; own values are
-- those of a worldview
abbrev pub invariant-loop-index : goal.invariant-loop-index
invariant-loop-index g l = record {
  passed : IsPassed (wiring l.fn.network) l.fn.store l.fn.worldview (drop (length (picked_in l.fn.picks) + 1) (groups_of l.fn.groups)) (take l.index l.group)
      l.alike l.nogoods;
  known : AreCovered l.fn.nogoods (worldviews_beside l.fn.worldview (drop (length (picked_in l.fn.picks)) (groups_of l.fn.groups)))
      → (l.alike ≡ None) × (l.store ≡ l.fn.store) × (l.nogoods ≡ l.fn.nogoods);
  leaves : LeavesSound (wiring l.fn.network) l.fn.store l.fn.nogoods l.store l.nogoods l.tried.last;
  own : AreSettledLast (wiring l.fn.network) l.fn.store l.own;
}
