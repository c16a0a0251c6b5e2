use Rattle.std.proofs.Common.{◌≡◌, drop}
use Rattle.pw_network.specs.inside.Held.{attachment}
use Rattle.pw_settle.specs.inside.Known.{joined}
use Rattle.pw_settle.proofs.known.joined_narrow.Given as goal

-- the rest, joined to what is joined so far, is all
abbrev pub invariant-loop-input : goal.invariant-loop-input
invariant-loop-input g l = joined l.supports l.joined (drop l.input-index l.inputs) ≡ joined l.supports (attachment l.instance).support l.inputs
