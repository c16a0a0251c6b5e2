use Rattle.std.proofs.Common.{◌≡◌, take}
use Rattle.pw_settle.proofs.support_list.widened.Given as goal

abbrev pub invariant-loop-support : goal.invariant-loop-support
invariant-loop-support g l = l.wide.items ≡ take l.support-index l.list
