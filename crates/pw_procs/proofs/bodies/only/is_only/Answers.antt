use Rattle.std.proofs.Common.{◌<◌, arith}
use Rattle.pw_kinds.specs.Members.{size_of}
use Rattle.pw_kinds.proofs.MemberSets.{allows_below}
use Rattle.pw_procs.proofs.bodies.only.is_only.Goals as goal

pub with-requires : goal.with-requires
with-requires c = let below : c.args.place < size_of c.args.part = allows_below c.args.part c.args.place c.requires in omega arith
