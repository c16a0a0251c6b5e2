use Rattle.std.proofs.Common.{arith}
use Rattle.pw_decl.proofs.declaration.additions.add_compound_name.Goals as goal

pub returns-clause-ok : goal.returns-clause-ok
returns-clause-ok g c = c.in_ok-add.ensures.ok

pub returns-clause-compounds : goal.returns-clause-compounds
returns-clause-compounds g c = c.reserve.ensures.items

pub returns-clause-room : goal.returns-clause-room
returns-clause-room g c = omega (arith, c.in_ok-reserve.ensures.ok, c.reserve.ensures.len)

pub returns-clause-room_flattened : goal.returns-clause-room_flattened
returns-clause-room_flattened g c = omega (arith, c.in_ok-reserve-2.ensures.ok, c.reserve-2.ensures.len)
