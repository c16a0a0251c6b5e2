use Rattle.std.proofs.Common.{◌<◌, length, arith}
use Rattle.std.proofs.lemmas.Bool.Decides.{nat_tests}
use Rattle.pw_procs.proofs.SlotKinds.{same_after_fixed, same_is_first}
use Rattle.pw_procs.proofs.signature.+same_kind.Goals as goal

pub returns-in-Fixed : goal.returns-in-Fixed
returns-in-Fixed t c =
    let some_slots : 0 < length c.args.slots.now = grind (arith, nat_tests) in
    let some_kinds : 0 < length c.args.kinds.now = grind (arith, nat_tests) in
    same_after_fixed _ _ _ _ _ some_slots some_kinds c.slot-item.is c.in-Fixed.is c.same_kind.ensures

pub returns-in-Same : goal.returns-in-Same
returns-in-Same t c =
    let some_slots : 0 < length c.args.slots.now = grind (arith, nat_tests) in
    let some_kinds : 0 < length c.args.kinds.now = grind (arith, nat_tests) in
    same_is_first _ _ _ _ some_slots some_kinds c.slot-item.is c.kind-item.is c.in-Same.is
