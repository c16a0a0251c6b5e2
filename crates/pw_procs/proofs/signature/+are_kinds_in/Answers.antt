use Rattle.std.proofs.Common.{◌≡◌, ◌<◌, length, arith, ◌∙◌}
use Rattle.std.proofs.lemmas.Bool.Decides.{nat_tests}
use Rattle.pw_procs.specs.Slots.{kind_in_slot}
use Rattle.pw_procs.proofs.SlotKinds.{kinds_from_first}
use Rattle.pw_procs.proofs.signature.+are_kinds_in.Goals as goal

pub returns-then-are_equal : goal.returns-then-are_equal
returns-then-are_equal t c =
    let some_slots : 0 < length c.args.slots.now = grind (arith, nat_tests) in
    let some_kinds : 0 < length c.args.kinds.now = grind (arith, nat_tests) in
    let here : c.kind-item.result ≡ kind_in_slot c.args.same c.slot-item.result = c.are_equal.ensures.0 c.if-are_equal.true ∙ c.kind_in.ensures in
    kinds_from_first c.args.same _ _ _ _ _ some_slots some_kinds c.slot-item.is c.kind-item.is here c.are_kinds_in.ensures
