use Rattle.std.proofs.Common.{refl}
use Rattle.std.specs.FinSet.{empty}
use Rattle.pw_decl.specs.Declaration.{Declared}
use Rattle.pw_decl.specs.inside.Fields.{declared}
use Rattle.pw_sessions.specs.declared.command.Command.TheVariants as commands
use Rattle.pw_sessions.specs.Reply as reply
use Rattle.pw_sessions.specs.inside.Fields.{state}
use Rattle.pw_sessions.specs.Workbench.{Workbench}
use Rattle.pw_uses.specs.declared.host.Matter.{Matter}
use Rattle.pw_uses.proofs.HostLemmas as host
use Rattle.pw_uses.proofs.host.asked_by_two.Goals as goal

pub command-requires : goal.command-requires
command-requires g c =
    let d : Declared = declared c.args.declaration.now in
    let m : Matter = c.args.matter.now in
    let made : Workbench = state c.in-Ok-new.workbench in
    host.can_by made 1 c.attaching.result (host.attach d m c.requires empty) c.attaching.ensures
    (host.can_attach d m c.requires empty made c.in-Ok-new.ensures.left)

pub command-requires-2 : goal.command-requires-2
command-requires-2 g c =
    let d : Declared = declared c.args.declaration.now in
    let m : Matter = c.args.matter.now in
    let made : Workbench = state c.in-Ok-new.workbench in
    let one : Workbench = state c.command.new.self in
    let left_1 = host.attached d m c.requires empty made one c.in-Ok-new.ensures.left
    (host.out_by made 1 c.attaching.result (host.attach d m c.requires empty) one reply.Done c.attaching.ensures c.in-Done.ensures.carried) in
    host.can_by one 2 c.telling.result (host.tell d m c.requires empty) c.telling.ensures (host.can_tell d m c.requires empty one left_1)

pub command-requires-3 : goal.command-requires-3
command-requires-3 g c =
    let d : Declared = declared c.args.declaration.now in
    let m : Matter = c.args.matter.now in
    let made : Workbench = state c.in-Ok-new.workbench in
    let one : Workbench = state c.command.new.self in
    let two : Workbench = state c.command-2.new.self in
    let left_1 = host.attached d m c.requires empty made one c.in-Ok-new.ensures.left
    (host.out_by made 1 c.attaching.result (host.attach d m c.requires empty) one reply.Done c.attaching.ensures c.in-Done.ensures.carried) in
    let left_2 = host.told d m c.requires empty one two left_1
    (host.out_by one 2 c.telling.result (host.tell d m c.requires empty) two reply.Done c.telling.ensures c.in-Done-command.ensures.carried) in
    host.can_by two 3 c.doubting.result (host.doubt d m c.requires empty) c.doubting.ensures (host.can_doubt d m c.requires empty two left_2)

pub command-requires-4 : goal.command-requires-4
command-requires-4 g c =
    let d : Declared = declared c.args.declaration.now in
    let m : Matter = c.args.matter.now in
    let made : Workbench = state c.in-Ok-new.workbench in
    let one : Workbench = state c.command.new.self in
    let two : Workbench = state c.command-2.new.self in
    let three : Workbench = state c.command-3.new.self in
    let left_1 = host.attached d m c.requires empty made one c.in-Ok-new.ensures.left
    (host.out_by made 1 c.attaching.result (host.attach d m c.requires empty) one reply.Done c.attaching.ensures c.in-Done.ensures.carried) in
    let left_2 = host.told d m c.requires empty one two left_1
    (host.out_by one 2 c.telling.result (host.tell d m c.requires empty) two reply.Done c.telling.ensures c.in-Done-command.ensures.carried) in
    let left_3 = host.doubted d m c.requires empty two three left_2
    (host.out_by two 3 c.doubting.result (host.doubt d m c.requires empty) three reply.Done c.doubting.ensures c.in-Done-command-2.ensures.carried) in
    host.can_by three 4 c.asking.result (commands.Ask 0 m.asked) c.asking.ensures (host.can_ask d m c.requires empty three left_3)

pub command-requires-5 : goal.command-requires-5
command-requires-5 g c =
    let d : Declared = declared c.args.declaration.now in
    let m : Matter = c.args.matter.now in
    let made : Workbench = state c.in-Ok-new.workbench in
    let one : Workbench = state c.command.new.self in
    let two : Workbench = state c.command-2.new.self in
    let three : Workbench = state c.command-3.new.self in
    let four : Workbench = state c.command-4.new.self in
    let left_1 = host.attached d m c.requires empty made one c.in-Ok-new.ensures.left
    (host.out_by made 1 c.attaching.result (host.attach d m c.requires empty) one reply.Done c.attaching.ensures c.in-Done.ensures.carried) in
    let left_2 = host.told d m c.requires empty one two left_1
    (host.out_by one 2 c.telling.result (host.tell d m c.requires empty) two reply.Done c.telling.ensures c.in-Done-command.ensures.carried) in
    let left_3 = host.doubted d m c.requires empty two three left_2
    (host.out_by two 3 c.doubting.result (host.doubt d m c.requires empty) three reply.Done c.doubting.ensures c.in-Done-command-2.ensures.carried) in
    let out_4 = host.out_by three 4 c.asking.result (commands.Ask 0 m.asked) four (reply.Value c.in-Value.first) c.asking.ensures c.in-Value.ensures.carried in
    host.can_by four 5 c.asking-2.result (commands.Ask 1 m.asked) c.asking-2.ensures
    (host.can_ask_too d m c.requires empty four (host.asked d m c.requires empty three four c.in-Value.first left_3 out_4))

pub returns : goal.returns
returns g c =
    let d : Declared = declared c.args.declaration.now in
    let m : Matter = c.args.matter.now in
    let made : Workbench = state c.in-Ok-new.workbench in
    let one : Workbench = state c.command.new.self in
    let two : Workbench = state c.command-2.new.self in
    let three : Workbench = state c.command-3.new.self in
    let four : Workbench = state c.command-4.new.self in
    let five : Workbench = state c.command-5.new.self in
    let left_1 = host.attached d m c.requires empty made one c.in-Ok-new.ensures.left
    (host.out_by made 1 c.attaching.result (host.attach d m c.requires empty) one reply.Done c.attaching.ensures c.in-Done.ensures.carried) in
    let left_2 = host.told d m c.requires empty one two left_1
    (host.out_by one 2 c.telling.result (host.tell d m c.requires empty) two reply.Done c.telling.ensures c.in-Done-command.ensures.carried) in
    let left_3 = host.doubted d m c.requires empty two three left_2
    (host.out_by two 3 c.doubting.result (host.doubt d m c.requires empty) three reply.Done c.doubting.ensures c.in-Done-command-2.ensures.carried) in
    let out_4 = host.out_by three 4 c.asking.result (commands.Ask 0 m.asked) four (reply.Value c.in-Value.first) c.asking.ensures c.in-Value.ensures.carried in
    record {
      doubting = host.doubting d m c.requires empty three four c.in-Value.first refl left_3 out_4;
      trusting = host.trusting d m c.requires empty four five c.in-Value-command.second refl
          (host.asked d m c.requires empty three four c.in-Value.first left_3 out_4)
          (host.out_by four 5 c.asking-2.result (commands.Ask 1 m.asked) five (reply.Value c.in-Value-command.second) c.asking-2.ensures
          c.in-Value-command.ensures.carried);
    }
