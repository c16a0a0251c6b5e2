use Rattle.std.proofs.Common.{◌≡◌}
use Rattle.std.specs.Prelude.{IfOk}
use Rattle.std.proofs.lemmas.Result.{IfOk-weaker}
use Rattle.pw_kinds.specs.declared.interval.Interval.{Interval}
use Rattle.pw_decl.specs.Declaration.{Declared}
use Rattle.pw_decl.specs.inside.Fields.{declared}
use Rattle.pw_sessions.specs.Reply as reply
use Rattle.pw_sessions.specs.Reply.{reply_by}
use Rattle.pw_sessions.specs.inside.Fields.{state}
use Rattle.pw_sessions.specs.Workbench.{Workbench}
use Rattle.pw_uses.specs.declared.sum.Sum.{Sum}
use Rattle.pw_uses.specs.Rest.{IsRest}
use Rattle.pw_uses.specs.Sum.{IsSumIn}
use Rattle.pw_uses.proofs.SumLemmas as sum
use Rattle.pw_uses.proofs.rest.KnownOverDeclaration.over.Goals as goal

pub command-requires : goal.command-requires
command-requires g c =
    let d : Declared = declared c.args.declaration.now in
    let s : Sum = c.in_ok-sum.sum in
    let is : IsSumIn d s = c.in_ok-sum.ensures.ok in
    let x : Interval = c.args.self.x in
    let t : Interval = c.args.self.t in
    let made : Workbench = state c.in_ok-workbench.workbench in
    sum.can_attach d s is x t made c.attaching.result c.attaching.ensures c.in_ok-workbench.ensures.left

pub command-requires-2 : goal.command-requires-2
command-requires-2 g c =
    let d : Declared = declared c.args.declaration.now in
    let s : Sum = c.in_ok-sum.sum in
    let is : IsSumIn d s = c.in_ok-sum.ensures.ok in
    let x : Interval = c.args.self.x in
    let t : Interval = c.args.self.t in
    let made : Workbench = state c.in_ok-workbench.workbench in
    let one : Workbench = state c.command.new.self in
    let left_1 = sum.attached d s is x t made c.attaching.result one (reply_by c.command.result) c.in_ok-done.ensures.ok c.attaching.ensures
    c.in_ok-workbench.ensures.left c.command.ensures.carried in
    sum.can_tell_x d s is x t one c.telling.result c.telling.ensures left_1

pub command-requires-3 : goal.command-requires-3
command-requires-3 g c =
    let d : Declared = declared c.args.declaration.now in
    let s : Sum = c.in_ok-sum.sum in
    let is : IsSumIn d s = c.in_ok-sum.ensures.ok in
    let x : Interval = c.args.self.x in
    let t : Interval = c.args.self.t in
    let made : Workbench = state c.in_ok-workbench.workbench in
    let one : Workbench = state c.command.new.self in
    let left_1 = sum.attached d s is x t made c.attaching.result one (reply_by c.command.result) c.in_ok-done.ensures.ok c.attaching.ensures
    c.in_ok-workbench.ensures.left c.command.ensures.carried in
    let two : Workbench = state c.command-2.new.self in
    let left_2 = sum.told_x d s is x t one c.telling.result two (reply_by c.command-2.result) c.in_ok-done-2.ensures.ok c.telling.ensures left_1
    c.command-2.ensures.carried in
    sum.can_tell_t d s is x t two c.telling-2.result c.telling-2.ensures left_2

pub command-requires-4 : goal.command-requires-4
command-requires-4 g c =
    let d : Declared = declared c.args.declaration.now in
    let s : Sum = c.in_ok-sum.sum in
    let is : IsSumIn d s = c.in_ok-sum.ensures.ok in
    let x : Interval = c.args.self.x in
    let t : Interval = c.args.self.t in
    let made : Workbench = state c.in_ok-workbench.workbench in
    let one : Workbench = state c.command.new.self in
    let left_1 = sum.attached d s is x t made c.attaching.result one (reply_by c.command.result) c.in_ok-done.ensures.ok c.attaching.ensures
    c.in_ok-workbench.ensures.left c.command.ensures.carried in
    let two : Workbench = state c.command-2.new.self in
    let left_2 = sum.told_x d s is x t one c.telling.result two (reply_by c.command-2.result) c.in_ok-done-2.ensures.ok c.telling.ensures left_1
    c.command-2.ensures.carried in
    let three : Workbench = state c.command-3.new.self in
    let left_3 = sum.told_t d s is x t two c.telling-2.result three (reply_by c.command-3.result) c.in_ok-done-3.ensures.ok c.telling-2.ensures left_2
    c.command-3.ensures.carried in
    sum.can_ask d s is x t three c.asking.result c.asking.ensures left_3

pub returns : goal.returns
returns g c =
    let d : Declared = declared c.args.declaration.now in
    let s : Sum = c.in_ok-sum.sum in
    let is : IsSumIn d s = c.in_ok-sum.ensures.ok in
    let x : Interval = c.args.self.x in
    let t : Interval = c.args.self.t in
    let made : Workbench = state c.in_ok-workbench.workbench in
    let one : Workbench = state c.command.new.self in
    let left_1 = sum.attached d s is x t made c.attaching.result one (reply_by c.command.result) c.in_ok-done.ensures.ok c.attaching.ensures
    c.in_ok-workbench.ensures.left c.command.ensures.carried in
    let two : Workbench = state c.command-2.new.self in
    let left_2 = sum.told_x d s is x t one c.telling.result two (reply_by c.command-2.result) c.in_ok-done-2.ensures.ok c.telling.ensures left_1
    c.command-2.ensures.carried in
    let three : Workbench = state c.command-3.new.self in
    let left_3 = sum.told_t d s is x t two c.telling-2.result three (reply_by c.command-3.result) c.in_ok-done-3.ensures.ok c.telling-2.ensures left_2
    c.command-3.ensures.carried in
    let four : Workbench = state c.command-4.new.self in
    let ok : IfOk c.value.result (IsRest x t d) =
    IfOk-weaker c.value.result (λ info. reply_by c.command-4.result ≡ reply.Value info) (IsRest x t d)
    (λ info valued.
    sum.asked d s is x t three c.asking.result four (reply_by c.command-4.result) info valued c.asking.ensures left_3 c.command-4.ensures.carried)
    c.value.ensures.ok in
    sum.answer_is x t d c.value.result ok c.value.ensures.err
