use Rattle.std.proofs.Common.{sym, take}
use Rattle.pw_info.proofs.PassingFacts.{second_writes, take-rest}
use Rattle.pw_info.proofs.output.put_all.Goals as goal

pub returns-in-Ok-2 : goal.returns-in-Ok-2
returns-in-Ok-2 g c =
    let bytes = c.args.bytes.now in
    let count = c.in-Ok.count in
    second_writes g.O.Output.passes g.O.Output.has_failed g.met.O.Output.joins _ _ _ c.put_rest.result bytes (take count bytes) _
    (record { passed = c.in-Ok.ensures.passed.2; works = λ _. c.in-Ok.ensures.failed }) c.put_rest.ensures (sym (take-rest bytes count))
