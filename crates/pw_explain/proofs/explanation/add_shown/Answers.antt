use Rattle.std.proofs.Common.{refl, ◌-◌, ◌∙◌, drop, length, take, arith}
use Rattle.pw_explain.proofs.WrittenBytes.{sliced, written}
use Rattle.pw_explain.proofs.explanation.add_shown.Goals as goal

pub returns : goal.returns
returns g c =
    c.in_ok-push-2.ensures.items
    ∙ written c.args.line.now c.args.text.now.items c.extend_from_slice.new.self.items c.loop-byte.text.items _ c.args.from c.in_ok-extend_from_slice.ensures.items c.loop-byte.invariant
    (sliced c.args.line.now (take (length c.args.line.now - c.min.result) (drop c.min.result c.args.line.now)) c.args.from c.min.result 100 c.min-2.result c.loop-byte.byte-index
    c.min.ensures refl c.min-2.ensures (omega (arith, c.loop-byte-test.false)))
