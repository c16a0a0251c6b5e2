use Rattle.std.proofs.Common.{ap, ◌∙◌, ◌-◌, length, drop, arith}
use Rattle.std.proofs.lemmas.List.{length-drop, length-take-le}
use Rattle.pw_explain.proofs.DroppedLines.{behind_slice}
use Rattle.pw_explain.proofs.unread.keep_between.Goals as goal

pub returns-clause-after : goal.returns-clause-after
returns-clause-after g c =
    behind_slice c.args.bytes.now.items c.deref_mut.result.now c.keep_declaring.new.lines c.args.bytes.now.len c.args.rest c.args.from c.deref_mut.ensures.value
    (omega (arith, c.args.bytes.now.ok)) c.requires.order c.requires.within
    (c.in_ok-kept.ensures.len
    ∙ length-take-le (c.args.from - c.args.rest) (drop c.args.rest c.deref_mut.result.now)
    (omega (arith, length-drop c.args.rest c.deref_mut.result.now, ap length c.deref_mut.ensures.value, c.requires.within)))
