use Rattle.pw_settle.proofs.QueuedReaders.{same_flags}
use Rattle.pw_settle.proofs.settling.agenda_of.Goals as goal

pub returns : goal.returns
returns g c =
    same_flags c.loop-number.agenda c.args.visible.now c.loop-number.number c.loop-number.invariant.many c.loop-number.invariant.before c.loop-number-test.false
