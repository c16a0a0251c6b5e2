use Rattle.std.proofs.Common.{sym, ◌∙◌}
use Rattle.pw_settle.proofs.QueuedReaders.{one_queued}
use Rattle.pw_settle.proofs.readers.queue_one.Goals as goal

pub returns-then-sees : goal.returns-then-sees
returns-then-sees g c =
    one_queued (g.V.Sees.seen c.args.viewer) c.args.agenda.now c.add.new.self c.args.number c.requires.below (sym c.sees.ensures ∙ c.if-sees.true) c.add.ensures
