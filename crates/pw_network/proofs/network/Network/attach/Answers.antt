use Rattle.pw_procs.specs.Registry.{cells_of}
use Rattle.pw_decl.specs.declared.step.Callable.TheVariants as callables
use Rattle.pw_network.specs.Wiring.{wiring}
use Rattle.pw_network.proofs.AttachedCalls.{may_attach}
use Rattle.pw_network.proofs.network.Network.attach.Goals as goal

pub attach_procedure-attached-requires : goal.attach_procedure-attached-requires
attach_procedure-attached-requires g c =
    may_attach (wiring c.args.self.now) c.args.line c.args.callable (callables.Stored c.in-Stored.procedure) (cells_of c.args.cells)
    c.kinds.result.now c.accepts_at.result c.accepts_at.ensures c.if-not-accepts_at.false c.kinds.ensures.kinds c.requires.cells c.requires.next c.requires.most
    c.in-Stored.is

pub attach_compound-attached-requires-clause-may : goal.attach_compound-attached-requires-clause-may
attach_compound-attached-requires-clause-may g c =
    may_attach (wiring c.args.self.now) c.args.line c.args.callable (callables.Compound c.in-Compound.compound) (cells_of c.args.cells)
    c.kinds.result.now c.accepts_at.result c.accepts_at.ensures c.if-not-accepts_at.false c.kinds.ensures.kinds c.requires.cells c.requires.next c.requires.most
    c.in-Compound.is
