use Rattle.pw_procs.proofs.KindLaws.{of_output_kind}
use Rattle.pw_procs.proofs.stored.Stored.signature.Goals as goal

pub returns-clause-kind : goal.returns-clause-kind
returns-clause-kind g c = of_output_kind c.args.self.now.signature c.args.self.now.meaning c.args.self.now.slots
