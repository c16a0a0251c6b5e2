use Rattle.std.proofs.Common.{sym}
use Rattle.pw_reasons.proofs.NogoodLemmas.{covers_already}
use Rattle.pw_reasons.proofs.nogoods.Nogoods.note.Goals as goal

pub returns-then-covers-clause-covered : goal.returns-then-covers-clause-covered
returns-then-covers-clause-covered g c = covers_already c.args.premises.now c.args.self.now (sym c.if-covers.ensures)
