use Rattle.std.proofs.Common.{sym}
use Rattle.pw_info.proofs.Informations.{meet_implied}
use Rattle.pw_cells.proofs.facts_by_support.narrow.Goals as goal

pub returns-else-not-implies : goal.returns-else-not-implies
returns-else-not-implies c = sym (meet_implied _ _ c.requires (c.implies.ensures.0 c.if-not-implies.false))
