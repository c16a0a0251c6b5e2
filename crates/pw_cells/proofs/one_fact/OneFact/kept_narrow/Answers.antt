use Rattle.std.proofs.Common.{refl}
use Rattle.pw_cells.proofs.Shown.{is_kept_so}
use Rattle.pw_cells.proofs.one_fact.OneFact.kept_narrow.Goals as goal

pub returns : goal.returns
returns g c = is_kept_so _ _ _ _ _ _ refl c.narrow.ensures.info c.narrow.ensures.support c.kept.ensures
