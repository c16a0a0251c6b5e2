use Rattle.pw_settle.proofs.MergedTells.{told_merged}
use Rattle.pw_settle.proofs.laws.tells_may_be_merged.Goals as goal

pub returns : goal.returns
returns g c cells over sources are told same = told_merged cells over sources are told same
