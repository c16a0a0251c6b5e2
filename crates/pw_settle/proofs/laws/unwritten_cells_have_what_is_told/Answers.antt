use Rattle.pw_settle.proofs.MergedTells.{unwritten_told}
use Rattle.pw_settle.proofs.laws.unwritten_cells_have_what_is_told.Goals as goal

pub returns : goal.returns
returns g c cells over sources are d unwritten = unwritten_told cells sources are.fit d unwritten over are
