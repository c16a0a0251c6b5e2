use Rattle.pw_info.proofs.Dots.{one_range_lem}
use Rattle.pw_info.proofs.laws.one_range.Goals as goal

pub returns : goal.returns
returns c = λ word ends others p q. let (low, high) = one_range_lem word ends.0 ends.1 others.0 others.1 p q in λ k. (low k, high k)
