use Rattle.pw_info.proofs.Ranks.{rank_most, rank_most_of_all, rank_of-contradiction, rank_of-nothing}
use Rattle.pw_info.proofs.laws.rank_has_a_bound.Goals as goal

pub returns : goal.returns
returns c = record { nothing = rank_of-nothing; contradiction = rank_of-contradiction; kind = rank_most; all = rank_most_of_all }
