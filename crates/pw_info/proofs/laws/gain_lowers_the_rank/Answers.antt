use Rattle.pw_info.proofs.Ranks.{rank_falls, rank_gain}
use Rattle.pw_info.proofs.laws.gain_lowers_the_rank.Goals as goal

pub returns : goal.returns
returns c = record { gain = rank_falls; same_or_gain = rank_gain }
