use Rattle.pw_kinds.proofs.Intervals.{from_to_only, from_to_values}
use Rattle.pw_kinds.proofs.laws.ends_give_an_interval.Goals as goal

pub returns : goal.returns
returns c = record { values = from_to_values; only = from_to_only }
