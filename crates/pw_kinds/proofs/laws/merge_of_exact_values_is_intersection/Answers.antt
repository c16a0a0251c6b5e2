use Rattle.pw_kinds.proofs.Exacts.{one_is, allows-any, allows-empty, allows-meet, allows_in_range}
use Rattle.pw_kinds.proofs.laws.merge_of_exact_values_is_intersection.Goals as goal

pub returns : goal.returns
returns c = record { one = one_is; any = allows-any; empty = allows-empty; meet = allows-meet; range = allows_in_range }
