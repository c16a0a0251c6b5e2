use Rattle.pw_kinds.proofs.Intervals.{allows-whole, allows-meet, empty_none}
use Rattle.pw_kinds.proofs.laws.merge_is_intersection.Goals as goal

pub returns : goal.returns
returns c = record { whole = allows-whole; empty = empty_none; meet = allows-meet }
