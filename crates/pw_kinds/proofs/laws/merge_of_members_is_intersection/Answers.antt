use Rattle.pw_kinds.proofs.MemberSets.{allows-full, allows-empty, size_of-meet, allows-meet, allows_in_size}
use Rattle.pw_kinds.proofs.laws.merge_of_members_is_intersection.Goals as goal

pub returns : goal.returns
returns c = record { full = allows-full; empty = allows-empty; size = size_of-meet; meet = allows-meet; places = allows_in_size }
