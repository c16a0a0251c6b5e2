-- The laws of this crate that are longer than a line: each is the contract of a function in
-- `src/laws.rt`.
use Rattle.std.specs.Prelude.{◌≡◌, ℕ, ℤ, pos, ◌&&◌, Bool, true, [], ◌∷◌}
use Rattle.pw_kinds.specs.declared.interval.Interval.{Interval}
use Rattle.pw_kinds.specs.Interval.{IsFromTo, AreEnds}
use Rattle.pw_kinds.specs.Interval.{from_to}
use Rattle.pw_kinds.specs.declared.members.Members.{Members}
use Rattle.pw_kinds.specs.Places.{IsSize, is_place}
use Rattle.pw_kinds.specs.Members as members
use Rattle.pw_kinds.specs.Members.{at_places}
use Rattle.pw_kinds.specs.declared.exact.Exact.{Exact}
use Rattle.pw_kinds.specs.Exact as exact

-- one interval leaves possible just the numbers from one end to the other
abbrev pub EndsGiveOneInterval : Type 0
EndsGiveOneInterval =
    (lo hi : ℤ) (i : Interval) →
    AreEnds lo hi → IsFromTo i lo hi → i ≡ from_to lo hi

-- members of sets of one size that leave the same places possible are equal
abbrev pub SameMembersAreEqual : Type 0
SameMembersAreEqual =
    (m n : Members) →
    members.size_of m ≡ members.size_of n → members.SameValues m n → m ≡ n

-- the closest members to a test leave possible just the places that pass
abbrev pub ClosestMembersPass : Type 0
ClosestMembersPass =
    (size : ℕ) (p : ℤ → Bool) →
    IsSize size → members.IsClosest size p (members.closest size p)

-- and no other members do
abbrev pub OnlyClosestMembersPass : Type 0
OnlyClosestMembersPass =
    (size : ℕ) (p : ℤ → Bool) (m : Members) →
    members.IsClosest size p m → m ≡ members.closest size p

-- all members leave each place of the set possible
abbrev pub AllMembersAllowEachPlace : Type 0
AllMembersAllowEachPlace =
    (size : ℕ) → IsSize size →
    (v : ℤ) → members.allows (members.full size) v ≡ is_place size v

-- a merge of members leaves possible what both leave possible
abbrev pub MergeOfMembersAllowsWhatBothAllow : Type 0
MergeOfMembersAllowsWhatBothAllow =
    (m n : Members) (v : ℤ) →
    members.allows (members.meet_of m n) v ≡ (members.allows m v && members.allows n v)

-- members leave only places of their set possible
abbrev pub MembersAllowPlaces : Type 0
MembersAllowPlaces =
    (m : Members) (v : ℤ) →
    members.allows m v ≡ true → is_place (members.size_of m) v ≡ true

-- of three places, the first two merged with the last two leave the second
abbrev pub MembersExampleMeet : Type 0
MembersExampleMeet =
    members.meet_of (at_places 3 (0 ∷ 1 ∷ [])) (at_places 3 (1 ∷ 2 ∷ []))
    ≡ at_places 3 (1 ∷ [])

-- the first merged with the last two leaves none
abbrev pub MembersExampleApart : Type 0
MembersExampleApart =
    members.meet_of (at_places 3 (0 ∷ [])) (at_places 3 (1 ∷ 2 ∷ []))
    ≡ members.empty 3

-- a merge of exact values leaves possible what both leave possible
abbrev pub MergeOfExactValuesAllowsWhatBothAllow : Type 0
MergeOfExactValuesAllowsWhatBothAllow =
    (e f : Exact) (v : ℤ) →
    exact.allows (exact.meet_of e f) v ≡ (exact.allows e v && exact.allows f v)

-- the closest exact value to a test that two numbers pass is any number
abbrev pub ExactExampleClosestToTwo : Type 0
ExactExampleClosestToTwo =
    (p : ℤ → Bool) →
    p (pos 2) ≡ true → p (pos 5) ≡ true → exact.closest p ≡ exact.any
