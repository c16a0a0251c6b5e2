-- Ranks: a gain of information lowers them, and they have a bound.
use Rattle.std.proofs.Common.{◌≡◌, ◌≢◌, ℕ, ◌<◌, ◌≤◌, ℤ, ◌≤ℤ◌, ◌<ℤ◌, true, pos, ◌⊎◌, inl, inr, refl, sym, ◌∙◌, ap, subst, arith}
use Rattle.std.proofs.lemmas.Int.{ints}
use Rattle.std.specs.Int.Signed.{le_z, lt_z}
use Rattle.pw_kinds.specs.declared.interval.Interval.{Interval}
use Rattle.pw_kinds.specs.declared.members.Members.{Members}
use Rattle.pw_kinds.specs.declared.exact.Exact.{Exact}
use Rattle.pw_kinds.specs.declared.exact.Exact.TheVariants.{Any, One, Empty}
use Rattle.pw_kinds.specs.Exact as exact
use Rattle.pw_kinds.specs.Interval as interval
use Rattle.pw_kinds.specs.Members as members
use Rattle.pw_kinds.specs.Places.{IsSize, is_place}
use Rattle.pw_kinds.specs.Ranges.{interval_lowest, interval_highest, interval_numbers}
use Rattle.pw_kinds.specs.Ranges.{count}
use Rattle.pw_kinds.proofs.Counts.{AgreeFrom, count_all, count_gain, count_most, count_none}
use Rattle.pw_kinds.proofs.Exacts as exacts
use Rattle.pw_kinds.proofs.Intervals as intervals
use Rattle.pw_kinds.proofs.MemberSets as sets
use Rattle.pw_kinds.proofs.Order.{both_true, true_between}
use Rattle.pw_info.specs.declared.kind.Kind.{Kind}
use Rattle.pw_info.specs.declared.kind.Kind.TheVariants as kinds
use Rattle.pw_info.specs.declared.info.Info.{Info}
use Rattle.pw_info.specs.declared.info.Info.TheVariants as info
use Rattle.pw_info.specs.Information.{kind_of, Implies, nothing, contradiction}
use Rattle.pw_info.specs.Rank.{rank_of, rank_of_exact, most_rank}
use Rattle.pw_info.proofs.Informations.{allows-contradiction, same_members, same_number, same_size}

-- ---- a gain lowers the rank

-- intervals that agree on every number in range are equal
agreeing_intervals : (i j : Interval) → AgreeFrom (interval.allows i) (interval.allows j) interval_numbers interval_lowest → i ≡ j
agreeing_intervals i j agree =
    intervals.closest_is (interval.allows j) i (λ v low high. agree v low (omega (arith, ints)))
    ∙ sym (intervals.closest_is (interval.allows j) j (λ v low high. refl))

interval_gain : (i j : Interval) → interval.IsWithin i j
    → (i ≡ j) ⊎ (count (interval.allows i) interval_numbers interval_lowest < count (interval.allows j) interval_numbers interval_lowest)
interval_gain i j within = elim (count_gain (interval.allows i) (interval.allows j) within interval_numbers interval_lowest) [
  | inl agree ↦ inl (agreeing_intervals i j agree)
  | inr fewer ↦ inr fewer
]

members_gain : (m n : Members) → members.size_of m ≡ members.size_of n → members.IsWithin m n
    → (m ≡ n) ⊎ (count (members.allows m) (members.size_of m) (pos 0) < count (members.allows n) (members.size_of n) (pos 0))
members_gain m n size within = elim (count_gain (members.allows m) (members.allows n) within (members.size_of m) (pos 0)) [
  | inl agree ↦ inl (sets.same_places m n size (λ k below. agree (pos k) (omega (arith, ints)) (omega (arith, ints))))
  | inr fewer ↦ inr (subst (λ (s : ℕ). count (members.allows m) (members.size_of m) (pos 0) < count (members.allows n) s (pos 0)) size fewer)
]

exact_gain : (e f : Exact) → exact.IsWithin e f → (e ≡ f) ⊎ (rank_of_exact e < rank_of_exact f)
exact_gain Any Any within = inl refl
exact_gain Any (One n) within = absurd (exacts.one_not_any n within)
exact_gain Any Empty within = absurd (exacts.empty_not_any within)
exact_gain (One m) Any within = inr (omega arith)
exact_gain (One m) (One n) within = inl (exacts.same_number m n (exacts.within_one m n within))
exact_gain (One m) Empty within = absurd (exacts.one_not_within_empty (One m) Empty m refl refl within)
exact_gain Empty Any within = inr (omega arith)
exact_gain Empty (One n) within = inr (omega arith)
exact_gain Empty Empty within = inl refl

-- an information that implies another of its kind is the same, or its rank is lower
pub rank_gain : (a b : Info) → kind_of a ≡ kind_of b → Implies a b → (a ≡ b) ⊎ (rank_of a < rank_of b)
rank_gain (info.Interval i) (info.Interval j) kind implied = elim (interval_gain i j implied) [
  | inl same ↦ inl (ap info.Interval same)
  | inr fewer ↦ inr fewer
]
rank_gain (info.Members m one) (info.Members n another) kind implied = elim (members_gain one another (same_size m n one another kind) implied) [
  | inl same ↦ inl (same_members m n one another (same_number m n one another kind) same)
  | inr fewer ↦ inr fewer
]
rank_gain (info.Exact e) (info.Exact f) kind implied = elim (exact_gain e f implied) [
  | inl same ↦ inl (ap info.Exact same)
  | inr fewer ↦ inr fewer
]
rank_gain a b kind implied = absurd (cc)

-- a real gain lowers the rank
pub rank_falls : (a b : Info) → kind_of a ≡ kind_of b → Implies a b → a ≢ b → rank_of a < rank_of b
rank_falls a b kind implied apart = elim (rank_gain a b kind implied) [ inl same ↦ absurd (apart same) | inr fewer ↦ fewer ]

-- ---- the bound

exact_most : (e : Exact) → rank_of_exact e ≤ 2
exact_most Any = omega arith
exact_most (One n) = omega arith
exact_most Empty = omega arith

-- no rank is above the greatest of the kind
pub rank_most : (a : Info) → rank_of a ≤ most_rank (kind_of a)
rank_most (info.Interval i) = count_most (interval.allows i) interval_numbers interval_lowest
rank_most (info.Members number part) = count_most (members.allows part) (members.size_of part) (pos 0)
rank_most (info.Exact e) = exact_most e

size_most : (size : ℕ) → IsSize size → size ≤ interval_numbers
size_most size (least, most) = omega arith

-- that of intervals is the greatest of all
most_rank_most : (k : Kind) → most_rank k ≤ interval_numbers
most_rank_most kinds.Interval = omega arith
most_rank_most (kinds.Members set) = size_most set.size set.sized
most_rank_most kinds.Exact = omega arith

pub rank_most_of_all : (a : Info) → rank_of a ≤ interval_numbers
rank_most_of_all a = omega (arith, rank_most a, most_rank_most (kind_of a))

-- ---- of nothing and of a contradiction

is_place_between : (size : ℕ) (v : ℤ) → pos 0 ≤ℤ v → v <ℤ pos size → is_place size v ≡ true
is_place_between size v low high = both_true (le_z (pos 0) v) (lt_z v (pos size)) (grind (arith, ints)) (grind (arith, ints))

-- nothing has the greatest rank of its kind
pub rank_of-nothing : (k : Kind) → rank_of (nothing k) ≡ most_rank k
rank_of-nothing kinds.Interval =
    count_all (interval.allows interval.whole) interval_numbers interval_lowest (λ v low high.
    intervals.allows-whole v ∙ true_between interval_lowest v interval_highest low (omega (arith, ints)))
rank_of-nothing (kinds.Members set) =
    let full = members.full set.size in
    let size = sets.size_of-closest set.size (λ v. true) set.sized in
    ap (λ (s : ℕ). count (members.allows full) s (pos 0)) size
    ∙ count_all (members.allows full) set.size (pos 0) (λ v low high. sets.allows-full set.size set.sized v ∙ is_place_between set.size v low (omega (arith, ints)))
rank_of-nothing kinds.Exact = ap rank_of_exact (sym exacts.any_is)

-- a contradiction has rank 0
pub rank_of-contradiction : (k : Kind) → rank_of (contradiction k) ≡ 0
rank_of-contradiction kinds.Interval = count_none _ interval_numbers interval_lowest (allows-contradiction kinds.Interval)
rank_of-contradiction (kinds.Members set) =
    count_none (members.allows (members.empty set.size)) (members.size_of (members.empty set.size)) (pos 0) (allows-contradiction (kinds.Members set))
rank_of-contradiction kinds.Exact = ap rank_of_exact (sym exacts.empty_is)
