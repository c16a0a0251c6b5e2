-- The distance of an information from a contradiction: every gain of information lowers this
-- number.
use Rattle.std.specs.Prelude.{ℕ, pos}
use Rattle.pw_kinds.specs.declared.exact.Exact.{Exact}
use Rattle.pw_kinds.specs.declared.exact.Exact.TheVariants.{Any, One, Empty}
use Rattle.pw_kinds.specs.Interval as interval
use Rattle.pw_kinds.specs.Members as members
use Rattle.pw_kinds.specs.Ranges.{interval_lowest, interval_numbers}
use Rattle.pw_kinds.specs.Ranges.{count}
use Rattle.pw_info.specs.declared.kind.Kind.{Kind}
use Rattle.pw_info.specs.declared.kind.Kind.TheVariants as kinds
use Rattle.pw_info.specs.declared.info.Info.{Info}
use Rattle.pw_info.specs.declared.info.Info.TheVariants as info

-- the rank of an exact value: 2 if any number is possible, 1 if one is, 0 if none is
abbrev pub rank_of_exact : Exact → ℕ
rank_of_exact Any = 2
rank_of_exact (One number) = 1
rank_of_exact Empty = 0

-- the rank: for an interval and for members, the number of possible values
abbrev pub rank_of : Info → ℕ
rank_of (info.Interval part) = count (interval.allows part) interval_numbers interval_lowest
rank_of (info.Members number part) = count (members.allows part) (members.size_of part) (pos 0)
rank_of (info.Exact part) = rank_of_exact part

-- the greatest rank of a kind: that of nothing
abbrev pub most_rank : Kind → ℕ
most_rank kinds.Interval = interval_numbers
most_rank (kinds.Members set) = set.size
most_rank kinds.Exact = 2
