-- The test whether two informations are the same.
use Rattle.std.specs.Prelude.{Bool, true, false, ◌&&◌, nat_eq}
use Rattle.std.specs.Ordering.{int_eq}
use Rattle.pw_kinds.specs.declared.exact.Exact.{Exact}
use Rattle.pw_kinds.specs.declared.exact.Exact.TheVariants.{Any, One, Empty}
use Rattle.pw_kinds.specs.declared.interval.Interval.{Interval}
use Rattle.pw_kinds.specs.declared.members.Members.{Members}
use Rattle.pw_kinds.specs.Members.{mask_in}
use Rattle.pw_info.specs.declared.info.Info.{Info}
use Rattle.pw_info.specs.declared.info.Info.TheVariants as info
use Rattle.pw_info.specs.Information.{kind_of, contradiction}

-- intervals with the same ends
abbrev pub same_interval : Interval → Interval → Bool
same_interval a b = int_eq a.lo b.lo && int_eq a.hi b.hi

-- members of sets of one size, with the same members possible
abbrev pub same_members : Members → Members → Bool
same_members a b = nat_eq a.size b.size && nat_eq (mask_in a) (mask_in b)

-- equal exact values
abbrev pub same_exact : Exact → Exact → Bool
same_exact Any Any = true
same_exact (One a) (One b) = int_eq a.value b.value
same_exact Empty Empty = true
same_exact a b = false

-- whether two informations are the same
abbrev pub same_info : Info → Info → Bool
same_info (info.Interval a) (info.Interval b) = int_eq a.lo b.lo && int_eq a.hi b.hi
same_info (info.Members number a) (info.Members other b) = nat_eq number other
    && (nat_eq a.size b.size && nat_eq (mask_in a) (mask_in b))
same_info (info.Exact a) (info.Exact b) = same_exact a b
same_info a b = false

-- whether an information is the contradiction of its kind
abbrev pub is_contradiction : Info → Bool
is_contradiction known = same_info known (contradiction (kind_of known))
