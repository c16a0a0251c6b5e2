-- Facts about intervals, whose cells hold them as intervals.
use Rattle.std.specs.Prelude.{Bool, true, false}
use Rattle.pw_kinds.specs.declared.interval.Interval.{Interval}
use Rattle.pw_kinds.specs.Interval as interval
use Rattle.pw_info.specs.declared.kind.Kind.{Kind}
use Rattle.pw_info.specs.declared.kind.Kind.TheVariants as kinds
use Rattle.pw_info.specs.declared.info.Info.{Info}
use Rattle.pw_info.specs.declared.info.Info.TheVariants as info

-- whether it is the kind of intervals
abbrev pub is_interval : Kind → Bool
is_interval kinds.Interval = true
is_interval (kinds.Members set) = false
is_interval kinds.Exact = false

-- the interval of an information; the whole range for one of another kind
abbrev pub interval_of : Info → Interval
interval_of (info.Interval part) = part
interval_of (info.Members number part) = interval.whole
interval_of (info.Exact part) = interval.whole
