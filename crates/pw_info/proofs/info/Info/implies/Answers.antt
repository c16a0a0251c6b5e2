use Rattle.pw_info.proofs.Informations.{sizes_agree}
use Rattle.pw_info.proofs.info.Info.implies.Goals as goal

pub within-requires-in-Members-Members : goal.within-requires-in-Members-Members
within-requires-in-Members-Members c = sizes_agree _ _ _ _ _ _ c.requires c.in-Members-Members.is-0 c.in-Members-Members.is-1

pub returns-in-Interval-Interval : goal.returns-in-Interval-Interval
returns-in-Interval-Interval c = rw (c.in-Interval-Interval.is-0, c.in-Interval-Interval.is-1) c.within.ensures

pub returns-in-Members-Members : goal.returns-in-Members-Members
returns-in-Members-Members c = rw (c.in-Members-Members.is-0, c.in-Members-Members.is-1) c.within-in-Members-Members.ensures

pub returns-in-Exact-Exact : goal.returns-in-Exact-Exact
returns-in-Exact-Exact c = rw (c.in-Exact-Exact.is-0, c.in-Exact-Exact.is-1) c.within-in-Exact-Exact.ensures
