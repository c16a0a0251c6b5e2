use Rattle.pw_info.proofs.info.Info.is_contradiction.Goals as goal

pub returns-in-Interval : goal.returns-in-Interval
returns-in-Interval c = rw c.in-Interval.is c.is_empty.ensures

pub returns-in-Members : goal.returns-in-Members
returns-in-Members c = rw c.in-Members.is c.is_empty-in-Members.ensures

pub returns-in-Exact : goal.returns-in-Exact
returns-in-Exact c = rw c.in-Exact.is c.is_empty-in-Exact.ensures
