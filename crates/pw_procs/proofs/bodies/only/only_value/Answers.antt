use Rattle.pw_procs.proofs.OnlyValues.{one_only, only_one}
use Rattle.pw_procs.proofs.bodies.only.only_value.Goals as goal

pub returns-in-Interval : goal.returns-in-Interval
returns-in-Interval c = rw c.in-Interval.is c.only_number.ensures

pub returns-in-Members : goal.returns-in-Members
returns-in-Members c = rw c.in-Members.is c.only_place.ensures

pub returns-in-Exact : goal.returns-in-Exact
returns-in-Exact c = rw c.in-Exact.is (λ v. (
  λ e. one_only c.in-Exact.part v ((c.number.ensures v).0 e),
  λ only. (c.number.ensures v).1 (only_one c.in-Exact.part v only),
))
