use Rattle.std.proofs.Common.{sym, ◌∙◌}
use Rattle.pw_info.proofs.Informations.{full_nothing, nothing_full}
use Rattle.pw_info.proofs.info.Info.is_nothing.Goals as goal

pub returns-in-Interval : goal.returns-in-Interval
returns-in-Interval c = rw c.in-Interval.is (
  λ t v r. c.within.ensures.0 t v (c.whole.ensures.values v ∙ r),
  λ every. c.within.ensures.1 (λ v e. every v (sym (c.whole.ensures.values v) ∙ e)),
)

pub returns-in-Members : goal.returns-in-Members
returns-in-Members c = rw c.in-Members.is (
  λ t. full_nothing c.in-Members.number c.in-Members.part (c.is_full.ensures.0 t),
  λ every. c.is_full.ensures.1 (nothing_full c.in-Members.number c.in-Members.part every),
)

pub returns-in-Exact : goal.returns-in-Exact
returns-in-Exact c = rw c.in-Exact.is c.is_any.ensures
