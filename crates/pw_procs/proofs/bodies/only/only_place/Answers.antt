use Rattle.pw_procs.proofs.OnlyValues.{not_only}
use Rattle.pw_procs.proofs.bodies.only.only_place.Goals as goal

pub returns-then-not-is_only : goal.returns-then-not-is_only
returns-then-not-is_only c = λ v. (
  λ e. absurd (cc),
  λ only. absurd (not_only c.args.part c.in-Some.place _ c.in-Some.ensures.found c.is_only.ensures c.if-not-is_only.true v only),
)
