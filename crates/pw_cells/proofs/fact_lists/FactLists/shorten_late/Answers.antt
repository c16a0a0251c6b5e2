use Rattle.std.proofs.Common.{arith}
use Rattle.pw_cells.proofs.Tells.{whole_caught_up}
use Rattle.pw_cells.proofs.fact_lists.FactLists.shorten_late.Goals as goal

pub invariant_of-self : goal.invariant_of-self
invariant_of-self g c = (
  rw (c.assimilate_late.ensures.kept, c.assimilate_late.ensures.late) (whole_caught_up _ _ _ _ c.self.invariant.0),
  omega (arith, c.assimilate_late.ensures.none, c.assimilate_late.new.kept.ok),
  c.assimilate_late.ensures.bounds,
  c.self.invariant.3,
  c.assimilate_late.ensures.kinds,
)
