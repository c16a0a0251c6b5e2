use Rattle.std.proofs.Common.{◌∙◌}
use Rattle.pw_cells.proofs.FactsBySupport.{place_held}
use Rattle.pw_cells.proofs.facts_by_support.FactsBySupport.place_of.Goals as goal

pub returns : goal.returns
returns g c = c.get_index_of.ensures.index ∙ place_held _ _ g.met.S.Support.same _ _ c.args.support.now c.self.view_is
