use Rattle.std.proofs.Common.{◌∙◌, ap}
use Rattle.std.proofs.lemmas.List.{take_all}
use Rattle.pw_cells.specs.inside.OneCell.{facts_held}
use Rattle.pw_cells.proofs.FactsBySupport.{one_wider, all_held}
use Rattle.pw_cells.proofs.facts_by_support.FactsBySupport.widened.Goals as goal

pub loop-place-init : goal.loop-place-init
loop-place-init g c = ap (facts_held (λ s. s)) c.new-wide.ensures.empty

pub loop-place-preserved : goal.loop-place-preserved
loop-place-preserved g c =
    one_wider _ _ g.met.S.Support.same _ _ _ _ _ _ c.loop-place.place c.index-supports-place.result c.widen.result c.index-infos-place.result
    c.self.view_is c.loop-place.invariant c.keys.ensures.unique (c.as_slice-supports.ensures ∙ c.keys.ensures.rest) (c.as_slice-infos.ensures ∙ c.values.ensures.rest)
    c.loop-place-test.true c.index-supports-place.is c.index-infos-place.is c.widen.ensures c.in_ok-insert.ensures.entries

pub returns : goal.returns
returns g c =
    c.loop-place.invariant
    ∙ take_all c.loop-place.place c.args.self.now (all_held _ _ _ _ _ c.self.view_is (c.as_slice-supports.ensures ∙ c.keys.ensures.rest) c.loop-place-test.false)
