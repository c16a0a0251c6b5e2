use Rattle.std.proofs.Common.{refl, sym, ◌∙◌, ap, arith}
use Rattle.pw_info.specs.Information.{kind_of, meet}
use Rattle.pw_facts.specs.declared.fact.Fact.{Fact}
use Rattle.pw_cells.proofs.Bounds.{bounds_raised}
use Rattle.pw_cells.proofs.bound.Bound.raise.Goals as goal

pub loop-self-preserved : goal.loop-self-preserved
loop-self-preserved g c =
    bounds_raised (kind_of c.args.self.now.info) c.args.facts.now c.loop-self.self _ c.index-facts-self.result c.requires.kinds c.loop-self.invariant
    (omega (arith, c.loop-self-test.true)) c.index-facts-self.is refl
    (c.meet-self.ensures.exact ∙ ap (meet c.loop-self.self.info) c.info.ensures)

pub loop-self-init : goal.loop-self-init
loop-self-init g c = c.requires.bounds

pub meet-self-requires : goal.meet-self-requires
meet-self-requires g c =
    c.loop-self.invariant.of_kind
    ∙ sym (ap kind_of c.info.ensures ∙ ap (λ (f : Fact). kind_of f.info) c.index-facts-self.is
    ∙ c.requires.kinds c.loop-self.self.count c.index-facts-self.result (omega (arith, c.loop-self-test.true)))

pub returns : goal.returns
returns g c = c.loop-self.invariant
