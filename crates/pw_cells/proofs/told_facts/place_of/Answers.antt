use Rattle.std.proofs.Common.{sym, ◌∙◌, ap}
use Rattle.std.proofs.lemmas.List.{get_or_default}
use Rattle.pw_premises.specs.PremiseSubsets.{same_numbers_equal}
use Rattle.pw_facts.specs.declared.fact.Fact.{Fact}
use Rattle.pw_cells.proofs.told_facts.place_of.Goals as goal

pub returns-then-eq-clause-same : goal.returns-then-eq-clause-same
returns-then-eq-clause-same g c = λ below f.
    let held : Fact = c.index-facts-place.result in
    ap (λ (x : Fact). x.support) (get_or_default c.args.facts.now c.loop-place.place f held below ∙ sym c.index-facts-place.is)
    ∙ sym c.support.ensures
    ∙ (same_numbers_equal (g.S.Support.premises c.support.result) (g.S.Support.premises c.args.support.now)).0
    (sym (g.met.S.Support.same c.support.result c.args.support.now) ∙ sym c.eq.ensures ∙ c.if-eq.true)
