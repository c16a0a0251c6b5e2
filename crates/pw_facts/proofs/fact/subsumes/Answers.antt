use Rattle.std.proofs.Common.{sym, ◌∙◌}
use Rattle.pw_facts.proofs.Shown.{subsumption_shows}
use Rattle.pw_facts.proofs.fact.subsumes.Goals as goal

pub returns-then-is_subset-clause-shows : goal.returns-then-is_subset-clause-shows
returns-then-is_subset-clause-shows c =
    λ t w. subsumption_shows w c.args.a.now c.args.b.now c.requires (c.implies.ensures.0 t, sym c.is_subset.ensures.subset ∙ c.if-is_subset.true)
