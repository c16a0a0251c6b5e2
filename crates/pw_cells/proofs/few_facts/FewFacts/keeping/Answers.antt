use Rattle.std.proofs.Common.{List, [], ◌∷◌, ◌++◌, sym, ◌∙◌, ap, subst}
use Rattle.pw_facts.specs.declared.fact.Fact.{Fact}
use Rattle.pw_cells.specs.inside.OneCell.{IsCellWhole}
use Rattle.pw_cells.proofs.One.{one_whole}
use Rattle.pw_cells.proofs.few_facts.FewFacts.keeping.Goals as goal

pub invariant_of-result : goal.invariant_of-result
invariant_of-result g c = (
  subst (λ (l : List Fact). IsCellWhole c.args.kind [] l []) (sym {A = List Fact} (c.append.ensures.items ∙ ap (λ (l : List Fact). l ++ c.args.fact.now ∷ []) (c.reserve_unless.ensures.items ∙ c.new-kept.ensures.items)))
      (one_whole _ _ c.requires.kind),
  c.requires.fits,
)
