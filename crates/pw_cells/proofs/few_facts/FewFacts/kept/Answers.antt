use Rattle.std.proofs.Common.{List, refl, subst}
use Rattle.pw_facts.specs.declared.fact.Fact.{Fact}
use Rattle.pw_cells.specs.inside.OneCell.{StandsFor, cell_keeping}
use Rattle.pw_cells.proofs.Shown.{is_kept_alone, is_kept_as}
use Rattle.pw_cells.proofs.few_facts.FewFacts.kept.Goals as goal

pub returns : goal.returns
returns g c =
    let w = c.args.worldview.now in
    let kind = c.self.inside.kind in
    let cell = cell_keeping kind c.self.inside.kept.items in
    is_kept_as cell c.args.self.now w c.merged_few.result c.merged_few.result c.self.view_is refl
    (is_kept_alone cell w c.merged_few.result refl
    (subst (λ (l : List Fact). StandsFor kind w l c.merged_few.result) c.as_slice.ensures.value c.merged_few.ensures))
