use Rattle.std.proofs.Common.{◌∷◌, [], List, refl, subst}
use Rattle.pw_info.specs.declared.kind.Kind.TheVariants as kinds
use Rattle.pw_facts.specs.declared.fact.Fact.{Fact}
use Rattle.pw_cells.specs.inside.OneCell.{StandsFor, cell_keeping}
use Rattle.pw_cells.proofs.Shown.{is_kept_alone, is_kept_as}
use Rattle.pw_cells.proofs.one_fact.OneFact.kept.Goals as goal

pub returns : goal.returns
returns g c =
    let w = c.args.worldview.now in
    let cell = cell_keeping kinds.Interval (c.self.inside.kept ∷ []) in
    is_kept_as cell c.args.self.now w c.merged_few.result c.merged_few.result c.self.view_is refl
    (is_kept_alone cell w c.merged_few.result refl
    (subst (λ (l : List Fact). StandsFor kinds.Interval w l c.merged_few.result) c.from_ref.ensures.value c.merged_few.ensures))
