use Rattle.std.proofs.Common.{◌≡◌, List, [], sym, ◌∙◌, ap, subst, arith}
use Rattle.pw_facts.specs.declared.fact.Fact.{Fact}
use Rattle.pw_cells.specs.Cells.{all_assimilated}
use Rattle.pw_cells.specs.inside.OneCell.{AreOfKind, IsCellWhole, current}
use Rattle.pw_cells.proofs.Bounds.{bounds_none}
use Rattle.pw_cells.proofs.Current.{all_are_current}
use Rattle.pw_cells.proofs.fact_lists.FactLists.keeping.Given as given
use Rattle.pw_cells.proofs.fact_lists.FactLists.keeping.Goals as goal
use Rattle.pw_cells.proofs.fact_lists.FactLists.keeping.Goals.{After-new-2}

-- all of them are current
all_current : (g : given.Over) (c : After-new-2 g) → current c.in_ok-copied.field-0.items ≡ c.args.kept.now
all_current g c = ap current c.in_ok-copied.ensures ∙ all_are_current c.args.kind c.args.kept.now c.requires.whole.kept_kinds c.requires.whole.apart

pub invariant_of-result : goal.invariant_of-result
invariant_of-result g c =
    let all = all_current g (goal.at.invariant_of-result g c).After-new-2 in (
      subst (λ (l : List Fact). IsCellWhole c.args.kind l (current c.in_ok-copied.field-0.items) c.new-2.result.items) (sym {A = List Fact} c.new.ensures)
          (subst (λ (l : List Fact). IsCellWhole c.args.kind [] l c.new-2.result.items) (sym all)
          (subst (IsCellWhole c.args.kind [] c.args.kept.now) (sym {A = List Fact} c.new-2.ensures.items) c.requires.whole)),
      omega (arith, c.new-2.ensures.len, c.in_ok-copied.field-0.ok),
      bounds_none c.args.kind c.in_ok-copied.field-0.items c.none.result c.none.ensures,
      c.requires.fits,
      subst (AreOfKind c.args.kind) (sym {A = List Fact} c.in_ok-copied.ensures) c.requires.whole.kept_kinds,
    )

pub returns : goal.returns
returns g c =
    let all = all_current g (goal.at.returns g c).After-new-2 in
    let kept : all_assimilated (current c.in_ok-copied.field-0.items) c.new-2.result.items ≡ c.args.kept.now =
    ap (all_assimilated (current c.in_ok-copied.field-0.items)) c.new-2.ensures.items ∙ all in
    λ i. record { kind = c.args.kind; told = c.new.ensures i; kept = kept i }
