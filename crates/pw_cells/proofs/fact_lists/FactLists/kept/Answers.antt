use Rattle.std.proofs.Common.{◌≡◌, List, sym, ◌∙◌, ap, subst, arith}
use Rattle.pw_info.specs.declared.info.Info.{Info}
use Rattle.pw_info.specs.Information.{Implies}
use Rattle.pw_facts.specs.declared.fact.Fact.{Fact}
use Rattle.pw_cells.specs.inside.OneCell.{Bounds}
use Rattle.pw_cells.specs.Cells.{Cell, shown_by, told_of}
use Rattle.pw_cells.specs.inside.OneCell.{AreOfKind, StandsFor, current}
use Rattle.pw_cells.proofs.Tells.{whole_caught_up}
use Rattle.pw_cells.specs.Cells.{all_assimilated}
use Rattle.pw_cells.proofs.Shown.{is_kept}
use Rattle.pw_cells.proofs.fact_lists.FactLists.kept.Given as given
use Rattle.pw_cells.proofs.fact_lists.FactLists.kept.Goals as goal

pub merged-requires-clause-kinds : goal.merged-requires-clause-kinds
merged-requires-clause-kinds g c =
    subst (AreOfKind c.self.inside.kind) (sym {A = List Fact} c.as_slice.ensures.value) c.assimilate_late.ensures.kinds

pub merged-requires-clause-bounds : goal.merged-requires-clause-bounds
merged-requires-clause-bounds g c =
    subst (λ (l : List Fact). Bounds c.self.inside.kind l c.assimilate_late.new.bound) (sym {A = List Fact} c.as_slice.ensures.value) c.assimilate_late.ensures.bounds

pub invariant_of-self : goal.invariant_of-self
invariant_of-self g c = (
  rw (c.assimilate_late.ensures.kept, c.assimilate_late.ensures.late) (whole_caught_up _ _ _ _ c.self.invariant.0),
  omega (arith, c.assimilate_late.ensures.none, c.assimilate_late.new.kept.ok),
  c.assimilate_late.ensures.bounds,
  c.self.invariant.3,
  c.assimilate_late.ensures.kinds,
)

pub assimilate_late-requires-clause-kinds : goal.assimilate_late-requires-clause-kinds
assimilate_late-requires-clause-kinds g c = c.self.invariant.4

pub assimilate_late-requires-clause-late_kinds : goal.assimilate_late-requires-clause-late_kinds
assimilate_late-requires-clause-late_kinds g c = c.self.invariant.0.late_kinds

pub assimilate_late-requires-clause-bounds : goal.assimilate_late-requires-clause-bounds
assimilate_late-requires-clause-bounds g c = c.self.invariant.2

pub assimilate_late-requires-clause-room : goal.assimilate_late-requires-clause-room
assimilate_late-requires-clause-room g c = c.self.invariant.1

pub merged-requires-clause-fits : goal.merged-requires-clause-fits
merged-requires-clause-fits g c = c.self.invariant.3

pub returns-clause-same : goal.returns-clause-same
returns-clause-same g c =
    (λ j. record {
      kind = c.self.inside.kind;
      told = c.self.inside.told;
      kept = all_assimilated (c.assimilate_late.ensures.kept j) (c.assimilate_late.ensures.late j);
    }) ∙ c.self.view_is

-- the merge stands for the kept facts
stands : (g : given.Over) (c : goal.After-merged g) → StandsFor c.args.self.now.kind c.args.worldview.now c.args.self.now.kept c.merged.result
stands g c =
    subst (λ (cell : Cell). StandsFor cell.kind c.args.worldview.now cell.kept c.merged.result) c.self.view_is
    (subst (λ (l : List Fact). StandsFor c.self.inside.kind c.args.worldview.now l c.merged.result)
    (ap current c.as_slice.ensures.value ∙ c.assimilate_late.ensures.kept) c.merged.ensures)

-- and says at least what was told
told : (g : given.Over) (c : goal.After-merged g) → Implies c.merged.result.info (told_of c.args.self.now c.args.worldview.now)
told g c =
    let w = c.args.worldview.now in
    let self = c.self.inside in
    let shown : c.merged.result.info ≡ shown_by self.kind w (all_assimilated (current self.kept.items) self.late.items) =
    c.merged.ensures.info ∙ ap (shown_by self.kind w) (ap current c.as_slice.ensures.value ∙ c.assimilate_late.ensures.kept) in
    subst (λ (cell : Cell). Implies c.merged.result.info (told_of cell w)) c.self.view_is
    (subst (λ (i : Info). Implies i (shown_by self.kind w self.told)) (sym {A = Info} shown) (c.self.invariant.0.says w))

pub returns-clause-kept : goal.returns-clause-kept
returns-clause-kept g c = is_kept c.args.self.now c.args.worldview.now c.merged.result (stands g c) (told g c)
