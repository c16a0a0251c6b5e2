use Rattle.std.proofs.Common.{◌≡◌, List, true, subst}
use Rattle.std.specs.FinSet.{is_subset}
use Rattle.pw_info.specs.Information.{Implies}
use Rattle.pw_facts.specs.declared.fact.Fact.{Fact}
use Rattle.pw_cells.specs.Cells.{Cell, kept_of, told_of, all_assimilated}
use Rattle.pw_cells.specs.inside.OneCell.{AreShownBefore, current}
use Rattle.pw_cells.proofs.Current.{all_current}
use Rattle.pw_cells.proofs.Visible.{shown_before, all_in_the_end}
use Rattle.pw_cells.proofs.fact_lists.FactLists.may_show_more.Goals as goal

pub returns-clause-less : goal.returns-clause-less
returns-clause-less g c = λ none.
    let before = c.args.before.now in
    let w = c.args.worldview.now in
    let kept : AreShownBefore before w c.self.inside.kept.items =
    subst (λ (l : List Fact). AreShownBefore before w l) c.as_slice.ensures.value (c.any_comes_in.ensures c.if-any_comes_in.false) in
    let late : AreShownBefore before w c.self.inside.late.items =
    subst (λ (l : List Fact). AreShownBefore before w l) c.as_slice-2.ensures.value (c.any_comes_in-2.ensures none) in
    subst (λ (cell : Cell). Implies (kept_of cell before) (kept_of cell w)) c.self.view_is
    (shown_before c.self.inside.kind before w (all_assimilated (current c.self.inside.kept.items) c.self.inside.late.items)
    (all_in_the_end is_shown_before (current c.self.inside.kept.items) c.self.inside.late.items (all_current is_shown_before c.self.inside.kept.items kept) late))
  where
    is_shown_before : Fact → Type 0
    is_shown_before f = is_subset f.support c.args.worldview.now ≡ true → is_subset f.support c.args.before.now ≡ true

pub returns-then-any_comes_in-clause-told : goal.returns-then-any_comes_in-clause-told
returns-then-any_comes_in-clause-told g c =
    subst (λ (cell : Cell). Implies (kept_of cell c.args.worldview.now) (told_of cell c.args.worldview.now)) c.self.view_is
    (c.self.invariant.0.says c.args.worldview.now)

pub returns-clause-told : goal.returns-clause-told
returns-clause-told g c =
    subst (λ (cell : Cell). Implies (kept_of cell c.args.worldview.now) (told_of cell c.args.worldview.now)) c.self.view_is
    (c.self.invariant.0.says c.args.worldview.now)
