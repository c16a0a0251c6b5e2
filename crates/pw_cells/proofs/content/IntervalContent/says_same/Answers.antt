use Rattle.std.proofs.Common.{◌≡◌, sym, ◌∙◌, ap}
use Rattle.pw_kinds.specs.declared.interval.Interval.{Interval}
use Rattle.pw_kinds.proofs.Exacts.{eq_true, true_eq}
use Rattle.pw_kinds.proofs.Intervals.{same_ends}
use Rattle.pw_kinds.proofs.Order.{both_true, true_both}
use Rattle.pw_info.specs.declared.info.Info.TheVariants as info
use Rattle.pw_cells.specs.inside.Contents.{interval_of}
use Rattle.pw_cells.proofs.content.IntervalContent.says_same.Goals as goal

pub returns : goal.returns
returns c = (
  λ equal.
      let ends = true_both _ _ (sym c.eq.ensures ∙ equal) in
      ap info.Interval (same_ends c.args.self.now c.args.other.now (eq_true _ _ ends.0) (eq_true _ _ ends.1)),
  λ says.
      let same : c.args.self.now ≡ c.args.other.now = ap interval_of says in
      c.eq.ensures ∙ both_true _ _ (true_eq _ _ (ap (λ (i : Interval). i.lo) same)) (true_eq _ _ (ap (λ (i : Interval). i.hi) same)),
)
