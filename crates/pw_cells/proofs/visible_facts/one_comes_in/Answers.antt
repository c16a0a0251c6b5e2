use Rattle.std.proofs.Common.{sym, ◌∙◌, arith}
use Rattle.pw_cells.proofs.Visible.{all_shown_before, not_coming_in, shown_before_next}
use Rattle.pw_cells.proofs.visible_facts.one_comes_in.Goals as goal

pub loop-held-preserved : goal.loop-held-preserved
loop-held-preserved g c =
    shown_before_next c.args.before.now c.args.worldview.now c.args.facts.now c.loop-held.held-index c.held-item.result c.loop-held-test.true c.held-item.is
    c.loop-held.invariant (not_coming_in _ _ (sym c.comes_in.ensures ∙ c.if-comes_in.false))

pub returns : goal.returns
returns g c = λ _. all_shown_before c.args.before.now c.args.worldview.now c.args.facts.now c.loop-held.held-index (omega (arith, c.loop-held-test.false)) c.loop-held.invariant
