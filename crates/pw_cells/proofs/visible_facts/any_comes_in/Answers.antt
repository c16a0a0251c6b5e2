use Rattle.pw_cells.proofs.Visible.{shown_before_together}
use Rattle.pw_cells.proofs.visible_facts.any_comes_in.Goals as goal

pub loop-left-preserved : goal.loop-left-preserved
loop-left-preserved g c = λ rest.
    c.loop-left.invariant (shown_before_together c.args.before.now c.args.worldview.now c.split_at.result.0.now c.split_at.result.1.now c.loop-left.left.now 4
    c.split_at.ensures.front c.split_at.ensures.back (c.one_of_four_comes_in.ensures c.if-one_of_four_comes_in.false) rest)

pub loop-left-init : goal.loop-left-init
loop-left-init g c = λ rest. rest

pub returns : goal.returns
returns g c = λ none. c.loop-left.invariant (c.one_comes_in.ensures none)
