use Rattle.pw_explain.proofs.CutLemmas.{end_after, none_after, rest_after}
use Rattle.pw_explain.proofs.cut.after_end.Goals as goal

pub returns-then-begins_with : goal.returns-then-begins_with
returns-then-begins_with c =
    rest_after c.args.text.now c.loop-line.invariant.0 c.loop-line.rest.now c.in-Some.line.now c.in-Some.after.now c.loop-line.invariant.1 c.in-Some.ensures.some.0

pub loop-line-preserved : goal.loop-line-preserved
loop-line-preserved c =
    end_after c.args.text.now c.loop-line.invariant.0 c.loop-line.rest.now c.in-Some.line.now c.in-Some.after.now c.loop-line.invariant.1 c.in-Some.ensures.some.0

pub returns : goal.returns
returns c = none_after c.args.text.now
