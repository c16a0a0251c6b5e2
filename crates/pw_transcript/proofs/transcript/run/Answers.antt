use Rattle.std.proofs.Common.{[], arith, sym, subst}
use Rattle.pw_decl.specs.inside.Fields.{declared}
use Rattle.pw_transcript.proofs.RunParts.{if_ok_both}
use Rattle.pw_transcript.proofs.RunEnds.{gathered_to_all, gathered_to_ended, gathered_failed, gathered_in_part, gathered_up_to_limit, gathered_works, nothing_in_part}
use Rattle.pw_sessions.specs.Workbench.{IsLeftBy}
use Rattle.pw_transcript.specs.inside.Gathering.{GatheredPasses, GatheredPasses-none}
use Rattle.pw_transcript.specs.inside.Running.{progress}
use Rattle.pw_transcript.proofs.RunLemmas.{SoFar-start}
use Rattle.pw_transcript.proofs.transcript.run.Goals as goal

pub answer_all-requires-clause-start : goal.answer_all-requires-clause-start
answer_all-requires-clause-start g c =
    let new = c.new-so_far.ensures in
    SoFar-start (GatheredPasses g.O.Output.passes) (declared c.args.declaration.now) c.new-gathered.result (progress c.new-so_far.result)
    (GatheredPasses-none g.O.Output.passes g.met.O.Output.none c.new-gathered.result) (subst (IsLeftBy (declared c.args.declaration.now) []) (sym new.workbench) c.in-Ok-new.ensures.left)
    new.line new.lines new.replies

pub answer_all-requires-clause-running : goal.answer_all-requires-clause-running
answer_all-requires-clause-running g c =
    let new = c.new-so_far.ensures in
    record {
      left = ([], omega (arith, new.lines), subst (IsLeftBy (declared c.args.declaration.now) []) (sym new.workbench) c.in-Ok-new.ensures.left);
      lines = omega (arith, new.lines);
      replies = omega (arith, new.lines, new.replies);
      last = λ _. new.line;
    }

pub returns-clause-ok : goal.returns-clause-ok
returns-clause-ok g c =
    if_ok_both c.answer_all.result _ _ c.answer_all.ensures.ok c.answer_all.ensures.passed_on
    (λ counts all rest. gathered_to_all g.O.Output.passes (declared c.args.declaration.now) _ c.args.output.now _ c.new-gathered.result c.answer_all.new.output
    g.I.Input.takes c.args.input.now c.answer_all.new.input counts c.new-gathered.ensures.same_reference c.new-gathered.ensures.unchanged
    c.new-gathered.ensures.held rest all c.output-1.given.1)

pub returns-clause-read : goal.returns-clause-read
returns-clause-read g c = λ e.
    gathered_to_ended g.O.Output.passes (declared c.args.declaration.now) _ c.args.output.now _ c.new-gathered.result c.answer_all.new.output g.I.Input.takes
    c.args.input.now c.answer_all.new.input c.new-gathered.ensures.same_reference c.new-gathered.ensures.unchanged c.new-gathered.ensures.held
    (c.answer_all.ensures.read_passed_on e) (c.answer_all.ensures.read e) c.output-1.given.1

pub returns-clause-write : goal.returns-clause-write
returns-clause-write g c = λ e.
    gathered_in_part g.O.Output.passes (declared c.args.declaration.now) _ c.args.output.now _ c.new-gathered.result c.answer_all.new.output g.I.Input.takes
    c.args.input.now c.answer_all.new.input g.I.Input.has_ended c.new-gathered.ensures.same_reference c.new-gathered.ensures.unchanged c.new-gathered.ensures.held
    (c.answer_all.ensures.write e) c.output-1.given.1

pub returns-clause-write_failed : goal.returns-clause-write_failed
returns-clause-write_failed g c = λ e.
    let write = c.answer_all.ensures.write e in
    gathered_failed g.O.Output.passes (declared c.args.declaration.now) _ c.args.output.now _ c.new-gathered.result c.answer_all.new.output g.I.Input.takes
    c.args.input.now c.answer_all.new.input g.O.Output.has_failed g.I.Input.has_ended c.new-gathered.ensures.same_reference write (c.answer_all.ensures.write_failed e)
    c.output-1.given.1

pub returns-clause-limit : goal.returns-clause-limit
returns-clause-limit g c = λ e.
    gathered_up_to_limit g.O.Output.passes (declared c.args.declaration.now) _ c.args.output.now _ c.new-gathered.result c.answer_all.new.output g.I.Input.takes
    c.args.input.now c.answer_all.new.input c.new-gathered.ensures.same_reference c.new-gathered.ensures.unchanged c.new-gathered.ensures.held
    (c.answer_all.ensures.limit_passed_on e) (c.answer_all.ensures.limit e) c.output-1.given.1

pub returns-then-failed-clause-write : goal.returns-then-failed-clause-write
returns-then-failed-clause-write g c = λ e.
    nothing_in_part g.I.Input.takes g.O.Output.passes (declared c.args.declaration.now) g.I.Input.has_ended c.args.input.now c.args.output.now
    (g.met.I.Input.none c.args.input.now) (g.met.O.Output.none c.args.output.now)

pub returns-clause-works : goal.returns-clause-works
returns-clause-works g c =
    if_ok_both c.answer_all.result _ _ c.answer_all.ensures.ok c.answer_all.ensures.works
    (λ counts all works. gathered_works g.O.Output.passes (declared c.args.declaration.now) _ c.args.output.now _ c.new-gathered.result c.answer_all.new.output
    g.I.Input.takes c.args.input.now c.answer_all.new.input g.O.Output.has_failed counts c.new-gathered.ensures.same_reference all works c.output-1.given.1)

pub returns-clause-ended : goal.returns-clause-ended
returns-clause-ended g c = c.answer_all.ensures.ended

pub returns-clause-nothing_left : goal.returns-clause-nothing_left
returns-clause-nothing_left g c = c.answer_all.ensures.nothing_left

pub returns-clause-read_failed : goal.returns-clause-read_failed
returns-clause-read_failed g c = c.answer_all.ensures.read_failed

pub returns-clause-memory : goal.returns-clause-memory
returns-clause-memory g c = λ e. absurd (c.answer_all.ensures.no_memory e)
