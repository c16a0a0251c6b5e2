use Rattle.std.proofs.Common.{◌+◌, ◌≤◌, length, not, sym, ap, ◌∙◌, arith}
use Rattle.std.proofs.lemmas.Bool.{ne_eqb}
use Rattle.pw_info.specs.Lines.{is_of_line}
use Rattle.pw_info.proofs.LaneLemmas.{one_more_in_run, run_at_end, run_ends, run_goes_on}
use Rattle.pw_info.proofs.lines.line_len.Goals as goal

pub returns-in-Some-clause-value : goal.returns-in-Some-clause-value
returns-in-Some-clause-value c =
    let ends = run_ends is_of_line c.args.bytes.now c.loop-end.end 16 c.in-Some.run' (omega (arith, c.loop-end-test.true)) (sym c.before_line_feed.ensures.value ∙ c.in-Some.is) in
    sym (c.loop-end.invariant.1 ∙ ap (λ m. c.loop-end.end + m) ends)

pub loop-end-preserved : goal.loop-end-preserved
loop-end-preserved c =
    let room : c.loop-end.end + 16 ≤ length c.args.bytes.now = omega (arith, c.loop-end-test.true) in
    let more = run_goes_on is_of_line c.args.bytes.now c.loop-end.end 16 room (sym c.before_line_feed.ensures.value ∙ c.in_default.is) in
    (room, omega (arith, c.loop-end.invariant.1, more))

pub loop-end-2-preserved : goal.loop-end-2-preserved
loop-end-2-preserved c =
    one_more_in_run is_of_line c.args.bytes.now c.loop-end-2.end c.loop-end-2-test.true
    (ap not (ne_eqb _ _ c.if-bytes-end-ne10.true)) c.loop-end-2.invariant

pub returns-after-loop-end-2-clause-value : goal.returns-after-loop-end-2-clause-value
returns-after-loop-end-2-clause-value c =
    run_at_end is_of_line c.args.bytes.now c.loop-end-2.end c.loop-end-2-test.false c.loop-end-2.invariant
