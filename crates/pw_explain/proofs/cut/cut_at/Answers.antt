use Rattle.std.proofs.Common.{◌≡◌, ◌-◌, [], IfNone, refl, subst, sym, arith}
use Rattle.pw_info.proofs.Dots.{IfNone_then}
use Rattle.pw_explain.specs.Cut.{HasNoLine}
use Rattle.pw_explain.proofs.CutLemmas.{no_line_further, no_line_left, one_more}
use Rattle.pw_explain.proofs.cut.cut_at.Goals as goal

pub returns-in_err-after-clause-none : goal.returns-in_err-after-clause-none
returns-in_err-after-clause-none c =
    subst (λ found. IfNone found (HasNoLine c.args.text.now c.args.number)) (sym c.from_residual.ensures)
    (no_line_further c.args.text.now c.loop.rest.now (c.loop.counter - 1) c.args.number c.loop.invariant c.in_err-after.ensures.none
    (omega (arith, c.loop.auto.counter, c.loop-test.true)))

pub loop-preserved : goal.loop-preserved
loop-preserved c =
    one_more c.args.text.now c.loop.rest.now c.in_ok-after.field-0-0.now c.in_ok-after.after.now (c.loop.counter - 1) _ c.loop.invariant
    c.in_ok-after.ensures.some.0 c.in_ok-after.ensures.some.1 (omega (arith, c.loop.auto.counter))

pub returns-clause-none : goal.returns-clause-none
returns-clause-none c =
    IfNone_then c.cut_at_first.result c.cut_at_first.result refl c.cut_at_first.ensures.none
    (λ (none : c.loop.rest.now ≡ []). no_line_left c.args.text.now c.loop.rest.now (c.loop.counter - 1) c.args.number c.loop.invariant none
    (omega (arith, c.loop.auto.counter, c.loop.auto.counter-end, c.if-number-eq0.false)))
