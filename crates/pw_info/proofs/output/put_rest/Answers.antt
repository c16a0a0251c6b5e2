use Rattle.std.proofs.Common.{[], ◌++◌, take, refl, sym, ◌∙◌, subst}
use Rattle.pw_info.specs.Passing.{IsBrokenOff, IsPassed}
use Rattle.pw_info.proofs.PassingFacts.{broken_off_then, written_then, PassesPart-none, taken_all, taken_rest}
use Rattle.pw_info.proofs.output.put_rest.Goals as goal

pub loop-rest-init : goal.loop-rest-init
loop-rest-init g c =
    record { taken = []; whole = refl; written = record { passed = g.met.O.Output.none c.args.output.now; works = λ e. e } }

pub loop-rest-preserved : goal.loop-rest-preserved
loop-rest-preserved g c =
    let inv = c.loop-rest.invariant in
    let rest = c.loop-rest.rest.now in
    let count = c.in-Ok.count in
    record {
      taken = inv.taken ++ take count rest;
      whole = taken_rest c.args.bytes.now inv.taken rest count inv.whole;
      written = written_then g.O.Output.passes g.O.Output.has_failed g.met.O.Output.joins _ _ _ inv.taken (take count rest) inv.written
          (record { passed = c.in-Ok.ensures.passed.2; works = λ _. c.in-Ok.ensures.failed });
    }

pub returns-in-Err : goal.returns-in-Err
returns-in-Err g c =
    let inv = c.loop-rest.invariant in
    let rest = c.loop-rest.rest.now in
    subst (IsBrokenOff g.O.Output.passes g.O.Output.has_failed c.args.output.now c.put.new.self) (sym inv.whole)
    (broken_off_then g.O.Output.passes g.O.Output.has_failed g.met.O.Output.joins _ _ _ inv.taken rest inv.written
    (record { front = PassesPart-none g.O.Output.passes _ _ rest c.in-Err.ensures.passed; failed = c.in-Err.ensures.failed }))

pub returns : goal.returns
returns g c =
    let inv = c.loop-rest.invariant in
    subst (IsPassed g.O.Output.passes g.O.Output.has_failed c.args.output.now c.loop-rest.output)
    (taken_all c.args.bytes.now inv.taken c.loop-rest.rest.now inv.whole (sym c.is_empty.ensures ∙ c.loop-rest-test.false)) inv.written
