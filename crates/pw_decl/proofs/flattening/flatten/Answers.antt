use Rattle.std.proofs.Common.{◌≡◌, length, take, arith}
use Rattle.std.proofs.lemmas.List.{take_all}
use Rattle.pw_decl.specs.inside.Fields.{declared}
use Rattle.pw_decl.specs.inside.Held.{steps_of}
use Rattle.pw_decl.proofs.FlatteningLemmas.{next_done, next_kept}
use Rattle.pw_decl.proofs.flattening.flatten.Goals as goal

pub add_step-requires : goal.add_step-requires
add_step-requires g c =
    let d = declared c.args.declaration.now in
    let compound = c.args.opened.now.compound in
    let n = c.loop-step.step-index in
    let read = rw c.deref-step-items.ensures.value at c.step-item.is in
    let here = rw c.deref-step-items.ensures.value at c.loop-step-test.true in
    let count : c.len-parameters.result ≡ length compound.parameters.items = omega (arith, c.len-parameters.ensures, compound.parameters.ok) in
    record {
      few = omega (arith, count, c.requires.well.parameters);
      next = next_kept d compound.parameters.items compound.steps.items n c.len-parameters.result c.step-item.result c.loop-step.flattening c.requires.well.steps
          c.requires.well.parameters c.requires.well.small.inner_cells here read count c.loop-step.invariant;
    }

pub loop-step-preserved : goal.loop-step-preserved
loop-step-preserved g c =
    let d = declared c.args.declaration.now in
    let items = c.args.opened.now.compound.steps.items in
    let n = c.loop-step.step-index in
    let read = rw c.deref-step-items.ensures.value at c.step-item.is in
    let here = rw c.deref-step-items.ensures.value at c.loop-step-test.true in
    rw (next_done items n c.step-item.result here read) (c.in_ok-add_step.ensures (steps_of (take n items)) c.loop-step.invariant)

pub returns : goal.returns
returns g c =
    let compounds = (declared c.args.declaration.now).compounds in
    let compound = c.args.opened.now.compound in
    let n = c.loop-step.step-index in
    let past = rw c.deref-step-items.ensures.value at c.loop-step-test.false in
    let whole = take_all n compound.steps.items past in
    let count : c.len-parameters.result ≡ length compound.parameters.items = omega (arith, c.len-parameters.ensures, compound.parameters.ok) in
    let flat = rw (whole, count) at c.loop-step.invariant in
    record { calls = flat.calls; inner = flat.inner }
