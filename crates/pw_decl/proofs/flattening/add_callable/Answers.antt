use Rattle.std.proofs.Common.{◌≤◌, length, refl, ap, arith}
use Rattle.pw_decl.specs.declared.step.Callable.TheVariants as callables
use Rattle.pw_decl.specs.Expansion.{inner_kinds_of}
use Rattle.pw_decl.specs.inside.Fields.{declared}
use Rattle.pw_decl.specs.inside.Held.{compounds_of}
use Rattle.pw_decl.proofs.FlatLemmas.{taken, places_fit, gains_stored, gains_compound}
use Rattle.pw_decl.proofs.flattening.add_callable.Goals as goal

pub add_calls-requires : goal.add_calls-requires
add_calls-requires g c =
    let are = c.flat_calls-calls.ensures in
    let many = taken (declared c.args.declaration.now) c.args.callable c.in-Compound.number _ are.compound c.in-Compound.is c.requires.takes are.is in
    let few : length are.compound.parameters ≤ 9 = omega (arith, many, ap length c.cells.ensures.cells, c.cells.ensures.most) in
    let inner = inner_kinds_of (compounds_of c.args.declaration.now.compounds.items) (callables.Compound c.in-Compound.number) in
    let made : length inner ≤ 256 = omega (arith, ap length c.inner_kinds-inner.ensures.kinds, c.inner_kinds-inner.ensures.most) in
    places_fit c.flat_calls-calls.result.now c.args.first (length are.compound.parameters) (length inner) c.requires.few few made are.below

pub returns-in_ok-push-in-Stored : goal.returns-in_ok-push-in-Stored
returns-in_ok-push-in-Stored g c =
    gains_stored _ c.args.callable c.in-Stored.procedure _ c.args.first c.args.flattened.now _ c.in-Stored.is refl c.in_ok-push-in-Stored.ensures.items refl

pub returns-in_ok-extend_from_slice-in-Compound : goal.returns-in_ok-extend_from_slice-in-Compound
returns-in_ok-extend_from_slice-in-Compound g c =
    let are = c.flat_calls-calls.ensures in
    let many = taken (declared c.args.declaration.now) c.args.callable c.in-Compound.number _ are.compound c.in-Compound.is c.requires.takes are.is in
    let added = rw c.cells.ensures.cells at c.in_ok-add_calls-in-Compound.ensures in
    let inner = rw c.inner_kinds-inner.ensures.kinds at c.in_ok-extend_from_slice-in-Compound.ensures.items in
    gains_compound _ c.args.callable c.in-Compound.number c.flat_calls-calls.result.now _ c.args.first c.args.flattened.now _ c.in-Compound.is are many added inner
