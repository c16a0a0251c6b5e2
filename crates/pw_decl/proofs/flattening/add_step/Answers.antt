use Rattle.std.proofs.Common.{◌≡◌, ℕ, ◌+◌, ◌++◌, ◌∷◌, [], length, refl, sym, ap, subst, ◌∙◌, arith}
use Rattle.pw_procs.specs.Registry.{cells_of}
use Rattle.pw_decl.specs.declared.flattening.Flattening.{Flattening}
use Rattle.pw_decl.specs.Compound.{Step, CallOn}
use Rattle.pw_decl.specs.inside.Fields.{declared}
use Rattle.pw_decl.specs.inside.Held.{compounds_of, step_of}
use Rattle.pw_decl.specs.inside.Flattening.{IsNextStep, IsFlatSoFar}
use Rattle.pw_decl.proofs.FlatteningLemmas.{placed_there, flat_local, flat_call, next_takes, next_places, next_there}
use Rattle.pw_decl.proofs.flattening.add_step.Goals as goal

pub place_cells-cells-requires : goal.place_cells-cells-requires
place_cells-cells-requires g c k d here =
    let next : IsNextStep (declared c.args.declaration.now) c.args.flattening.now (CallOn c.in-Call.callable (cells_of c.in-Call.arguments)) =
    rw c.in-Call.is at c.requires.next in
    let below = next_places (declared c.args.declaration.now) c.args.flattening.now c.in-Call.callable (cells_of c.in-Call.arguments) next k d here in
    omega (arith, below, c.requires.next.few)

pub add_callable-requires : goal.add_callable-requires
add_callable-requires g c =
    let d = declared c.args.declaration.now in
    let so_far = c.args.flattening.now in
    let places = cells_of c.in-Call.arguments in
    let next : IsNextStep d so_far (CallOn c.in-Call.callable places) = rw c.in-Call.is at c.requires.next in
    let placed = placed_there c.deref.result.now so_far.places.items (λ j. 0 + j) places (cells_of c.place_cells-cells.result) c.deref.ensures.value
    c.place_cells-cells.ensures (next_places d so_far c.in-Call.callable places next) in
    record {
      few = omega (arith, c.len.ensures, c.requires.few, c.requires.next.room, so_far.flattened.inner.ok);
      there = next_there d so_far c.in-Call.callable places next;
      takes = rw placed (next_takes d so_far c.in-Call.callable places next);
    }

pub returns-in_ok-push-in-Local-2 : goal.returns-in_ok-push-in-Local-2
returns-in_ok-push-in-Local-2 g c done so_far =
    let kept = compounds_of c.args.declaration.now.compounds.items in
    let new : Flattening g.row.A.Denot = record { places = c.push.new.self; flattened = record { calls = c.args.flattening.now.flattened.calls; inner = c.push-in-Local.new.self } } in
    let inner = c.args.flattening.now.flattened.inner in
    let first : c.args.parameters + c.len.result ≡ c.args.parameters + length inner.items = omega (arith, c.len.ensures, inner.ok) in
    let places = c.in_ok-push-in-Local.ensures.items ∙ ap (λ (n : ℕ). c.args.flattening.now.places.items ++ n ∷ []) first in
    subst (λ (step : Step). IsFlatSoFar kept c.args.parameters (done ++ step ∷ []) new) (sym (ap step_of c.in-Local.is))
    (flat_local kept c.args.parameters done c.in-Local.kind c.args.flattening.now new places c.in_ok-push-in-Local-2.ensures.items refl so_far)

pub returns-in_ok-add_callable-in-Call : goal.returns-in_ok-add_callable-in-Call
returns-in_ok-add_callable-in-Call g c done so_far =
    let kept = compounds_of c.args.declaration.now.compounds.items in
    let places = cells_of c.in-Call.arguments in
    let old = c.args.flattening.now in
    let new : Flattening g.row.A.Denot = record { places = old.places; flattened = c.add_callable.new.flattened } in
    let next : IsNextStep (declared c.args.declaration.now) old (CallOn c.in-Call.callable places) = rw c.in-Call.is at c.requires.next in
    let placed = placed_there c.deref.result.now old.places.items (λ j. 0 + j) places (cells_of c.place_cells-cells.result) c.deref.ensures.value
    c.place_cells-cells.ensures (next_places (declared c.args.declaration.now) old c.in-Call.callable places next) in
    subst (λ (step : Step). IsFlatSoFar kept c.args.parameters (done ++ step ∷ []) new) (sym (ap step_of c.in-Call.is))
    (flat_call kept c.args.parameters done c.in-Call.callable places (cells_of c.place_cells-cells.result) (c.args.parameters + c.len.result) old new
    placed (omega (arith, c.len.ensures, old.flattened.inner.ok)) c.in_ok-add_callable-in-Call.ensures refl so_far)
