use Rattle.std.proofs.Common.{◌<◌, length, map, sym, ap, subst, ◌∙◌, arith}
use Rattle.std.specs.Prelude.{All}
use Rattle.std.proofs.lemmas.List.{length-map, length-set}
use Rattle.pw_info.specs.Information.{kind_of}
use Rattle.pw_procs.specs.Registry.{procedures_in}
use Rattle.pw_network.specs.inside.Held.{attachment}
use Rattle.pw_settle.specs.Settled.{info_at}
use Rattle.pw_settle.proofs.PlacedInstances.{all_filled, few_inputs, filled_more}
use Rattle.pw_settle.proofs.propagating.answer_on_many.Goals as goal

pub loop-place-preserved : goal.loop-place-preserved
loop-place-preserved g c =
    let instance = (attachment c.args.instance.now).instance in
    let known = c.args.known.now in
    let cells = c.inputs-cells.result.now in
    let few = few_inputs (procedures_in c.args.registry.now) (map kind_of known) instance c.requires.placed in
    let there : All (λ cell. cell < length (map kind_of known)) cells =
    subst (All (λ cell. cell < length (map kind_of known))) (sym c.inputs-cells.ensures) c.requires.placed.0.0 in
    record {
      done = rw c.copied.ensures (filled_more known c.loop-place.inputs cells c.loop-place.place c.index-known-cells.result c.loop-place-test.true
          (omega (arith, few, ap length c.inputs-cells.ensures, c.loop-place.invariant.room))
          (omega (arith, there c.loop-place.place 0 c.loop-place-test.true, length-map known kind_of)) c.index-known-cells.is c.loop-place.invariant.done);
      room = length-set c.loop-place.inputs c.loop-place.place c.copied.result ∙ c.loop-place.invariant.room;
    }

pub bounds-known-cells : goal.bounds-known-cells
bounds-known-cells g c =
    let known = c.args.known.now in
    let there : All (λ cell. cell < length (map kind_of known)) c.inputs-cells.result.now =
    subst (All (λ cell. cell < length (map kind_of known))) (sym c.inputs-cells.ensures) c.requires.placed.0.0 in
    omega (arith, there c.loop-place.place 0 c.loop-place-test.true, length-map known kind_of)

pub bounds-inputs-place : goal.bounds-inputs-place
bounds-inputs-place g c =
    let few = few_inputs (procedures_in c.args.registry.now) (map kind_of c.args.known.now) (attachment c.args.instance.now).instance c.requires.placed in
    omega (arith, few, ap length c.inputs-cells.ensures, c.loop-place-test.true)

pub procedure_value-requires-clause-given : goal.procedure_value-requires-clause-given
procedure_value-requires-clause-given g c =
    all_filled c.args.known.now c.loop-place.inputs c.inputs-cells.result.now c.loop-place.place c.loop-place.invariant.done c.loop-place-test.false
    c.loop-place.auto.place-end ∙ ap (map (info_at c.args.known.now)) c.inputs-cells.ensures
