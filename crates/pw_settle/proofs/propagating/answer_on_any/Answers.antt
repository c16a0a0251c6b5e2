use Rattle.std.proofs.Common.{◌≡◌, [], ◌∷◌, map, ap, ◌∙◌, arith}
use Rattle.pw_settle.specs.Settled.{info_at}
use Rattle.pw_settle.proofs.NewsLemmas.{cell_there}
use Rattle.pw_settle.proofs.PlacedInstances.{two_given}
use Rattle.pw_settle.proofs.propagating.answer_on_any.Goals as goal

pub bounds-known-one : goal.bounds-known-one
bounds-known-one g c = cell_there c.args.known.now _ c.inputs.result.now 0 c.inputs.ensures c.requires.placed.0.0 (omega (arith, c.in-len2.len_at_least))

pub bounds-known-another : goal.bounds-known-another
bounds-known-another g c = cell_there c.args.known.now _ c.inputs.result.now 1 c.inputs.ensures c.requires.placed.0.0 (omega (arith, c.in-len2.len_at_least))

pub procedure_value-requires-clause-given : goal.procedure_value-requires-clause-given
procedure_value-requires-clause-given g c =
    let cells = c.inputs.result.now in
    let first = cell_there c.args.known.now _ cells 0 c.inputs.ensures c.requires.placed.0.0 (omega (arith, c.in-len2.len_at_least)) in
    let second = cell_there c.args.known.now _ cells 1 c.inputs.ensures c.requires.placed.0.0 (omega (arith, c.in-len2.len_at_least)) in
    let same : c.copied.result ∷ c.copied-in-len2.result ∷ [] ≡ c.index-known-one.result ∷ c.index-known-another.result ∷ [] =
    λ i. c.copied.ensures i ∷ c.copied-in-len2.ensures i ∷ [] in
    same ∙ two_given c.args.known.now cells c.index-known-one.result c.index-known-another.result (omega (arith, c.in-len2.len_at_least))
    (omega (arith, c.in-len2.len_below)) first second c.index-known-one.is c.index-known-another.is
    ∙ ap (map (info_at c.args.known.now)) c.inputs.ensures
