use Rattle.std.proofs.Common.{◌≡◌, [], ◌∷◌, map, ap, ◌∙◌, arith}
use Rattle.pw_settle.specs.Settled.{info_at}
use Rattle.pw_settle.proofs.NewsLemmas.{cell_there}
use Rattle.pw_settle.proofs.PlacedInstances.{one_given, two_given}
use Rattle.pw_settle.proofs.propagating.news_on.Goals as goal

pub bounds-known-one : goal.bounds-known-one
bounds-known-one g c = cell_there c.args.known.now _ c.inputs-inputs.result.now 0 c.inputs-inputs.ensures c.requires.placed.0.0 (omega (arith, c.in-len2.len_at_least))

pub bounds-known-another : goal.bounds-known-another
bounds-known-another g c = cell_there c.args.known.now _ c.inputs-inputs.result.now 1 c.inputs-inputs.ensures c.requires.placed.0.0 (omega (arith, c.in-len2.len_at_least))

pub news_on_given-requires-clause-given : goal.news_on_given-requires-clause-given
news_on_given-requires-clause-given g c =
    let cells = c.inputs-inputs.result.now in
    let first = cell_there c.args.known.now _ cells 0 c.inputs-inputs.ensures c.requires.placed.0.0 (omega (arith, c.in-len2.len_at_least)) in
    let second = cell_there c.args.known.now _ cells 1 c.inputs-inputs.ensures c.requires.placed.0.0 (omega (arith, c.in-len2.len_at_least)) in
    let same : c.copied.result ∷ c.copied-in-Interval-Interval.result ∷ [] ≡ c.index-known-one.result ∷ c.index-known-another.result ∷ [] =
    λ i. c.copied.ensures i ∷ c.copied-in-Interval-Interval.ensures i ∷ [] in
    same ∙ two_given c.args.known.now cells c.index-known-one.result c.index-known-another.result (omega (arith, c.in-len2.len_at_least))
    (omega (arith, c.in-len2.len_below)) first second c.index-known-one.is c.index-known-another.is
    ∙ ap (map (info_at c.args.known.now)) c.inputs-inputs.ensures

pub bounds-known-one-in-len1 : goal.bounds-known-one-in-len1
bounds-known-one-in-len1 g c = cell_there c.args.known.now _ c.inputs-inputs.result.now 0 c.inputs-inputs.ensures c.requires.placed.0.0 (omega (arith, c.in-len1.len_at_least))

pub news_on_given-requires-in-len1-clause-given : goal.news_on_given-requires-in-len1-clause-given
news_on_given-requires-in-len1-clause-given g c =
    let cells = c.inputs-inputs.result.now in
    let first = cell_there c.args.known.now _ cells 0 c.inputs-inputs.ensures c.requires.placed.0.0 (omega (arith, c.in-len1.len_at_least)) in
    c.from_ref-given.ensures.value
    ∙ one_given c.args.known.now cells c.index-known-one-in-len1.result (omega (arith, c.in-len1.len_at_least)) (omega (arith, c.in-len1.len_below)) first c.index-known-one-in-len1.is
    ∙ ap (map (info_at c.args.known.now)) c.inputs-inputs.ensures
