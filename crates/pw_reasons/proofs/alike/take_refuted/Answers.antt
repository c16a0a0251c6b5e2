use Rattle.std.proofs.Common.{ℕ, ◌+◌, List, [], ◌++◌, take, drop, refl, sym, ap, ◌∙◌, subst}
use Rattle.std.specs.Prelude.{slice_index_or}
use Rattle.std.specs.List.{flat_map}
use Rattle.std.specs.FinSet.{remove}
use Rattle.pw_premises.specs.Premises.{Premises}
use Rattle.pw_reasons.specs.Combinations.{groups_of}
use Rattle.pw_reasons.specs.inside.Alike.{HasMore, beside, pending}
use Rattle.pw_reasons.specs.inside.Products.{worldviews_beside}
use Rattle.pw_reasons.proofs.AlikeLemmas.{has_if_ok, may_have_both, may_have_if, may_have_last, may_have_swapped, none_wait, noted_if_ok, waits_with}
use Rattle.pw_reasons.proofs.alike.take_refuted.Goals as goal

pub returns-then-waits-clause-more : goal.returns-then-waits-clause-more
returns-then-waits-clause-more g c =
    let group : List ℕ = slice_index_or (groups_of c.args.groups.now) c.args.place [] in
    let rest : List (List ℕ) = drop (c.args.place + 1) (groups_of c.args.groups.now) in
    subst (λ (n : ℕ). HasMore (pending c.args.alike.now rest (take c.args.index group) ++ c.args.nogoods.now)
    (flat_map (beside c.without.result rest) (take (c.args.index + 1) group) ++ c.args.nogoods.now) (worldviews_beside c.args.nogood.now (drop n (groups_of c.args.groups.now))))
    (sym (c.if-waits.ensures.next refl))
    (waits_with rest group c.args.index c.requires.index c.args.nogoods.now c.args.nogood.now c.without.result
    (c.without.ensures.removed ∙ ap (λ (l : List ℕ). remove c.args.nogood.now (slice_index_or l c.args.index 0)) c.group.ensures)
    (c.if-waits.ensures.own refl) c.args.alike.now (c.if-waits.ensures.others refl) (c.if-waits.ensures.first refl))

pub returns-in_err-note_alike-clause-leaves : goal.returns-in_err-note_alike-clause-leaves
returns-in_err-note_alike-clause-leaves g c =
    let group : List ℕ = slice_index_or (groups_of c.args.groups.now) c.args.place [] in
    let rest : List (List ℕ) = drop (c.args.place + 1) (groups_of c.args.groups.now) in
    may_have_last c.args.nogoods.now c.note_alike.new.nogoods (worldviews_beside c.args.nogood.now (drop c.args.from (groups_of c.args.groups.now)))
    (pending c.args.alike.now rest (take c.args.index group)) c.note_alike.ensures.leaves

pub returns-clause-more : goal.returns-clause-more
returns-clause-more g c =
    let group : List ℕ = slice_index_or (groups_of c.args.groups.now) c.args.place [] in
    let rest : List (List ℕ) = drop (c.args.place + 1) (groups_of c.args.groups.now) in
    let others : List Premises = worldviews_beside c.args.nogood.now (drop c.args.from (groups_of c.args.groups.now)) in
    noted_if_ok c.args.nogoods.now c.note_alike.new.nogoods c.note_with_each.new.self (pending c.args.alike.now rest (take c.args.index group)) others
    (pending c.note_alike.new.alike rest (take (c.args.index + 1) group)) c.note_with_each.result
    (none_wait c.note_alike.new.alike rest (take (c.args.index + 1) group) c.in_ok-note_alike.ensures.none) c.in_ok-note_alike.ensures.noted
    (has_if_ok c.note_alike.new.nogoods c.note_with_each.new.self others c.note_with_each.result c.note_with_each.ensures.covered c.note_with_each.ensures.within)

pub returns-clause-leaves : goal.returns-clause-leaves
returns-clause-leaves g c =
    let group : List ℕ = slice_index_or (groups_of c.args.groups.now) c.args.place [] in
    let rest : List (List ℕ) = drop (c.args.place + 1) (groups_of c.args.groups.now) in
    let others : List Premises = worldviews_beside c.args.nogood.now (drop c.args.from (groups_of c.args.groups.now)) in
    may_have_swapped c.args.nogoods.now c.note_with_each.new.self (pending c.args.alike.now rest (take c.args.index group)) others
    (may_have_both c.args.nogoods.now c.note_alike.new.nogoods c.note_with_each.new.self (pending c.args.alike.now rest (take c.args.index group)) others
    c.note_alike.ensures.leaves
    (may_have_if c.note_alike.new.nogoods c.note_with_each.new.self others c.note_with_each.result
    (has_if_ok c.note_alike.new.nogoods c.note_with_each.new.self others c.note_with_each.result c.note_with_each.ensures.covered c.note_with_each.ensures.within)
    c.note_with_each.ensures.err))
