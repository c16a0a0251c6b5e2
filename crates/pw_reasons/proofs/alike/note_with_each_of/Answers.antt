use Rattle.std.proofs.Common.{◌≡◌, ℕ, ◌+◌, ◌<◌, ◌≤◌, List, [], length, take, drop, sym, ap, ◌∙◌, subst, arith}
use Rattle.std.specs.Prelude.{slice_index_or}
use Rattle.std.specs.List.{flat_map}
use Rattle.std.specs.FinSet.{insert}
use Rattle.pw_premises.specs.Premises.{Premises}
use Rattle.pw_reasons.specs.Combinations.{groups_of}
use Rattle.pw_reasons.specs.inside.Alike.{HasMore, MayHaveMore, beside}
use Rattle.pw_reasons.specs.inside.Products.{worldviews_beside}
use Rattle.pw_reasons.proofs.AlikeLemmas.{has_none, may_have, may_have_first, noted_more}
use Rattle.pw_reasons.proofs.alike.note_with_each_of.Goals as goal

pub loop-index-init : goal.loop-index-init
loop-index-init g c = has_none c.args.nogoods.now

pub returns-in_err-note_with_each-clause-leaves : goal.returns-in_err-note_with_each-clause-leaves
returns-in_err-note_with_each-clause-leaves g c =
    let group : List ℕ = slice_index_or (groups_of c.args.groups.now) c.args.place [] in
    let rest : List (List ℕ) = drop (c.args.place + 1) (groups_of c.args.groups.now) in
    let few : c.loop-index.index ≤ c.args.count = omega (arith, c.loop-index-test.true) in
    subst (λ (new : List Premises). MayHaveMore c.args.nogoods.now new (flat_map (beside c.args.fixed.now rest) (take c.args.count group)))
    (sym c.in_err-note_with_each.ensures.err)
    (may_have_first c.args.fixed.now rest group c.loop-index.index c.args.count few c.args.nogoods.now c.loop-index.nogoods c.loop-index.invariant)

pub loop-index-preserved : goal.loop-index-preserved
loop-index-preserved g c =
    let group : List ℕ = slice_index_or (groups_of c.args.groups.now) c.args.place [] in
    let rest : List (List ℕ) = drop (c.args.place + 1) (groups_of c.args.groups.now) in
    let i : ℕ = c.loop-index.index in
    let inside : i < length group = omega (arith, c.loop-index-test.true, c.requires.count) in
    let set : c.insert.new.self ≡ insert c.args.fixed.now (slice_index_or group i 0) =
    c.insert.ensures.inserted ∙ ap (λ (g : List ℕ). insert c.args.fixed.now (slice_index_or g i 0)) c.group-group.ensures in
    noted_more c.args.fixed.now rest group i inside c.args.nogoods.now c.loop-index.nogoods c.note_with_each.new.self c.loop-index.invariant
    (subst (λ (s : Premises). HasMore c.loop-index.nogoods c.note_with_each.new.self (worldviews_beside s rest)) set
    (record { covered = c.in_ok-note_with_each.ensures.covered; within = c.note_with_each.ensures.within }))

pub returns-clause-noted : goal.returns-clause-noted
returns-clause-noted g c =
    let group : List ℕ = slice_index_or (groups_of c.args.groups.now) c.args.place [] in
    let rest : List (List ℕ) = drop (c.args.place + 1) (groups_of c.args.groups.now) in
    let all : c.loop-index.index ≡ c.args.count = omega (arith, c.loop-index-test.false, c.loop-index.auto.index-end) in
    subst (λ n. HasMore c.args.nogoods.now c.loop-index.nogoods (flat_map (beside c.args.fixed.now rest) (take n group))) all c.loop-index.invariant

pub returns-clause-leaves : goal.returns-clause-leaves
returns-clause-leaves g c =
    let group : List ℕ = slice_index_or (groups_of c.args.groups.now) c.args.place [] in
    let rest : List (List ℕ) = drop (c.args.place + 1) (groups_of c.args.groups.now) in
    let all : c.loop-index.index ≡ c.args.count = omega (arith, c.loop-index-test.false, c.loop-index.auto.index-end) in
    may_have c.args.nogoods.now c.loop-index.nogoods (flat_map (beside c.args.fixed.now rest) (take c.args.count group))
    (subst (λ n. HasMore c.args.nogoods.now c.loop-index.nogoods (flat_map (beside c.args.fixed.now rest) (take n group))) all c.loop-index.invariant)
