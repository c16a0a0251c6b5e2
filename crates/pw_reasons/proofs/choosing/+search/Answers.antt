use Rattle.std.proofs.Common.{rules, ◌≡◌, ℕ, ◌+◌, ◌-◌, ◌<◌, ◌≤◌, false, List, [], ◌∷◌, ◌++◌, Option, length, take, drop, refl, sym, ap, ◌∙◌, subst, arith, length-append}
use Rattle.std.specs.Prelude.{IfSome, slice_index_or}
use Rattle.std.proofs.lemmas.Bool.Decides.{nat_tests}
use Rattle.std.proofs.lemmas.List.{drop_all}
use Rattle.std.proofs.lemmas.List.Elements.{All-append}
use Rattle.pw_cells.specs.Cells.{Store}
use Rattle.pw_network.specs.Network.{Network}
use Rattle.pw_network.specs.Wiring.{wiring}
use Rattle.pw_premises.specs.Premises.{Premises}
use Rattle.pw_settle.specs.Growth.{KeepsMore}
use Rattle.pw_settle.proofs.Growing.{still_sound_for}
use Rattle.pw_reasons.specs.Combinations.{groups_of, picked_in}
use Rattle.pw_reasons.specs.Nogood.{AreNogoods, IsNogood, covers}
use Rattle.pw_reasons.specs.inside.Alike.{HasMore, pending}
use Rattle.pw_reasons.specs.inside.Products.{worldviews_beside}
use Rattle.pw_reasons.specs.inside.Reasoning.{AreSettledLast}
use Rattle.pw_reasons.specs.inside.Searching.{AreCovered, LeavesSound, refuting}
use Rattle.pw_reasons.proofs.ChoiceLemmas.{last_now, last_then, nogoods_now}
use Rattle.pw_reasons.proofs.SearchLemmas.{covered_then, found_nothing, goes_on, group_left, leaves_then, none_left, not_refused, part_of_more}
use Rattle.pw_reasons.proofs.SearchSteps.{IsPassed, all_alike, all_passed, either_settled, found_then, leaves_noted, more_is, one_covered, one_passed, refuting_are, waiting_is, waits_is}
use Rattle.pw_reasons.proofs.choosing.+search.Goals as goal

pub returns-then-place-len-clause-known : goal.returns-then-place-len-clause-known
returns-then-place-len-clause-known g t c = λ all.
    let w : Premises = c.args.worldview.now in
    let groups : List (List ℕ) = groups_of c.args.groups.now in
    let picked : List ℕ = picked_in c.args.picks.now in
    let past : length groups ≤ length picked = grind (arith, nat_tests, c.if-place-len.true, c.len.ensures.len, ap length c.premises-place.ensures.premises) in
    absurd (none_left c.args.nogoods.now w c.requires.uncovered
    (subst (λ gs. AreCovered c.args.nogoods.now (worldviews_beside w gs)) (drop_all (length picked) groups past) all))

pub returns-then-covers_each-clause-found : goal.returns-then-covers_each-clause-found
returns-then-covers_each-clause-found g t c = (
  c.requires.uncovered,
  subst (λ (xs : List ℕ). AreCovered c.args.nogoods.now (worldviews_beside c.args.worldview.now (drop (length xs) (groups_of c.args.groups.now))))
      c.premises-place.ensures.premises (c.covers_each.ensures c.if-covers_each.true),
)

pub returns-in_err-note_alike-clause-leaves : goal.returns-in_err-note_alike-clause-leaves
returns-in_err-note_alike-clause-leaves g t c =
    let network : Network = wiring c.args.network.now in
    let old : Store = c.args.store.now in
    let groups : List (List ℕ) = groups_of c.args.groups.now in
    let picked : List ℕ = picked_in c.args.picks.now in
    let seen : List ℕ = c.premises-place.result.now in
    let group : List ℕ = c.group-group.result.now in
    let i : ℕ = c.loop-index.index in
    let same = waiting_is groups picked seen group c.premises-place.ensures.premises c.group-group.ensures in
    let wait : List Premises = pending c.loop-index.alike (drop (length seen + 1) groups) (take i (slice_index_or groups (length seen) [])) in
    let waits : AreNogoods network old wait = subst (AreNogoods network old) (sym (same c.loop-index.alike i)) c.loop-index.invariant.passed.are in
    leaves_noted network old c.loop-index.store c.args.nogoods.now c.loop-index.nogoods c.note_alike.new.nogoods wait c.loop-index.tried.last
    c.loop-index.invariant.leaves waits c.note_alike.ensures.leaves

pub loop-index-preserved-then-covers_with : goal.loop-index-preserved-then-covers_with
loop-index-preserved-then-covers_with g t c =
    let network : Network = wiring c.args.network.now in
    let old : Store = c.args.store.now in
    let w : Premises = c.args.worldview.now in
    let groups : List (List ℕ) = groups_of c.args.groups.now in
    let picked : List ℕ = picked_in c.args.picks.now in
    let seen : List ℕ = c.premises-place.result.now in
    let group : List ℕ = c.group-group.result.now in
    let rest : List (List ℕ) = drop (length picked + 1) groups in
    let i : ℕ = c.loop-index.index in
    let inside : i < length group = omega (arith, c.loop-index-test.true) in
    let same = waiting_is groups picked seen group c.premises-place.ensures.premises c.group-group.ensures in
    let wait : List Premises = pending c.loop-index.alike (drop (length seen + 1) groups) (take i (slice_index_or groups (length seen) [])) in
    let waits : AreNogoods network old wait = subst (AreNogoods network old) (sym (same c.loop-index.alike i)) c.loop-index.invariant.passed.are in
    record {
      passed = one_covered network old w rest group i inside c.loop-index.alike c.note_alike.new.alike c.loop-index.nogoods c.note_alike.new.nogoods
          c.loop-index.invariant.passed c.in_ok-note_alike.ensures.none
          (subst (HasMore c.loop-index.nogoods c.note_alike.new.nogoods) (same c.loop-index.alike i) c.in_ok-note_alike.ensures.noted)
          (sym c.covers_with.ensures ∙ c.if-covers_with.true);
      known = λ all.
          let before = c.loop-index.invariant.known all in
          (c.in_ok-note_alike.ensures.none, before.1, (c.note_alike.ensures.same before.0).1 ∙ before.2);
      leaves = leaves_noted network old c.loop-index.store c.args.nogoods.now c.loop-index.nogoods c.note_alike.new.nogoods wait c.loop-index.tried.last
          c.loop-index.invariant.leaves waits c.note_alike.ensures.leaves;
      own = c.loop-index.invariant.own;
    }

pub keep_values-requires-clause-values : goal.keep_values-requires-clause-values
keep_values-requires-clause-values g t c =
    let network : Network = wiring c.args.network.now in
    let leaves = c.loop-index.invariant.leaves in
    either_settled network c.loop-index.store c.nearer-last.result.now c.args.above.now c.loop-index.tried.last c.nearer-last.ensures
    (last_now network c.args.store.now c.loop-index.store leaves.grows c.args.above.now c.requires.above)
    (last_now network c.args.store.now c.loop-index.store leaves.grows c.loop-index.tried.last leaves.last_are)

pub keep_values-requires-clause-own : goal.keep_values-requires-clause-own
keep_values-requires-clause-own g t c =
    last_now (wiring c.args.network.now) c.args.store.now c.loop-index.store c.loop-index.invariant.leaves.grows c.loop-index.own c.loop-index.invariant.own

pub search-requires : goal.search-requires
search-requires g t c = λ lives out.
    let network : Network = wiring c.args.network.now in
    let old : Store = c.args.store.now in
    let w : Premises = c.args.worldview.now in
    let groups : List (List ℕ) = groups_of c.args.groups.now in
    let picked : List ℕ = picked_in c.args.picks.now in
    let seen : List ℕ = c.premises-place.result.now in
    let group : List ℕ = c.group-group.result.now in
    let i : ℕ = c.loop-index.index in
    let inside : i < length group = omega (arith, c.loop-index-test.true) in
    let here : length picked < length groups = grind (arith, nat_tests, c.requires.few, c.if-place-len.false, c.len.ensures.len, ap length c.premises-place.ensures.premises) in
    let left = group_left groups picked seen group c.premises-place.ensures.premises here c.group-group.ensures in
    let more : Premises = c.insert.new.self in
    let with : List ℕ = picked_in c.with-picked.result in
    let store : Store = c.keep_values.new.store in
    let grows : KeepsMore network old store = subst (KeepsMore network old) (sym {A = Store} c.keep_values.ensures.unchanged) c.loop-index.invariant.leaves.grows in
    let longer : length with ≡ length picked + 1 = ap length c.with-picked.ensures ∙ length-append picked (slice_index_or group i 0 ∷ []) in
    let few : length with ≤ length groups = omega (arith, longer, here) in
    let shorter : length groups - length with < length groups - length picked = omega (arith, longer, here) in
    let uncovered : covers c.loop-index.nogoods more ≡ false =
    ap (covers c.loop-index.nogoods) c.insert.ensures.inserted ∙ sym c.covers_with.ensures ∙ c.if-covers_with.false in
    let own = subst (λ (s : Store). AreSettledLast network s c.keep_values.new.own) (sym {A = Store} c.keep_values.ensures.unchanged) c.keep_values.ensures.own in (
      search (rules, shorter),
      (
        search rules,
        (
          still_sound_for network old store grows c.requires.sound,
          (
            nogoods_now network old store grows c.loop-index.nogoods c.loop-index.invariant.leaves.are,
            (
              c.requires.premises,
              (
                either_settled network store c.nearer-nearest.result.now c.keep_values.new.own c.args.above.now c.nearer-nearest.ensures own
                    (last_now network old store grows c.args.above.now c.requires.above),
                (
                  part_of_more w more groups picked with group i left inside c.insert.ensures.inserted c.with-picked.ensures,
                  (
                    uncovered,
                    (
                      few,
                      last_now network old store grows c.loop-index.tried.last c.loop-index.invariant.leaves.last_are,
                    ),
                  ),
                ),
              ),
            ),
          ),
        ),
      ),
    )

pub returns-in_err-found-clause-known : goal.returns-in_err-found-clause-known
returns-in_err-found-clause-known g t c = λ all.
    let w : Premises = c.args.worldview.now in
    let groups : List (List ℕ) = groups_of c.args.groups.now in
    let picked : List ℕ = picked_in c.args.picks.now in
    let seen : List ℕ = c.premises-place.result.now in
    let group : List ℕ = c.group-group.result.now in
    let i : ℕ = c.loop-index.index in
    let inside : i < length group = omega (arith, c.loop-index-test.true) in
    let here : length picked < length groups = grind (arith, nat_tests, c.requires.few, c.if-place-len.false, c.len.ensures.len, ap length c.premises-place.ensures.premises) in
    let left = group_left groups picked seen group c.premises-place.ensures.premises here c.group-group.ensures in
    let more : Premises = c.insert.new.self in
    let with : List ℕ = picked_in c.with-picked.result in
    let nothing = c.search.ensures.known (covered_then w more groups picked with group i left inside c.insert.ensures.inserted c.with-picked.ensures c.args.nogoods.now
    c.loop-index.nogoods c.loop-index.invariant.leaves.covers_more all) in
    absurd (not_refused c.search.result _ c.in_err-found.field-0.0 nothing.0 c.in_err-found.was)

pub returns-in_err-found-clause-leaves : goal.returns-in_err-found-clause-leaves
returns-in_err-found-clause-leaves g t c =
    let network : Network = wiring c.args.network.now in
    let old : Store = c.args.store.now in
    let store : Store = c.keep_values.new.store in
    let leaves : LeavesSound network old c.args.nogoods.now c.search.new.store c.search.new.nogoods c.search.new.tried.last =
    leaves_then network old store c.search.new.store c.args.nogoods.now c.loop-index.nogoods c.search.new.nogoods c.loop-index.tried.last c.search.new.tried.last
    (subst (λ (s : Store). LeavesSound network old c.args.nogoods.now s c.loop-index.nogoods c.loop-index.tried.last) (sym {A = Store} c.keep_values.ensures.unchanged)
    c.loop-index.invariant.leaves) c.search.ensures.leaves in
    leaves

pub returns-in_err-note_alike-2-clause-leaves : goal.returns-in_err-note_alike-2-clause-leaves
returns-in_err-note_alike-2-clause-leaves g t c =
    let network : Network = wiring c.args.network.now in
    let old : Store = c.args.store.now in
    let groups : List (List ℕ) = groups_of c.args.groups.now in
    let picked : List ℕ = picked_in c.args.picks.now in
    let seen : List ℕ = c.premises-place.result.now in
    let group : List ℕ = c.group-group.result.now in
    let i : ℕ = c.loop-index.index in
    let same = waiting_is groups picked seen group c.premises-place.ensures.premises c.group-group.ensures in
    let wait : List Premises = pending c.loop-index.alike (drop (length seen + 1) groups) (take i (slice_index_or groups (length seen) [])) in
    let waits : AreNogoods network old wait = subst (AreNogoods network old) (sym (same c.loop-index.alike i)) c.loop-index.invariant.passed.are in
    let store : Store = c.keep_values.new.store in
    let leaves : LeavesSound network old c.args.nogoods.now c.search.new.store c.search.new.nogoods c.search.new.tried.last =
    leaves_then network old store c.search.new.store c.args.nogoods.now c.loop-index.nogoods c.search.new.nogoods c.loop-index.tried.last c.search.new.tried.last
    (subst (λ (s : Store). LeavesSound network old c.args.nogoods.now s c.loop-index.nogoods c.loop-index.tried.last) (sym {A = Store} c.keep_values.ensures.unchanged)
    c.loop-index.invariant.leaves) c.search.ensures.leaves in
    leaves_noted network old c.search.new.store c.args.nogoods.now c.search.new.nogoods c.note_alike-then-ends.new.nogoods wait c.search.new.tried.last leaves waits
    c.note_alike-then-ends.ensures.leaves

pub returns-then-ends-clause-found : goal.returns-then-ends-clause-found
returns-then-ends-clause-found g t c =
    let network : Network = wiring c.args.network.now in
    let old : Store = c.args.store.now in
    let w : Premises = c.args.worldview.now in
    let groups : List (List ℕ) = groups_of c.args.groups.now in
    let picked : List ℕ = picked_in c.args.picks.now in
    let seen : List ℕ = c.premises-place.result.now in
    let group : List ℕ = c.group-group.result.now in
    let i : ℕ = c.loop-index.index in
    let inside : i < length group = omega (arith, c.loop-index-test.true) in
    let here : length picked < length groups = grind (arith, nat_tests, c.requires.few, c.if-place-len.false, c.len.ensures.len, ap length c.premises-place.ensures.premises) in
    let left = group_left groups picked seen group c.premises-place.ensures.premises here c.group-group.ensures in
    let same = waiting_is groups picked seen group c.premises-place.ensures.premises c.group-group.ensures in
    let more : Premises = c.insert.new.self in
    let with : List ℕ = picked_in c.with-picked.result in
    let store : Store = c.keep_values.new.store in
    let grows : KeepsMore network old store = subst (KeepsMore network old) (sym {A = Store} c.keep_values.ensures.unchanged) c.loop-index.invariant.leaves.grows in
    found_then w more groups picked with group i left inside c.insert.ensures.inserted c.with-picked.ensures network old store grows
    c.loop-index.alike c.loop-index.nogoods c.search.new.nogoods c.search.new.tried.nogood c.search.new.tried.place
    c.in_ok-found.found c.note_alike-then-ends.new.nogoods c.args.network.now.well c.requires.sound.kinds c.loop-index.invariant.leaves.are c.loop-index.invariant.passed
    (subst (HasMore c.search.new.nogoods c.note_alike-then-ends.new.nogoods) (same c.loop-index.alike i) c.in_ok-note_alike-2.ensures.noted)
    (sym c.ends.ensures ∙ c.if-ends.true) c.in_ok-found.ensures.found

pub returns-then-ends-clause-known : goal.returns-then-ends-clause-known
returns-then-ends-clause-known g t c = λ all.
    let w : Premises = c.args.worldview.now in
    let groups : List (List ℕ) = groups_of c.args.groups.now in
    let picked : List ℕ = picked_in c.args.picks.now in
    let seen : List ℕ = c.premises-place.result.now in
    let group : List ℕ = c.group-group.result.now in
    let i : ℕ = c.loop-index.index in
    let inside : i < length group = omega (arith, c.loop-index-test.true) in
    let here : length picked < length groups = grind (arith, nat_tests, c.requires.few, c.if-place-len.false, c.len.ensures.len, ap length c.premises-place.ensures.premises) in
    let left = group_left groups picked seen group c.premises-place.ensures.premises here c.group-group.ensures in
    let more : Premises = c.insert.new.self in
    let with : List ℕ = picked_in c.with-picked.result in
    let nothing = c.search.ensures.known (covered_then w more groups picked with group i left inside c.insert.ensures.inserted c.with-picked.ensures c.args.nogoods.now
    c.loop-index.nogoods c.loop-index.invariant.leaves.covers_more all) in
    absurd (goes_on c.search.result c.in_ok-found.found c.search.new.tried.nogood w nothing.0 c.in_ok-found.was (sym c.ends.ensures ∙ c.if-ends.true))

pub returns-then-ends-clause-leaves : goal.returns-then-ends-clause-leaves
returns-then-ends-clause-leaves g t c =
    let network : Network = wiring c.args.network.now in
    let old : Store = c.args.store.now in
    let groups : List (List ℕ) = groups_of c.args.groups.now in
    let picked : List ℕ = picked_in c.args.picks.now in
    let seen : List ℕ = c.premises-place.result.now in
    let group : List ℕ = c.group-group.result.now in
    let i : ℕ = c.loop-index.index in
    let same = waiting_is groups picked seen group c.premises-place.ensures.premises c.group-group.ensures in
    let wait : List Premises = pending c.loop-index.alike (drop (length seen + 1) groups) (take i (slice_index_or groups (length seen) [])) in
    let waits : AreNogoods network old wait = subst (AreNogoods network old) (sym (same c.loop-index.alike i)) c.loop-index.invariant.passed.are in
    let store : Store = c.keep_values.new.store in
    let leaves : LeavesSound network old c.args.nogoods.now c.search.new.store c.search.new.nogoods c.search.new.tried.last =
    leaves_then network old store c.search.new.store c.args.nogoods.now c.loop-index.nogoods c.search.new.nogoods c.loop-index.tried.last c.search.new.tried.last
    (subst (λ (s : Store). LeavesSound network old c.args.nogoods.now s c.loop-index.nogoods c.loop-index.tried.last) (sym {A = Store} c.keep_values.ensures.unchanged)
    c.loop-index.invariant.leaves) c.search.ensures.leaves in
    leaves_noted network old c.search.new.store c.args.nogoods.now c.search.new.nogoods c.note_alike-then-ends.new.nogoods wait c.search.new.tried.last leaves waits
    c.note_alike-then-ends.ensures.leaves

pub returns-in_err-take_in-clause-known : goal.returns-in_err-take_in-clause-known
returns-in_err-take_in-clause-known g t c = λ all.
    let w : Premises = c.args.worldview.now in
    let groups : List (List ℕ) = groups_of c.args.groups.now in
    let picked : List ℕ = picked_in c.args.picks.now in
    let seen : List ℕ = c.premises-place.result.now in
    let group : List ℕ = c.group-group.result.now in
    let i : ℕ = c.loop-index.index in
    let inside : i < length group = omega (arith, c.loop-index-test.true) in
    let here : length picked < length groups = grind (arith, nat_tests, c.requires.few, c.if-place-len.false, c.len.ensures.len, ap length c.premises-place.ensures.premises) in
    let left = group_left groups picked seen group c.premises-place.ensures.premises here c.group-group.ensures in
    let more : Premises = c.insert.new.self in
    let with : List ℕ = picked_in c.with-picked.result in
    let nothing = c.search.ensures.known (covered_then w more groups picked with group i left inside c.insert.ensures.inserted c.with-picked.ensures c.args.nogoods.now
    c.loop-index.nogoods c.loop-index.invariant.leaves.covers_more all) in
    let is = found_nothing c.search.result c.in_ok-found.found nothing.0 c.in_ok-found.was in
    absurd (not_refused c.take_in.result _ c.in_err-take_in.field-0.0 (c.take_in.ensures.same is (c.loop-index.invariant.known all).0).0 c.in_err-take_in.was)

pub returns-in_err-take_in-clause-leaves : goal.returns-in_err-take_in-clause-leaves
returns-in_err-take_in-clause-leaves g t c =
    let network : Network = wiring c.args.network.now in
    let old : Store = c.args.store.now in
    let w : Premises = c.args.worldview.now in
    let groups : List (List ℕ) = groups_of c.args.groups.now in
    let picked : List ℕ = picked_in c.args.picks.now in
    let seen : List ℕ = c.premises-place.result.now in
    let group : List ℕ = c.group-group.result.now in
    let i : ℕ = c.loop-index.index in
    let inside : i < length group = omega (arith, c.loop-index-test.true) in
    let here : length picked < length groups = grind (arith, nat_tests, c.requires.few, c.if-place-len.false, c.len.ensures.len, ap length c.premises-place.ensures.premises) in
    let left = group_left groups picked seen group c.premises-place.ensures.premises here c.group-group.ensures in
    let same = waiting_is groups picked seen group c.premises-place.ensures.premises c.group-group.ensures in
    let wait : List Premises = pending c.loop-index.alike (drop (length seen + 1) groups) (take i (slice_index_or groups (length seen) [])) in
    let waits : AreNogoods network old wait = subst (AreNogoods network old) (sym (same c.loop-index.alike i)) c.loop-index.invariant.passed.are in
    let more : Premises = c.insert.new.self in
    let with : List ℕ = picked_in c.with-picked.result in
    let store : Store = c.keep_values.new.store in
    let grows : KeepsMore network old store = subst (KeepsMore network old) (sym {A = Store} c.keep_values.ensures.unchanged) c.loop-index.invariant.leaves.grows in
    let leaves : LeavesSound network old c.args.nogoods.now c.search.new.store c.search.new.nogoods c.search.new.tried.last =
    leaves_then network old store c.search.new.store c.args.nogoods.now c.loop-index.nogoods c.search.new.nogoods c.loop-index.tried.last c.search.new.tried.last
    (subst (λ (s : Store). LeavesSound network old c.args.nogoods.now s c.loop-index.nogoods c.loop-index.tried.last) (sym {A = Store} c.keep_values.ensures.unchanged)
    c.loop-index.invariant.leaves) c.search.ensures.leaves in
    let others : List Premises = refuting c.in_ok-found.found c.search.new.tried.nogood (drop c.search.new.tried.place groups) in
    let refuted : AreNogoods network old others = refuting_are w more groups picked with group i left inside c.insert.ensures.inserted c.with-picked.ensures network old store grows
    c.loop-index.alike c.loop-index.nogoods c.search.new.nogoods c.search.new.tried.nogood c.search.new.tried.place
    c.in_ok-found.found c.in_ok-found.ensures.found in
    leaves_noted network old c.search.new.store c.args.nogoods.now c.search.new.nogoods c.take_in.new.nogoods (others ++ wait) c.search.new.tried.last leaves
    (All-append (IsNogood network old) others wait refuted waits) c.take_in.ensures.leaves

pub loop-index-preserved : goal.loop-index-preserved
loop-index-preserved g t c =
    let network : Network = wiring c.args.network.now in
    let old : Store = c.args.store.now in
    let w : Premises = c.args.worldview.now in
    let groups : List (List ℕ) = groups_of c.args.groups.now in
    let picked : List ℕ = picked_in c.args.picks.now in
    let seen : List ℕ = c.premises-place.result.now in
    let group : List ℕ = c.group-group.result.now in
    let i : ℕ = c.loop-index.index in
    let inside : i < length group = omega (arith, c.loop-index-test.true) in
    let here : length picked < length groups = grind (arith, nat_tests, c.requires.few, c.if-place-len.false, c.len.ensures.len, ap length c.premises-place.ensures.premises) in
    let left = group_left groups picked seen group c.premises-place.ensures.premises here c.group-group.ensures in
    let same = waiting_is groups picked seen group c.premises-place.ensures.premises c.group-group.ensures in
    let wait : List Premises = pending c.loop-index.alike (drop (length seen + 1) groups) (take i (slice_index_or groups (length seen) [])) in
    let waits : AreNogoods network old wait = subst (AreNogoods network old) (sym (same c.loop-index.alike i)) c.loop-index.invariant.passed.are in
    let more : Premises = c.insert.new.self in
    let with : List ℕ = picked_in c.with-picked.result in
    let store : Store = c.keep_values.new.store in
    let grows : KeepsMore network old store = subst (KeepsMore network old) (sym {A = Store} c.keep_values.ensures.unchanged) c.loop-index.invariant.leaves.grows in
    let leaves : LeavesSound network old c.args.nogoods.now c.search.new.store c.search.new.nogoods c.search.new.tried.last =
    leaves_then network old store c.search.new.store c.args.nogoods.now c.loop-index.nogoods c.search.new.nogoods c.loop-index.tried.last c.search.new.tried.last
    (subst (λ (s : Store). LeavesSound network old c.args.nogoods.now s c.loop-index.nogoods c.loop-index.tried.last) (sym {A = Store} c.keep_values.ensures.unchanged)
    c.loop-index.invariant.leaves) c.search.ensures.leaves in
    let others : List Premises = refuting c.in_ok-found.found c.search.new.tried.nogood (drop c.search.new.tried.place groups) in
    let refuted : AreNogoods network old others = refuting_are w more groups picked with group i left inside c.insert.ensures.inserted c.with-picked.ensures network old store grows
    c.loop-index.alike c.loop-index.nogoods c.search.new.nogoods c.search.new.tried.nogood c.search.new.tried.place
    c.in_ok-found.found c.in_ok-found.ensures.found in
    record {
      passed = one_passed w more groups picked with group i left inside c.insert.ensures.inserted c.with-picked.ensures network old store grows
          c.loop-index.alike c.loop-index.nogoods c.search.new.nogoods c.search.new.tried.nogood c.search.new.tried.place
          c.in_ok-found.found c.take_in.new.alike c.take_in.new.nogoods (sym c.ends.ensures ∙ c.if-ends.false) c.in_ok-found.ensures.found
          c.search.ensures.leaves.covers_more leaves.are c.loop-index.invariant.passed
          (waits_is groups picked seen group c.premises-place.ensures.premises c.group-group.ensures c.in_ok-found.found c.take_in.new.alike
          c.search.new.tried.nogood i c.in_ok-take_in.ensures.waiting)
          (more_is groups picked seen group c.premises-place.ensures.premises c.group-group.ensures c.loop-index.alike c.take_in.new.alike i
          c.search.new.nogoods c.take_in.new.nogoods others c.in_ok-take_in.ensures.more);
      known = λ all.
          let nothing = c.search.ensures.known (covered_then w more groups picked with group i left inside c.insert.ensures.inserted c.with-picked.ensures c.args.nogoods.now
          c.loop-index.nogoods c.loop-index.invariant.leaves.covers_more all) in
          let is = found_nothing c.search.result c.in_ok-found.found nothing.0 c.in_ok-found.was in
          let before = c.loop-index.invariant.known all in
          let noted = c.take_in.ensures.same is before.0 in
          (noted.2, nothing.1 ∙ (c.keep_values.ensures.unchanged ∙ before.1), noted.1 ∙ (nothing.2 ∙ before.2));
      leaves = leaves_noted network old c.search.new.store c.args.nogoods.now c.search.new.nogoods c.take_in.new.nogoods (others ++ wait) c.search.new.tried.last
          leaves (All-append (IsNogood network old) others wait refuted waits) c.take_in.ensures.leaves;
      own = last_then network old c.loop-index.store c.loop-index.invariant.leaves.grows c.keep_values.new.own c.keep_values.ensures.own;
    }

pub returns-in-Some-clause-found : goal.returns-in-Some-clause-found
returns-in-Some-clause-found g t c =
    let network : Network = wiring c.args.network.now in
    let old : Store = c.args.store.now in
    let w : Premises = c.args.worldview.now in
    let groups : List (List ℕ) = groups_of c.args.groups.now in
    let picked : List ℕ = picked_in c.args.picks.now in
    let seen : List ℕ = c.premises-place.result.now in
    let group : List ℕ = c.group-group.result.now in
    let rest : List (List ℕ) = drop (length picked + 1) groups in
    let i : ℕ = c.loop-index.index in
    let here : length picked < length groups = grind (arith, nat_tests, c.requires.few, c.if-place-len.false, c.len.ensures.len, ap length c.premises-place.ensures.premises) in
    let left = group_left groups picked seen group c.premises-place.ensures.premises here c.group-group.ensures in
    let past : length group ≤ i = omega (arith, c.loop-index-test.false) in
    let length_is : length seen ≡ length picked = ap length c.premises-place.ensures.premises in
    let all = all_alike network old w rest group i past c.in-Some.fixed c.loop-index.nogoods
    (subst (λ o. IsPassed network old w rest (take i group) o c.loop-index.nogoods) c.in-Some.is c.loop-index.invariant.passed) in (
      all.0,
      record {
        part = all.1;
        past = omega (arith, length_is);
        within = omega (arith, length_is, here);
        nogoods = subst (λ (gs : List (List ℕ)). AreNogoods network old (worldviews_beside c.in-Some.fixed gs))
            (sym (ap (λ n. drop n groups) length_is ∙ left)) all.2;
      },
    )

pub returns-clause-found : goal.returns-clause-found
returns-clause-found g t c =
    let network : Network = wiring c.args.network.now in
    let old : Store = c.args.store.now in
    let w : Premises = c.args.worldview.now in
    let groups : List (List ℕ) = groups_of c.args.groups.now in
    let picked : List ℕ = picked_in c.args.picks.now in
    let seen : List ℕ = c.premises-place.result.now in
    let group : List ℕ = c.group-group.result.now in
    let rest : List (List ℕ) = drop (length picked + 1) groups in
    let i : ℕ = c.loop-index.index in
    let here : length picked < length groups = grind (arith, nat_tests, c.requires.few, c.if-place-len.false, c.len.ensures.len, ap length c.premises-place.ensures.premises) in
    let left = group_left groups picked seen group c.premises-place.ensures.premises here c.group-group.ensures in
    let past : length group ≤ i = omega (arith, c.loop-index-test.false) in
    let all = all_passed network old w rest group i past c.loop-index.nogoods
    (subst (λ o. IsPassed network old w rest (take i group) o c.loop-index.nogoods) c.in-None.is c.loop-index.invariant.passed) in
    (all.0, subst (λ gs. AreCovered c.loop-index.nogoods (worldviews_beside w gs)) (sym left) all.1)

pub returns-in_err-note_alike-clause-known : goal.returns-in_err-note_alike-clause-known
returns-in_err-note_alike-clause-known g t c = λ all.
    absurd (not_refused c.note_alike.result _ c.in_err-note_alike.field-0.0 (c.note_alike.ensures.same (c.loop-index.invariant.known all).0).0 c.in_err-note_alike.was)

pub returns-in_err-keep_values-clause-known : goal.returns-in_err-keep_values-clause-known
returns-in_err-keep_values-clause-known g t c = λ all.
    absurd (not_refused c.keep_values.result _ c.in_err-keep_values.field-0.0 (c.keep_values.ensures.same (c.loop-index.invariant.known all).0) c.in_err-keep_values.was)

pub returns-in_err-keep_values-clause-leaves : goal.returns-in_err-keep_values-clause-leaves
returns-in_err-keep_values-clause-leaves g t c =
    subst (λ (s : Store). LeavesSound (wiring c.args.network.now) c.args.store.now c.args.nogoods.now s c.loop-index.nogoods c.loop-index.tried.last)
    (sym {A = Store} c.keep_values.ensures.unchanged) c.loop-index.invariant.leaves

pub returns-in_err-note_alike-2-clause-known : goal.returns-in_err-note_alike-2-clause-known
returns-in_err-note_alike-2-clause-known g t c = λ all.
    let w : Premises = c.args.worldview.now in
    let groups : List (List ℕ) = groups_of c.args.groups.now in
    let picked : List ℕ = picked_in c.args.picks.now in
    let seen : List ℕ = c.premises-place.result.now in
    let group : List ℕ = c.group-group.result.now in
    let i : ℕ = c.loop-index.index in
    let inside : i < length group = omega (arith, c.loop-index-test.true) in
    let here : length picked < length groups = grind (arith, nat_tests, c.requires.few, c.if-place-len.false, c.len.ensures.len, ap length c.premises-place.ensures.premises) in
    let left = group_left groups picked seen group c.premises-place.ensures.premises here c.group-group.ensures in
    let more : Premises = c.insert.new.self in
    let with : List ℕ = picked_in c.with-picked.result in
    let nothing = c.search.ensures.known (covered_then w more groups picked with group i left inside c.insert.ensures.inserted c.with-picked.ensures c.args.nogoods.now
    c.loop-index.nogoods c.loop-index.invariant.leaves.covers_more all) in
    absurd (goes_on c.search.result c.in_ok-found.found c.search.new.tried.nogood w nothing.0 c.in_ok-found.was (sym c.ends.ensures ∙ c.if-ends.true))

pub returns-in-Some-clause-known : goal.returns-in-Some-clause-known
returns-in-Some-clause-known g t c = λ all. absurd (subst (λ (o : Option Premises). IfSome o (λ set. ⊥)) (sym (c.loop-index.invariant.known all).0 ∙ c.in-Some.is) tt)

pub returns-clause-known : goal.returns-clause-known
returns-clause-known g t c = λ all.
    let before = c.loop-index.invariant.known all in
    (refl, before.1, before.2)
