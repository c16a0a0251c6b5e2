use Rattle.std.proofs.Common.{length, ◌≡◌, ℕ, true, List, All, drop, refl, sym, ap, ◌∙◌, subst, arith}
use Rattle.pw_cells.specs.Cells.{Store}
use Rattle.pw_network.specs.Network.{Network}
use Rattle.pw_network.specs.Wiring.{wiring}
use Rattle.pw_premises.specs.Premises.{Premises}
use Rattle.pw_premises.specs.PremiseSubsets.{is_subset_refl}
use Rattle.pw_reasons.specs.Combinations.{groups_of, picked_in, worldviews_of}
use Rattle.pw_reasons.specs.Nogood.{AreNogoods, covers}
use Rattle.pw_reasons.specs.inside.Products.{worldviews_beside}
use Rattle.pw_reasons.specs.inside.Reasoning.{AreSettledLast}
use Rattle.pw_reasons.specs.inside.Searching.{AreCovered, IsFoundBeside, ends_search}
use Rattle.pw_reasons.proofs.ChoiceLemmas.{covered_nogoods}
use Rattle.pw_reasons.proofs.FamilyLemmas.{or_right}
use Rattle.pw_reasons.proofs.SearchLemmas.{all_covered, all_noted_covered, chosen_first, goes_on, left_covered, not_refused, worldviews_are}
use Rattle.pw_reasons.proofs.SearchSteps.{not_both, refuted_apart, refuted_covered, refuted_nogoods}
use Rattle.pw_reasons.specs.declared.choosing.Found.TheVariants.{Refuted}
use Rattle.pw_reasons.proofs.choosing.choose.Goals as goal

pub returns-then-covers-clause-none : goal.returns-then-covers-clause-none
returns-then-covers-clause-none g c =
    let groups : List (List ℕ) = groups_of c.args.groups.now in
    let all : All (λ w. covers c.args.nogoods.now w ≡ true) (worldviews_of c.args.worldview.now groups) =
    subst (AreCovered c.args.nogoods.now) (worldviews_are c.args.worldview.now c.believed_beside-others.result groups c.believed_beside-others.ensures)
    (all_covered c.args.nogoods.now c.believed_beside-others.result groups (sym c.covers.ensures ∙ c.if-covers.true)) in
    covered_nogoods (wiring c.args.network.now) c.args.store.now c.args.network.now.well c.requires.sound.kinds c.args.nogoods.now c.requires.nogoods
    (worldviews_of c.args.worldview.now groups) all

pub returns-then-covers-clause-covered : goal.returns-then-covers-clause-covered
returns-then-covers-clause-covered g c =
    let groups : List (List ℕ) = groups_of c.args.groups.now in
    subst (AreCovered c.args.nogoods.now) (worldviews_are c.args.worldview.now c.believed_beside-others.result groups c.believed_beside-others.ensures)
    (all_covered c.args.nogoods.now c.believed_beside-others.result groups (sym c.covers.ensures ∙ c.if-covers.true))

pub search-requires-clause-part : goal.search-requires-clause-part
search-requires-clause-part g c = is_subset_refl c.believed_beside-others.result

pub returns-in_err-found-clause-known : goal.returns-in_err-found-clause-known
returns-in_err-found-clause-known g c all =
    let beliefs : Premises = c.args.worldview.now in
    let others : Premises = c.believed_beside-others.result in
    let groups : List (List ℕ) = groups_of c.args.groups.now in
    let none : List ℕ = picked_in c.none.result in
    let nothing = c.search.ensures.known (subst (λ (l : List Premises). AreCovered l (worldviews_beside others (drop (length none) groups)))
    (sym {A = List Premises} c.expect.ensures) (left_covered beliefs others groups none c.believed_beside-others.ensures c.none.ensures c.args.nogoods.now all)) in
    absurd (not_refused c.search.result _ c.in_err-found.field-0.0 nothing.0 c.in_err-found.was)

pub returns-in-Chosen-clause-some : goal.returns-in-Chosen-clause-some
returns-in-Chosen-clause-some g c =
    let network : Network = wiring c.args.network.now in
    let store : Store = c.args.store.now in
    let beliefs : Premises = c.args.worldview.now in
    let others : Premises = c.believed_beside-others.result in
    let groups : List (List ℕ) = groups_of c.args.groups.now in
    let none : List ℕ = picked_in c.none.result in
    let found = subst (IsFoundBeside network store c.search.new.nogoods c.search.new.tried.nogood c.search.new.tried.place others groups none) c.in-Chosen.is
    c.in_ok-found.ensures.found in
    chosen_first beliefs others groups none c.believed_beside-others.ensures c.none.ensures network store (picked_in c.in-Chosen.picks) found

pub returns-in-Chosen-clause-known : goal.returns-in-Chosen-clause-known
returns-in-Chosen-clause-known g c all =
    let beliefs : Premises = c.args.worldview.now in
    let others : Premises = c.believed_beside-others.result in
    let groups : List (List ℕ) = groups_of c.args.groups.now in
    let none : List ℕ = picked_in c.none.result in
    let nothing = c.search.ensures.known (subst (λ (l : List Premises). AreCovered l (worldviews_beside others (drop (length none) groups)))
    (sym {A = List Premises} c.expect.ensures) (left_covered beliefs others groups none c.believed_beside-others.ensures c.none.ensures c.args.nogoods.now all)) in
    absurd (goes_on c.search.result c.in_ok-found.found c.search.new.tried.nogood others nothing.0 c.in_ok-found.was
    (ap (ends_search c.search.new.tried.nogood others) c.in-Chosen.is))

pub returns-in_err-note_with_each-in-Refuted-clause-known : goal.returns-in_err-note_with_each-in-Refuted-clause-known
returns-in_err-note_with_each-in-Refuted-clause-known g c all =
    let beliefs : Premises = c.args.worldview.now in
    let others : Premises = c.believed_beside-others.result in
    let groups : List (List ℕ) = groups_of c.args.groups.now in
    let none : List ℕ = picked_in c.none.result in
    let nothing = c.search.ensures.known (subst (λ (l : List Premises). AreCovered l (worldviews_beside others (drop (length none) groups)))
    (sym {A = List Premises} c.expect.ensures) (left_covered beliefs others groups none c.believed_beside-others.ensures c.none.ensures c.args.nogoods.now all)) in
    absurd (refuted_apart (not_both c.search.result c.in_ok-found.found Refuted nothing.0 c.in_ok-found.was c.in-Refuted.is))

pub returns-in-Refuted-clause-none : goal.returns-in-Refuted-clause-none
returns-in-Refuted-clause-none g c =
    let network : Network = wiring c.args.network.now in
    let store : Store = c.args.store.now in
    let beliefs : Premises = c.args.worldview.now in
    let others : Premises = c.believed_beside-others.result in
    let groups : List (List ℕ) = groups_of c.args.groups.now in
    let none : List ℕ = picked_in c.none.result in
    let found = subst (IsFoundBeside network store c.search.new.nogoods c.search.new.tried.nogood c.search.new.tried.place others groups none) c.in-Refuted.is
    c.in_ok-found.ensures.found in
    covered_nogoods network store c.args.network.now.well c.requires.sound.kinds c.note_with_each.new.self
    (refuted_nogoods network store c.search.new.nogoods c.note_with_each.new.self (worldviews_beside c.search.new.tried.nogood (drop c.search.new.tried.place groups))
    c.search.ensures.leaves.are found.1.nogoods c.note_with_each.ensures.within)
    (worldviews_of beliefs groups)
    (all_noted_covered beliefs others groups none c.believed_beside-others.ensures c.none.ensures c.note_with_each.new.self
    (refuted_covered network store others groups none c.search.new.tried.nogood c.search.new.tried.place found.1 c.search.new.nogoods c.note_with_each.new.self
    c.in_ok-note_with_each-in-Refuted.ensures.covered))

pub returns-in-Refuted-clause-covered : goal.returns-in-Refuted-clause-covered
returns-in-Refuted-clause-covered g c =
    let network : Network = wiring c.args.network.now in
    let store : Store = c.args.store.now in
    let beliefs : Premises = c.args.worldview.now in
    let others : Premises = c.believed_beside-others.result in
    let groups : List (List ℕ) = groups_of c.args.groups.now in
    let none : List ℕ = picked_in c.none.result in
    let found = subst (IsFoundBeside network store c.search.new.nogoods c.search.new.tried.nogood c.search.new.tried.place others groups none) c.in-Refuted.is
    c.in_ok-found.ensures.found in
    all_noted_covered beliefs others groups none c.believed_beside-others.ensures c.none.ensures c.note_with_each.new.self
    (refuted_covered network store others groups none c.search.new.tried.nogood c.search.new.tried.place found.1 c.search.new.nogoods c.note_with_each.new.self
    c.in_ok-note_with_each-in-Refuted.ensures.covered)

pub returns-in-Refuted-clause-known : goal.returns-in-Refuted-clause-known
returns-in-Refuted-clause-known g c all =
    let beliefs : Premises = c.args.worldview.now in
    let others : Premises = c.believed_beside-others.result in
    let groups : List (List ℕ) = groups_of c.args.groups.now in
    let none : List ℕ = picked_in c.none.result in
    let nothing = c.search.ensures.known (subst (λ (l : List Premises). AreCovered l (worldviews_beside others (drop (length none) groups)))
    (sym {A = List Premises} c.expect.ensures) (left_covered beliefs others groups none c.believed_beside-others.ensures c.none.ensures c.args.nogoods.now all)) in
    absurd (refuted_apart (not_both c.search.result c.in_ok-found.found Refuted nothing.0 c.in_ok-found.was c.in-Refuted.is))

pub returns-in-Refuted-clause-nogoods : goal.returns-in-Refuted-clause-nogoods
returns-in-Refuted-clause-nogoods g c =
    let network : Network = wiring c.args.network.now in
    let store : Store = c.args.store.now in
    let others : Premises = c.believed_beside-others.result in
    let groups : List (List ℕ) = groups_of c.args.groups.now in
    let none : List ℕ = picked_in c.none.result in
    let found = subst (IsFoundBeside network store c.search.new.nogoods c.search.new.tried.nogood c.search.new.tried.place others groups none) c.in-Refuted.is
    c.in_ok-found.ensures.found in
    refuted_nogoods network store c.search.new.nogoods c.note_with_each.new.self (worldviews_beside c.search.new.tried.nogood (drop c.search.new.tried.place groups))
    c.search.ensures.leaves.are found.1.nogoods c.note_with_each.ensures.within

pub returns-clause-none : goal.returns-clause-none
returns-clause-none g c =
    let network : Network = wiring c.args.network.now in
    let store : Store = c.args.store.now in
    let beliefs : Premises = c.args.worldview.now in
    let others : Premises = c.believed_beside-others.result in
    let groups : List (List ℕ) = groups_of c.args.groups.now in
    let none : List ℕ = picked_in c.none.result in
    let found = subst (IsFoundBeside network store c.search.new.nogoods c.search.new.tried.nogood c.search.new.tried.place others groups none) c.in-Nothing.is
    c.in_ok-found.ensures.found in
    covered_nogoods network store c.args.network.now.well c.requires.sound.kinds c.search.new.nogoods c.search.ensures.leaves.are (worldviews_of beliefs groups)
    (all_noted_covered beliefs others groups none c.believed_beside-others.ensures c.none.ensures c.search.new.nogoods found.1)

pub returns-clause-covered : goal.returns-clause-covered
returns-clause-covered g c =
    let network : Network = wiring c.args.network.now in
    let store : Store = c.args.store.now in
    let beliefs : Premises = c.args.worldview.now in
    let others : Premises = c.believed_beside-others.result in
    let groups : List (List ℕ) = groups_of c.args.groups.now in
    let none : List ℕ = picked_in c.none.result in
    let found = subst (IsFoundBeside network store c.search.new.nogoods c.search.new.tried.nogood c.search.new.tried.place others groups none) c.in-Nothing.is
    c.in_ok-found.ensures.found in
    all_noted_covered beliefs others groups none c.believed_beside-others.ensures c.none.ensures c.search.new.nogoods found.1

pub returns-clause-known : goal.returns-clause-known
returns-clause-known g c all =
    let beliefs : Premises = c.args.worldview.now in
    let others : Premises = c.believed_beside-others.result in
    let groups : List (List ℕ) = groups_of c.args.groups.now in
    let none : List ℕ = picked_in c.none.result in
    let nothing = c.search.ensures.known (subst (λ (l : List Premises). AreCovered l (worldviews_beside others (drop (length none) groups)))
    (sym {A = List Premises} c.expect.ensures) (left_covered beliefs others groups none c.believed_beside-others.ensures c.none.ensures c.args.nogoods.now all)) in
    (refl, nothing.1, nothing.2 ∙ c.expect.ensures)

pub search-requires-clause-sound : goal.search-requires-clause-sound
search-requires-clause-sound g c = c.requires.sound

pub search-requires-clause-premises : goal.search-requires-clause-premises
search-requires-clause-premises g c = c.requires.premises

pub search-requires-clause-nogoods : goal.search-requires-clause-nogoods
search-requires-clause-nogoods g c =
    subst (AreNogoods (wiring c.args.network.now) c.args.store.now) (sym {A = List Premises} c.expect.ensures) c.requires.nogoods

pub search-requires-clause-above : goal.search-requires-clause-above
search-requires-clause-above g c = tt

pub search-requires-clause-uncovered : goal.search-requires-clause-uncovered
search-requires-clause-uncovered g c =
    ap (λ (l : List Premises). covers l c.believed_beside-others.result) c.expect.ensures ∙ sym c.covers.ensures ∙ c.if-covers.false

pub search-requires-clause-few : goal.search-requires-clause-few
search-requires-clause-few g c = omega (arith, ap length c.none.ensures)

pub search-requires-clause-last : goal.search-requires-clause-last
search-requires-clause-last g c = subst (AreSettledLast (wiring c.args.network.now) c.args.store.now) (sym c.nothing-tried.ensures) tt

pub returns-then-covers-clause-nogoods : goal.returns-then-covers-clause-nogoods
returns-then-covers-clause-nogoods g c = c.requires.nogoods

pub returns-then-covers-clause-covers : goal.returns-then-covers-clause-covers
returns-then-covers-clause-covers g c = λ w covered. covered

pub returns-then-covers-clause-upstream : goal.returns-then-covers-clause-upstream
returns-then-covers-clause-upstream g c = λ given rests. rests

pub returns-in_err-found-clause-nogoods : goal.returns-in_err-found-clause-nogoods
returns-in_err-found-clause-nogoods g c = c.search.ensures.leaves.are

pub returns-in_err-found-clause-covers : goal.returns-in_err-found-clause-covers
returns-in_err-found-clause-covers g c = λ w covered.
    c.search.ensures.leaves.covers_more w (subst (λ (l : List Premises). covers l w ≡ true) (sym {A = List Premises} c.expect.ensures) covered)

pub returns-in_err-found-clause-grows : goal.returns-in_err-found-clause-grows
returns-in_err-found-clause-grows g c = c.search.ensures.leaves.grows

pub returns-in_err-found-clause-upstream : goal.returns-in_err-found-clause-upstream
returns-in_err-found-clause-upstream g c = c.search.ensures.leaves.upstream

pub returns-in-Chosen-clause-nogoods : goal.returns-in-Chosen-clause-nogoods
returns-in-Chosen-clause-nogoods g c = c.search.ensures.leaves.are

pub returns-in-Chosen-clause-covers : goal.returns-in-Chosen-clause-covers
returns-in-Chosen-clause-covers g c = λ w covered.
    c.search.ensures.leaves.covers_more w (subst (λ (l : List Premises). covers l w ≡ true) (sym {A = List Premises} c.expect.ensures) covered)

pub returns-in-Chosen-clause-grows : goal.returns-in-Chosen-clause-grows
returns-in-Chosen-clause-grows g c = c.search.ensures.leaves.grows

pub returns-in-Chosen-clause-upstream : goal.returns-in-Chosen-clause-upstream
returns-in-Chosen-clause-upstream g c = c.search.ensures.leaves.upstream

pub returns-in_err-note_with_each-in-Refuted-clause-nogoods : goal.returns-in_err-note_with_each-in-Refuted-clause-nogoods
returns-in_err-note_with_each-in-Refuted-clause-nogoods g c =
    let network : Network = wiring c.args.network.now in
    let store : Store = c.args.store.now in
    let others : Premises = c.believed_beside-others.result in
    let groups : List (List ℕ) = groups_of c.args.groups.now in
    let none : List ℕ = picked_in c.none.result in
    let found = subst (IsFoundBeside network store c.search.new.nogoods c.search.new.tried.nogood c.search.new.tried.place others groups none) c.in-Refuted.is
    c.in_ok-found.ensures.found in
    refuted_nogoods network store c.search.new.nogoods c.note_with_each.new.self (worldviews_beside c.search.new.tried.nogood (drop c.search.new.tried.place groups))
    c.search.ensures.leaves.are found.1.nogoods c.note_with_each.ensures.within

pub returns-in_err-note_with_each-in-Refuted-clause-covers : goal.returns-in_err-note_with_each-in-Refuted-clause-covers
returns-in_err-note_with_each-in-Refuted-clause-covers g c = λ w covered.
    subst (λ (l : List Premises). covers l w ≡ true) (sym {A = List Premises} c.in_err-note_with_each-in-Refuted.ensures.err)
    (c.search.ensures.leaves.covers_more w (subst (λ (l : List Premises). covers l w ≡ true) (sym {A = List Premises} c.expect.ensures) covered))

pub returns-in_err-note_with_each-in-Refuted-clause-grows : goal.returns-in_err-note_with_each-in-Refuted-clause-grows
returns-in_err-note_with_each-in-Refuted-clause-grows g c = c.search.ensures.leaves.grows

pub returns-in_err-note_with_each-in-Refuted-clause-upstream : goal.returns-in_err-note_with_each-in-Refuted-clause-upstream
returns-in_err-note_with_each-in-Refuted-clause-upstream g c = c.search.ensures.leaves.upstream

pub returns-in-Refuted-clause-covers : goal.returns-in-Refuted-clause-covers
returns-in-Refuted-clause-covers g c = λ w covered.
    c.in_ok-note_with_each-in-Refuted.ensures.covered w ∙ or_right _ _ (c.search.ensures.leaves.covers_more w
    (subst (λ (l : List Premises). covers l w ≡ true) (sym {A = List Premises} c.expect.ensures) covered))

pub returns-in-Refuted-clause-grows : goal.returns-in-Refuted-clause-grows
returns-in-Refuted-clause-grows g c = c.search.ensures.leaves.grows

pub returns-in-Refuted-clause-upstream : goal.returns-in-Refuted-clause-upstream
returns-in-Refuted-clause-upstream g c = c.search.ensures.leaves.upstream

pub returns-clause-nogoods : goal.returns-clause-nogoods
returns-clause-nogoods g c = c.search.ensures.leaves.are

pub returns-clause-covers : goal.returns-clause-covers
returns-clause-covers g c = λ w covered.
    c.search.ensures.leaves.covers_more w (subst (λ (l : List Premises). covers l w ≡ true) (sym {A = List Premises} c.expect.ensures) covered)

pub returns-clause-grows : goal.returns-clause-grows
returns-clause-grows g c = c.search.ensures.leaves.grows

pub returns-clause-upstream : goal.returns-clause-upstream
returns-clause-upstream g c = c.search.ensures.leaves.upstream
