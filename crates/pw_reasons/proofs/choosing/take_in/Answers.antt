use Rattle.std.proofs.Common.{◌≡◌, ◌⊎◌, ℕ, ◌+◌, List, [], ◌++◌, Option, None, Some, Result, Ok, Err, take, drop, inl, inr, sym, ap, ◌∙◌, subst, arith}
use Rattle.std.specs.Prelude.{IfSome, OnOk, slice_index_or}
use Rattle.std.specs.FinSet.{remove}
use Rattle.pw_reasons.specs.Combinations.{groups_of}
use Rattle.pw_premises.specs.Premises.{Premises}
use Rattle.pw_reasons.specs.inside.Alike.{HasMore, MayHaveMore, pending}
use Rattle.pw_reasons.specs.inside.Searching.{refuting}
use Rattle.pw_reasons.specs.declared.choosing.Found.{Found}
use Rattle.pw_reasons.specs.declared.choosing.Found.TheVariants.{Chosen, Nothing, Refuted}
use Rattle.pw_reasons.specs.declared.picks.Picks.{Picks}
use Rattle.pw_reasons.proofs.AlikeLemmas.{alike_noted}
use Rattle.pw_reasons.proofs.SearchSteps.{refuted_apart}
use Rattle.pw_reasons.proofs.choosing.take_in.Goals as goal

-- nothing refutes what is not refuted
none_refuting : (found : Found) (nogood : Premises) (groups : List (List ℕ)) → ((x : Picks) × (found ≡ Chosen x)) ⊎ (found ≡ Nothing) →
    [] ≡ refuting found nogood groups
none_refuting found nogood groups (inl chosen) = sym (ap (λ f. refuting f nogood groups) chosen.1)
none_refuting found nogood groups (inr nothing) = sym (ap (λ f. refuting f nogood groups) nothing)

-- what waits was refuted
refuted_waits : {T E : Type 0} (found : Found) (set : Premises) (alike : Option Premises) (r : Result T E) → found ≡ Refuted →
    OnOk r (IfSome alike (λ fixed. fixed ≡ set)) → OnOk r (IfSome alike (λ fixed. (found ≡ Refuted) × (fixed ≡ set)))
refuted_waits found set None (Ok x) refuted waits = tt
refuted_waits found set (Some fixed) (Ok x) refuted waits = (refuted, waits)
refuted_waits found set alike (Err e) refuted waits = tt

-- or nothing waits
none_waits : {T E : Type 0} (P : Premises → Type 0) (alike : Option Premises) (r : Result T E) → OnOk r (alike ≡ None) → OnOk r (IfSome alike P)
none_waits P alike (Ok x) none = subst (λ o. IfSome o P) (sym none) tt
none_waits P alike (Err e) none = tt

pub take_refuted-requires-clause-place : goal.take_refuted-requires-clause-place
take_refuted-requires-clause-place g c = c.requires.place

pub take_refuted-requires-clause-index : goal.take_refuted-requires-clause-index
take_refuted-requires-clause-index g c = c.requires.index

pub take_refuted-requires-clause-premises : goal.take_refuted-requires-clause-premises
take_refuted-requires-clause-premises g c = c.requires.premises

pub returns-in-Refuted-clause-more : goal.returns-in-Refuted-clause-more
returns-in-Refuted-clause-more g c =
    let group : List ℕ = slice_index_or (groups_of c.args.groups.now) c.args.place [] in
    let rest : List (List ℕ) = drop (c.args.place + 1) (groups_of c.args.groups.now) in
    subst (λ (found : Found). OnOk c.take_refuted.result (HasMore (pending c.args.alike.now rest (take c.args.index group) ++ c.args.nogoods.now)
    (pending c.take_refuted.new.alike rest (take (c.args.index + 1) group) ++ c.take_refuted.new.nogoods)
    (refuting found c.args.tried.now.nogood (drop c.args.tried.now.place (groups_of c.args.groups.now)))))
    (sym c.in-Refuted.is) c.take_refuted.ensures.more

pub returns-in-Refuted-clause-waiting : goal.returns-in-Refuted-clause-waiting
returns-in-Refuted-clause-waiting g c =
    refuted_waits c.args.found.now
    (remove c.args.tried.now.nogood (slice_index_or (slice_index_or (groups_of c.args.groups.now) c.args.place []) c.args.index 0))
    c.take_refuted.new.alike c.take_refuted.result c.in-Refuted.is c.take_refuted.ensures.waiting

pub returns-in-Refuted-clause-leaves : goal.returns-in-Refuted-clause-leaves
returns-in-Refuted-clause-leaves g c =
    let group : List ℕ = slice_index_or (groups_of c.args.groups.now) c.args.place [] in
    let rest : List (List ℕ) = drop (c.args.place + 1) (groups_of c.args.groups.now) in
    subst (λ (found : Found). MayHaveMore c.args.nogoods.now c.take_refuted.new.nogoods
    (refuting found c.args.tried.now.nogood (drop c.args.tried.now.place (groups_of c.args.groups.now))
    ++ pending c.args.alike.now rest (take c.args.index group)))
    (sym c.in-Refuted.is) c.take_refuted.ensures.leaves

pub returns-in-Refuted-clause-same : goal.returns-in-Refuted-clause-same
returns-in-Refuted-clause-same g c = λ nothing none. absurd (refuted_apart (sym nothing ∙ c.in-Refuted.is))

pub note_alike-requires-clause-place : goal.note_alike-requires-clause-place
note_alike-requires-clause-place g c = c.requires.place

pub note_alike-requires-clause-count : goal.note_alike-requires-clause-count
note_alike-requires-clause-count g c = omega (arith, c.requires.index)

pub note_alike-requires-clause-premises : goal.note_alike-requires-clause-premises
note_alike-requires-clause-premises g c = c.requires.premises

pub returns-in-Chosen-clause-more : goal.returns-in-Chosen-clause-more
returns-in-Chosen-clause-more g c =
    let group : List ℕ = slice_index_or (groups_of c.args.groups.now) c.args.place [] in
    let rest : List (List ℕ) = drop (c.args.place + 1) (groups_of c.args.groups.now) in
    let before : List Premises = pending c.args.alike.now rest (take c.args.index group) in
    subst (λ (more : List Premises). OnOk c.note_alike.result (HasMore (before ++ c.args.nogoods.now)
    (pending c.note_alike.new.alike rest (take (c.args.index + 1) group) ++ c.note_alike.new.nogoods) more))
    (none_refuting c.args.found.now c.args.tried.now.nogood (drop c.args.tried.now.place (groups_of c.args.groups.now)) c.in-Chosen.is)
    (alike_noted c.args.nogoods.now c.note_alike.new.nogoods before c.note_alike.new.alike rest (take (c.args.index + 1) group) c.note_alike.result
    c.note_alike.ensures.noted c.note_alike.ensures.none)

pub returns-in-Chosen-clause-waiting : goal.returns-in-Chosen-clause-waiting
returns-in-Chosen-clause-waiting g c =
    none_waits (λ fixed. (c.args.found.now ≡ Refuted)
    × (fixed ≡ remove c.args.tried.now.nogood (slice_index_or (slice_index_or (groups_of c.args.groups.now) c.args.place []) c.args.index 0)))
    c.note_alike.new.alike c.note_alike.result c.note_alike.ensures.none

pub returns-in-Chosen-clause-leaves : goal.returns-in-Chosen-clause-leaves
returns-in-Chosen-clause-leaves g c =
    let group : List ℕ = slice_index_or (groups_of c.args.groups.now) c.args.place [] in
    let rest : List (List ℕ) = drop (c.args.place + 1) (groups_of c.args.groups.now) in
    subst (λ (more : List Premises). MayHaveMore c.args.nogoods.now c.note_alike.new.nogoods (more ++ pending c.args.alike.now rest (take c.args.index group)))
    (none_refuting c.args.found.now c.args.tried.now.nogood (drop c.args.tried.now.place (groups_of c.args.groups.now)) c.in-Chosen.is)
    c.note_alike.ensures.leaves

pub returns-in-Chosen-clause-same : goal.returns-in-Chosen-clause-same
returns-in-Chosen-clause-same g c = λ nothing none.
    let same = c.note_alike.ensures.same none in
    (same.0, same.1, subst (λ r. OnOk r (c.note_alike.new.alike ≡ None)) same.0 c.note_alike.ensures.none)
