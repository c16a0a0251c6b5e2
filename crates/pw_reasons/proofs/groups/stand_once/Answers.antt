use Rattle.std.proofs.Common.{◌++◌, List, ℕ, ◌⊎◌, inl, inr, Contains, take, refl, sym, ap, ◌∙◌, subst}
use Rattle.std.specs.Prelude.{slice_index_or}
use Rattle.std.proofs.lemmas.Bool.{false≢true}
use Rattle.std.proofs.lemmas.List.{take_all}
use Rattle.pw_reasons.specs.inside.GroupsHeld.{all_premises}
use Rattle.pw_reasons.proofs.GroupLemmas.{IsOnce, is_there, next_is_new, next_is_not, not_there}
use Rattle.pw_reasons.proofs.groups.stand_once.Goals.{then-hold-via-then-hold, then-hold-via-else-hold+then-contains}
use Rattle.pw_reasons.proofs.groups.stand_once.Goals as goal

pub returns-then-hold : goal.returns-then-hold
returns-then-hold c =
    let held : List ℕ = all_premises c.args.groups.now in
    let more : List ℕ = c.args.premises.now in
    let place : ℕ = c.loop-place.place in
    let there : Contains held (slice_index_or more place 0) ⊎ Contains (take place more) (slice_index_or more place 0) =
    elim c.then-hold.branch [
      | then-hold-via-then-hold w ↦ inl (c.hold.ensures.0 w.if-hold.true)
      | then-hold-via-else-hold+then-contains w ↦ inr (is_there (take place more) (slice_index_or more place 0) w.contains.result w.contains.ensures.value w.if-contains.true)
    ] in
    (λ never. absurd (false≢true never), λ once. absurd (next_is_not held more place c.loop-place-test.true there once))

pub loop-place-preserved : goal.loop-place-preserved
loop-place-preserved c =
    let held : List ℕ = all_premises c.args.groups.now in
    let more : List ℕ = c.args.premises.now in
    let place : ℕ = c.loop-place.place in
    next_is_new held more place c.loop-place-test.true c.loop-place.invariant
    (λ one. false≢true (sym c.if-hold.false ∙ c.hold.ensures.1 one))
    (not_there (take place more) (slice_index_or more place 0) c.contains.result c.contains.ensures.value c.if-contains.false)

pub returns : goal.returns
returns c =
    let held : List ℕ = all_premises c.args.groups.now in
    let more : List ℕ = c.args.premises.now in
    (λ _. subst IsOnce (ap (λ xs. held ++ xs) (take_all c.loop-place.place more c.loop-place-test.false)) c.loop-place.invariant, λ _. refl)
