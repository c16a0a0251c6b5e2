use Rattle.std.proofs.Common.{◌≡◌, ◌≤◌, is_some, Some, None, length, inl, inr, refl, sym, ap, ◌∙◌, arith}
use Rattle.std.specs.Prelude.{IsSome}
use Rattle.std.proofs.lemmas.Bool.{false≢true}
use Rattle.pw_procs.specs.Registering.{place_of_name}
use Rattle.pw_decl.specs.Declaration.{Outside}
use Rattle.pw_decl.specs.Faults.{Duplicate, Unknown, TooMany}
use Rattle.pw_decl.specs.Versions.{most_premises_under}
use Rattle.pw_decl.specs.inside.Fields.{declared}
use Rattle.pw_decl.proofs.ParameterLemmas.{none_where}
use Rattle.pw_decl.proofs.line.declare_premise_of.Goals as goal

pub returns-then-is_some-clause-err : goal.returns-then-is_some-clause-err
returns-then-is_some-clause-err g c =
    let d = declared c.args.declaration.now in
    let named : c.premise.result ≡ place_of_name d.premises c.args.name.now = rw c.as_bytes.ensures.value at c.premise.ensures.number in
    inr (Duplicate, inl (refl, sym (ap is_some named) ∙ sym c.if-is_some.ensures), refl)

pub returns-in_default-clause-err : goal.returns-in_default-clause-err
returns-in_default-clause-err g c =
    let d = declared c.args.declaration.now in
    let named : c.premise.result ≡ place_of_name d.premises c.args.name.now = rw c.as_bytes.ensures.value at c.premise.ensures.number in
    let new : IsSome (place_of_name d.premises c.args.name.now) → ⊥ = λ there. false≢true (c.if-is_some.ensures ∙ ap is_some named ∙ there) in
    inr (Unknown, inr (new, inl (refl, sym c.user.ensures.number ∙ c.in_default.is)), refl)

pub returns-then-premises-most_premises-clause-err : goal.returns-then-premises-most_premises-clause-err
returns-then-premises-most_premises-clause-err g c =
    let d = declared c.args.declaration.now in
    let named : c.premise.result ≡ place_of_name d.premises c.args.name.now = rw c.as_bytes.ensures.value at c.premise.ensures.number in
    let new : IsSome (place_of_name d.premises c.args.name.now) → ⊥ = λ there. false≢true (c.if-is_some.ensures ∙ ap is_some named ∙ there) in
    let at : place_of_name d.users c.args.user.now ≡ Some c.in-Some.owner = sym c.user.ensures.number ∙ c.in-Some.is in
    let known : place_of_name d.users c.args.user.now ≡ None → ⊥ = λ none. let e : Some c.in-Some.owner ≡ None = sym at ∙ none in cc in
    let most : c.most_premises.result ≡ most_premises_under d.version = c.most_premises.ensures.version ∙ ap most_premises_under c.version.ensures in
    let many : most_premises_under d.version ≤ length d.premises = omega (arith, c.premises.ensures.count, most, c.if-premises-most_premises.true) in
    inr (TooMany, inr (new, inr (known, inr ((λ h. h), inl (refl, many)))), refl)

pub add_premise-requires-clause-fresh : goal.add_premise-requires-clause-fresh
add_premise-requires-clause-fresh g c =
    let d = declared c.args.declaration.now in
    let named : c.premise.result ≡ place_of_name d.premises c.args.name.now = rw c.as_bytes.ensures.value at c.premise.ensures.number in
    none_where c.premise.result (place_of_name d.premises c.args.name.now) (sym c.if-is_some.ensures) named

pub add_premise-requires-clause-room : goal.add_premise-requires-clause-room
add_premise-requires-clause-room g c =
    omega (arith, c.premises.ensures.count, c.most_premises.ensures.latest, c.if-premises-most_premises.false)

pub returns-in-Ok-clause-ok : goal.returns-in-Ok-clause-ok
returns-in-Ok-clause-ok g c =
    let d = declared c.args.declaration.now in
    let named : c.premise.result ≡ place_of_name d.premises c.args.name.now = rw c.as_bytes.ensures.value at c.premise.ensures.number in
    let new : IsSome (place_of_name d.premises c.args.name.now) → ⊥ = λ there. false≢true (c.if-is_some.ensures ∙ ap is_some named ∙ there) in
    let at : place_of_name d.users c.args.user.now ≡ Some c.in-Some.owner = sym c.user.ensures.number ∙ c.in-Some.is in
    let known : place_of_name d.users c.args.user.now ≡ None → ⊥ = λ none. let e : Some c.in-Some.owner ≡ None = sym at ∙ none in cc in
    let most : c.most_premises.result ≡ most_premises_under d.version = c.most_premises.ensures.version ∙ ap most_premises_under c.version.ensures in
    let few : most_premises_under d.version ≤ length d.premises → ⊥ = λ many. omega (arith, c.premises.ensures.count, most, c.if-premises-most_premises.false, many) in
    record { faultless = (new, (known, ((λ h. h), (few, tt)))); makes = (c.in-Some.owner, at, ap Outside c.in-Ok.ensures.ok) }

pub returns-in-Err-clause-err : goal.returns-in-Err-clause-err
returns-in-Err-clause-err g c =
    let d = declared c.args.declaration.now in
    let named : c.premise.result ≡ place_of_name d.premises c.args.name.now = rw c.as_bytes.ensures.value at c.premise.ensures.number in
    let new : IsSome (place_of_name d.premises c.args.name.now) → ⊥ = λ there. false≢true (c.if-is_some.ensures ∙ ap is_some named ∙ there) in
    let at : place_of_name d.users c.args.user.now ≡ Some c.in-Some.owner = sym c.user.ensures.number ∙ c.in-Some.is in
    let known : place_of_name d.users c.args.user.now ≡ None → ⊥ = λ none. let e : Some c.in-Some.owner ≡ None = sym at ∙ none in cc in
    let most : c.most_premises.result ≡ most_premises_under d.version = c.most_premises.ensures.version ∙ ap most_premises_under c.version.ensures in
    let few : most_premises_under d.version ≤ length d.premises → ⊥ = λ many. omega (arith, c.premises.ensures.count, most, c.if-premises-most_premises.false, many) in
    inl ((new, (known, ((λ h. h), (few, tt)))), refl)
