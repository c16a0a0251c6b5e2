use Rattle.std.proofs.Common.{◌≡◌, ◌≤◌, is_some, length, inl, inr, refl, sym, ap, ◌∙◌, arith}
use Rattle.std.specs.Prelude.{IsSome}
use Rattle.std.proofs.lemmas.Bool.{false≢true}
use Rattle.pw_procs.specs.Registering.{place_of_name}
use Rattle.pw_decl.specs.Declaration.{Outside}
use Rattle.pw_decl.specs.Faults.{Duplicate, TooMany}
use Rattle.pw_decl.specs.Limits.{most_users}
use Rattle.pw_decl.specs.inside.Fields.{declared}
use Rattle.pw_decl.proofs.ParameterLemmas.{none_where}
use Rattle.pw_decl.proofs.line.declare_user.Goals as goal

pub returns-then-is_some-clause-err : goal.returns-then-is_some-clause-err
returns-then-is_some-clause-err g c =
    let d = declared c.args.declaration.now in
    let named : c.user.result ≡ place_of_name d.users c.args.name.now = rw c.as_bytes.ensures.value at c.user.ensures.number in
    inr (Duplicate, inl (refl, sym (ap is_some named) ∙ sym c.if-is_some.ensures), refl)

pub returns-then-users-ge-MOST_USERS-clause-err : goal.returns-then-users-ge-MOST_USERS-clause-err
returns-then-users-ge-MOST_USERS-clause-err g c =
    let d = declared c.args.declaration.now in
    let named : c.user.result ≡ place_of_name d.users c.args.name.now = rw c.as_bytes.ensures.value at c.user.ensures.number in
    let new : IsSome (place_of_name d.users c.args.name.now) → ⊥ = λ there. false≢true (c.if-is_some.ensures ∙ ap is_some named ∙ there) in
    let many : most_users ≤ length d.users = omega (arith, c.users.ensures.count, c.if-users-ge-MOST_USERS.true) in
    inr (TooMany, inr (new, inr ((λ h. h), inr ((λ h. h), inl (refl, many)))), refl)

pub add_user-requires-clause-fresh : goal.add_user-requires-clause-fresh
add_user-requires-clause-fresh g c =
    let d = declared c.args.declaration.now in
    let named : c.user.result ≡ place_of_name d.users c.args.name.now = rw c.as_bytes.ensures.value at c.user.ensures.number in
    none_where c.user.result (place_of_name d.users c.args.name.now) (sym c.if-is_some.ensures) named

pub add_user-requires-clause-room : goal.add_user-requires-clause-room
add_user-requires-clause-room g c =
    omega (arith, c.users.ensures.count, c.if-users-ge-MOST_USERS.false)

pub returns-in-Ok-clause-ok : goal.returns-in-Ok-clause-ok
returns-in-Ok-clause-ok g c =
    let d = declared c.args.declaration.now in
    let named : c.user.result ≡ place_of_name d.users c.args.name.now = rw c.as_bytes.ensures.value at c.user.ensures.number in
    let new : IsSome (place_of_name d.users c.args.name.now) → ⊥ = λ there. false≢true (c.if-is_some.ensures ∙ ap is_some named ∙ there) in
    let few : most_users ≤ length d.users → ⊥ = λ many. omega (arith, c.users.ensures.count, c.if-users-ge-MOST_USERS.false, many) in
    record { faultless = (new, ((λ h. h), ((λ h. h), (few, tt)))); makes = ap Outside c.in-Ok.ensures.ok }

pub returns-in-Err-clause-err : goal.returns-in-Err-clause-err
returns-in-Err-clause-err g c =
    let d = declared c.args.declaration.now in
    let named : c.user.result ≡ place_of_name d.users c.args.name.now = rw c.as_bytes.ensures.value at c.user.ensures.number in
    let new : IsSome (place_of_name d.users c.args.name.now) → ⊥ = λ there. false≢true (c.if-is_some.ensures ∙ ap is_some named ∙ there) in
    let few : most_users ≤ length d.users → ⊥ = λ many. omega (arith, c.users.ensures.count, c.if-users-ge-MOST_USERS.false, many) in
    inl ((new, ((λ h. h), ((λ h. h), (few, tt)))), refl)
