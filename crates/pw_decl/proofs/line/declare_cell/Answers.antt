use Rattle.std.proofs.Common.{◌≡◌, ◌≤◌, is_some, length, inl, inr, refl, sym, ap, ◌∙◌, arith}
use Rattle.std.specs.Prelude.{IsSome}
use Rattle.std.proofs.lemmas.Bool.{false≢true}
use Rattle.pw_procs.specs.Registering.{place_of_name}
use Rattle.pw_decl.specs.Declaration.{Outside}
use Rattle.pw_decl.specs.Faults.{Duplicate, TooMany}
use Rattle.pw_decl.specs.Limits.{most_cells}
use Rattle.pw_decl.proofs.line.declare_cell.Goals as goal

pub returns-then-cells-ge-MOST_CELLS-clause-err : goal.returns-then-cells-ge-MOST_CELLS-clause-err
returns-then-cells-ge-MOST_CELLS-clause-err g c =
    let named : c.cell.result ≡ place_of_name c.args.declaration.now.cells c.args.name.now = rw c.as_bytes.ensures.value at c.cell.ensures.number in
    let new : IsSome (place_of_name c.args.declaration.now.cells c.args.name.now) → ⊥ = λ there. false≢true (c.if-is_some.ensures ∙ ap is_some named ∙ there) in
    let many : most_cells ≤ length c.args.declaration.now.cells = omega (arith, c.cells.ensures.count, c.if-cells-ge-MOST_CELLS.true) in
    inr (TooMany, inr (new, inr ((λ none. none c.in-Some.kind c.in-Some.ensures.some), inr ((λ h. h), inl (refl, many)))), refl)

pub returns-in-Ok-clause-ok : goal.returns-in-Ok-clause-ok
returns-in-Ok-clause-ok g c =
    let named : c.cell.result ≡ place_of_name c.args.declaration.now.cells c.args.name.now = rw c.as_bytes.ensures.value at c.cell.ensures.number in
    let new : IsSome (place_of_name c.args.declaration.now.cells c.args.name.now) → ⊥ = λ there. false≢true (c.if-is_some.ensures ∙ ap is_some named ∙ there) in
    record {
      faultless = (new, ((λ none. none c.in-Some.kind c.in-Some.ensures.some), ((λ h. h), ((λ many. omega (arith, c.cells.ensures.count, c.if-cells-ge-MOST_CELLS.false, many)), tt))));
      makes = (c.in-Some.kind, c.in-Some.ensures.some, ap Outside c.in-Ok.ensures.ok);
    }

pub returns-in-Err-clause-err : goal.returns-in-Err-clause-err
returns-in-Err-clause-err g c =
    let named : c.cell.result ≡ place_of_name c.args.declaration.now.cells c.args.name.now = rw c.as_bytes.ensures.value at c.cell.ensures.number in
    let new : IsSome (place_of_name c.args.declaration.now.cells c.args.name.now) → ⊥ = λ there. false≢true (c.if-is_some.ensures ∙ ap is_some named ∙ there) in
    inl ((new, ((λ none. none c.in-Some.kind c.in-Some.ensures.some), ((λ h. h), ((λ many. omega (arith, c.cells.ensures.count, c.if-cells-ge-MOST_CELLS.false, many)), tt)))), refl)

pub returns-then-is_some-clause-err : goal.returns-then-is_some-clause-err
returns-then-is_some-clause-err g c =
    let named : c.cell.result ≡ place_of_name c.args.declaration.now.cells c.args.name.now = rw c.as_bytes.ensures.value at c.cell.ensures.number in
    inr (Duplicate, inl (refl, sym (ap is_some named) ∙ sym c.if-is_some.ensures), refl)
