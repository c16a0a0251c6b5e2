use Rattle.std.proofs.Common.{◌≡◌, ◌≢◌, ◌+◌, ◌≤◌, is_some, [], length, inl, inr, refl, sym, ap, ◌∙◌, arith}
use Rattle.std.specs.List.{IsDistinct}
use Rattle.std.specs.Str.{bytes_eq}
use Rattle.std.proofs.lemmas.Bool.{false≢true}
use Rattle.pw_info.specs.Words.{is_nil}
use Rattle.pw_decl.specs.Declaration.{callable_named, parameter_kinds, parameter_names}
use Rattle.pw_decl.specs.inside.Fields.{declared}
use Rattle.pw_decl.proofs.CompoundLemmas.{faultless_begin, begin_duplicate, begin_wrong, begin_unknown, begin_limit}
use Rattle.pw_decl.proofs.ParameterLemmas.{HaveKinds, nil_where, none_where}
use Rattle.pw_decl.proofs.compound_line.begin_fault.Goals.{then-is_full-via-then-is_full, then-is_full-via-else-is_full+then-count_parameters-gt-MOST_PARAMETERS}
use Rattle.pw_decl.proofs.compound_line.begin_fault.Goals.{then-is_some-via-then-is_some, then-is_some-via-else-is_some+then-not-parameters_differ}
use Rattle.pw_decl.specs.Limits.{most_compounds}
use Rattle.pw_decl.specs.Prelude.{prelude_compounds}
use Rattle.pw_decl.proofs.compound_line.begin_fault.Goals as goal

pub returns-then-not-have_kinds-clause-some : goal.returns-then-not-have_kinds-clause-some
returns-then-not-have_kinds-clause-some g c =
    let d = declared c.args.declaration.now in
    let fresh = none_where c.callable.result (callable_named d c.args.name.now) (sym c.if-is_some.ensures) (rw c.as_bytes.ensures.value at c.callable.ensures.named) in
    let differ : IsDistinct bytes_eq (parameter_names c.args.parameters) = (rw c.again.ensures at c.if-not-parameters_differ.ensures).0 refl in
    let known = rw c.again-2.ensures at c.if-not-have_kinds.ensures in
    begin_unknown d c.args.name.now c.args.parameters fresh differ (λ there. false≢true (known.1 there))

pub returns-then-is_full-clause-some : goal.returns-then-is_full-clause-some
returns-then-is_full-clause-some g c =
    let d = declared c.args.declaration.now in
    let fresh = none_where c.callable.result (callable_named d c.args.name.now) (sym c.if-is_some.ensures) (rw c.as_bytes.ensures.value at c.callable.ensures.named) in
    let differ : IsDistinct bytes_eq (parameter_names c.args.parameters) = (rw c.again.ensures at c.if-not-parameters_differ.ensures).0 refl in
    let known : HaveKinds d (parameter_kinds c.args.parameters) = (rw c.again-2.ensures at c.if-not-have_kinds.ensures).0 refl in
    let some : c.args.parameters ≢ [] = λ none. false≢true (c.if-is_empty.ensures ∙ ap is_nil none) in
    elim c.then-is_full.branch [
      | then-is_full-via-then-is_full w ↦
          begin_limit d c.args.name.now c.args.parameters fresh differ known some (inl (w.if-is_full.ensures.0 refl))
      | then-is_full-via-else-is_full+then-count_parameters-gt-MOST_PARAMETERS w ↦
          begin_limit d c.args.name.now c.args.parameters fresh differ known some (inr (omega (arith, ap (λ x. length (parameter_names x)) w.again-else-is_full.ensures)))
    ]

pub returns-clause-none : goal.returns-clause-none
returns-clause-none g c =
    let d = declared c.args.declaration.now in
    let fresh = none_where c.callable.result (callable_named d c.args.name.now) (sym c.if-is_some.ensures) (rw c.as_bytes.ensures.value at c.callable.ensures.named) in
    let differ : IsDistinct bytes_eq (parameter_names c.args.parameters) = (rw c.again.ensures at c.if-not-parameters_differ.ensures).0 refl in
    let known : HaveKinds d (parameter_kinds c.args.parameters) = (rw c.again-2.ensures at c.if-not-have_kinds.ensures).0 refl in
    let some : c.args.parameters ≢ [] = λ none. false≢true (c.if-is_empty.ensures ∙ ap is_nil none) in
    faultless_begin d c.args.name.now c.args.parameters fresh differ known some
    (λ full. false≢true (c.if-is_full.ensures.1 full))
    (omega (arith, ap (λ x. length (parameter_names x)) c.again-else-is_full.ensures))

pub returns-clause-fresh : goal.returns-clause-fresh
returns-clause-fresh g c = none_where c.callable.result (callable_named (declared c.args.declaration.now) c.args.name.now) (sym c.if-is_some.ensures) (rw c.as_bytes.ensures.value at c.callable.ensures.named)

pub returns-clause-distinct : goal.returns-clause-distinct
returns-clause-distinct g c = (rw c.again.ensures at c.if-not-parameters_differ.ensures).0 refl

pub returns-clause-known : goal.returns-clause-known
returns-clause-known g c = (rw c.again-2.ensures at c.if-not-have_kinds.ensures).0 refl

pub returns-clause-few : goal.returns-clause-few
returns-clause-few g c = omega (arith, ap (λ x. length (parameter_names x)) c.again-else-is_full.ensures)

pub returns-then-is_some-clause-some : goal.returns-then-is_some-clause-some
returns-then-is_some-clause-some g c =
    let d = declared c.args.declaration.now in
    let named : c.callable.result ≡ callable_named d c.args.name.now = rw c.as_bytes.ensures.value at c.callable.ensures.named in
    elim c.then-is_some.branch [
      | then-is_some-via-then-is_some w ↦ begin_duplicate d c.args.name.now c.args.parameters (inl (sym (ap is_some named) ∙ sym w.if-is_some.ensures))
      | then-is_some-via-else-is_some+then-not-parameters_differ w ↦
          begin_duplicate d c.args.name.now c.args.parameters (inr (λ differ. false≢true ((rw w.again.ensures at w.if-not-parameters_differ.ensures).1 differ)))
    ]

pub returns-then-is_empty-clause-some : goal.returns-then-is_empty-clause-some
returns-then-is_empty-clause-some g c =
    let d = declared c.args.declaration.now in
    let fresh = none_where c.callable.result (callable_named d c.args.name.now) (sym c.if-is_some.ensures) (rw c.as_bytes.ensures.value at c.callable.ensures.named) in
    let differ : IsDistinct bytes_eq (parameter_names c.args.parameters) = (rw c.again.ensures at c.if-not-parameters_differ.ensures).0 refl in
    let known : HaveKinds d (parameter_kinds c.args.parameters) = (rw c.again-2.ensures at c.if-not-have_kinds.ensures).0 refl in
    begin_wrong d c.args.name.now c.args.parameters fresh differ known (nil_where c.args.parameters (sym c.if-is_empty.ensures))

pub returns-clause-room : goal.returns-clause-room
returns-clause-room g c =
    let room : prelude_compounds + most_compounds ≤ length (declared c.args.declaration.now).compounds → ⊥ = λ full. false≢true (c.if-is_full.ensures.1 full) in
    omega (arith, room)
