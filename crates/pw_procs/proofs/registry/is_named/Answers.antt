use Rattle.std.proofs.Common.{◌≡◌, ◌<◌, length, arith, refl, sym, ◌∙◌}
use Rattle.std.specs.String.{string_bytes}
use Rattle.std.proofs.lemmas.Bool.{false≢true}
use Rattle.std.proofs.lemmas.Bool.Decides.{nat_tests}
use Rattle.std.proofs.lemmas.Slice.Eq.{bytes_eq-Decides}
use Rattle.pw_procs.specs.Procedure.{procedure_of}
use Rattle.pw_procs.proofs.RegistryNames.{made_at, named_here, absent_more}
use Rattle.pw_procs.proofs.registry.is_named.Goals as goal

pub returns-then-eq : goal.returns-then-eq
returns-then-eq g c =
    let within : c.loop-entry.entry-index < length c.args.entries.now = grind (arith, nat_tests) in
    let same : string_bytes c.entry-item.result.name ≡ c.args.name.now =
    sym (c.as_bytes.ensures.value ∙ c.name.ensures) ∙ (bytes_eq-Decides _ _).0 (sym c.eq.ensures ∙ c.if-eq.true) in
    let at = made_at procedure_of _ _ _ within c.entry-item.is in
    (λ t. named_here (λ p. p.name) _ _ _ _ at.0 at.1 same, λ there. refl)

pub loop-entry-preserved : goal.loop-entry-preserved
loop-entry-preserved g c =
    let within : c.loop-entry.entry-index < length c.args.entries.now = grind (arith, nat_tests) in
    let other : string_bytes c.entry-item.result.name ≡ c.args.name.now → ⊥ =
    λ e. false≢true (sym c.if-eq.false ∙ c.eq.ensures ∙ (bytes_eq-Decides _ _).1 (c.as_bytes.ensures.value ∙ c.name.ensures ∙ e)) in
    let at = made_at procedure_of _ _ _ within c.entry-item.is in
    absent_more (λ p. p.name) _ _ _ _ at.0 at.1 other c.loop-entry.invariant
