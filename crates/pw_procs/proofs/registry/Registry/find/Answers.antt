use Rattle.std.proofs.Common.{◌≡◌, Some, None, length, ap, arith, sym, subst}
use Rattle.std.proofs.lemmas.List.{length-map}
use Rattle.std.specs.Prelude.{slice_get, Contains}
use Rattle.pw_procs.specs.Procedure.{procedure_of}
use Rattle.pw_procs.specs.Registering.{place_of_name}
use Rattle.pw_procs.proofs.RegistryNames.{absent, all_named, at_place}
use Rattle.pw_procs.proofs.registry.Registry.find.Goals as goal

pub returns-in_err-number-clause-none : goal.returns-in_err-number-clause-none
returns-in_err-number-clause-none g c =
    let none = subst (λ l. Contains l c.args.name.now → ⊥) c.args.self.now.named (absent _ c.args.name.now (sym c.in_err-number.ensures.number)) in
    rw c.from_residual.ensures none

pub returns-clause-found : goal.returns-clause-found
returns-clause-found g c =
    subst (λ l. slice_get l c.in_ok-number.number ≡ Some c.args.name.now) c.args.self.now.named
    (at_place _ c.args.name.now c.in_ok-number.number (sym {a = Some c.in_ok-number.number} c.in_ok-number.ensures.number))

pub returns-in_err-number-clause-place : goal.returns-in_err-number-clause-place
returns-in_err-number-clause-place g c =
    rw c.from_residual.ensures
    (subst (λ l. None ≡ place_of_name l c.args.name.now) c.args.self.now.named c.in_err-number.ensures.number)

pub returns-in_err-number-clause-found : goal.returns-in_err-number-clause-found
returns-in_err-number-clause-found g c = rw c.from_residual.ensures tt

pub returns-in_err-number-clause-within : goal.returns-in_err-number-clause-within
returns-in_err-number-clause-within g c = rw c.from_residual.ensures tt

pub overflow_cast-result : goal.overflow_cast-result
overflow_cast-result g c = omega (arith, c.in_ok-number.ensures.within, ap length c.args.self.now.named, c.args.self.now.registered.most)

pub returns-clause-place : goal.returns-clause-place
returns-clause-place g c = subst (λ l. Some c.in_ok-number.number ≡ place_of_name l c.args.name.now) c.args.self.now.named c.in_ok-number.ensures.number

pub returns-clause-within : goal.returns-clause-within
returns-clause-within g c =
    let names = all_named (λ p. p.name) procedure_of c.args.self.now.entries.items in
    omega (arith, c.in_ok-number.ensures.within, ap length c.args.self.now.named, names, length-map c.args.self.now.entries.items procedure_of)
