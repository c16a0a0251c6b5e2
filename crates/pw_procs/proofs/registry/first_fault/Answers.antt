use Rattle.std.proofs.Common.{◌≡◌, ◌<◌, ◌≤◌, length, take, arith, sym, ◌∙◌, subst}
use Rattle.std.specs.String.{string_bytes}
use Rattle.std.proofs.lemmas.Bool.Decides.{nat_tests}
use Rattle.std.proofs.lemmas.List.{length-map, take-map}
use Rattle.pw_procs.specs.Procedure.{procedure_of, procedures_of, names_of}
use Rattle.pw_procs.specs.Registering.{AreFreeBelow, IsFaultAfter}
use Rattle.pw_procs.proofs.RegistryNames.{all_named, made_at, free_more, first_is}
use Rattle.pw_procs.proofs.registry.first_fault.Goals as goal

pub returns-in-Some-clause-fault : goal.returns-in-Some-clause-fault
returns-in-Some-clause-fault g c =
    let few : length c.args.entries.now ≤ 64 = grind (arith, nat_tests) in
    let within : c.loop-place.place < length c.args.entries.now = grind (arith, nat_tests) in
    let name : c.as_bytes.result.now ≡ string_bytes c.index-entries-place.result.name = c.as_bytes.ensures.value ∙ c.name.ensures in
    let before = procedures_of (take c.loop-place.place c.args.entries.now) in
    let wrong = subst (λ n. IsFaultAfter (names_of before) n c.in-Some.fault) name c.in-Some.ensures.fault in
    let at = made_at procedure_of _ _ _ within c.index-entries-place.is in
    first_is (λ p. p.name) _ _ _ _ (omega (arith, few, length-map c.args.entries.now procedure_of)) at.0 at.1
    (subst (λ l. IsFaultAfter (names_of l) (string_bytes c.index-entries-place.result.name) c.in-Some.fault) (sym (take-map procedure_of c.loop-place.place c.args.entries.now)) wrong)
    c.loop-place.invariant.free

pub loop-place-preserved : goal.loop-place-preserved
loop-place-preserved g c =
    let within : c.loop-place.place < length c.args.entries.now = grind (arith, nat_tests) in
    let name : c.as_bytes.result.now ≡ string_bytes c.index-entries-place.result.name = c.as_bytes.ensures.value ∙ c.name.ensures in
    let before = procedures_of (take c.loop-place.place c.args.entries.now) in
    let at = made_at procedure_of _ _ _ within c.index-entries-place.is in
    record {
      within = omega (arith, within);
      free = free_more (λ p. p.name) _ _ _ at.0 at.1
          (λ fault wrong. c.in_default.ensures.none fault (subst (λ n. IsFaultAfter (names_of before) n fault) (sym name)
          (subst (λ l. IsFaultAfter (names_of l) (string_bytes c.index-entries-place.result.name) fault) (take-map procedure_of c.loop-place.place c.args.entries.now) wrong)))
          c.loop-place.invariant.free;
    }

pub returns-then-entries-gt-MOST_PROCEDURES-clause-fault : goal.returns-then-entries-gt-MOST_PROCEDURES-clause-fault
returns-then-entries-gt-MOST_PROCEDURES-clause-fault g c = omega (arith, c.if-entries-gt-MOST_PROCEDURES.true, all_named (λ p. p.name) procedure_of c.args.entries.now)

pub loop-place-init : goal.loop-place-init
loop-place-init g c = record { within = omega arith; free = λ k name fault below at wrong. omega (arith, below) }

pub returns-clause-none : goal.returns-clause-none
returns-clause-none g c =
    let names = names_of (procedures_of c.args.entries.now) in
    let long = all_named (λ p. p.name) procedure_of c.args.entries.now in
    let end : c.loop-place.place ≡ length names = omega (arith, c.loop-place-test.false, c.loop-place.invariant.within, long) in
    record { most = omega (arith, c.if-entries-gt-MOST_PROCEDURES.false, long); free = subst (AreFreeBelow names) end c.loop-place.invariant.free }
