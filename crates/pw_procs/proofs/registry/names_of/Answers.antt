use Rattle.std.proofs.Common.{◌<◌, ◌∙◌, length, ap, arith, sym, take_all}
use Rattle.std.proofs.lemmas.List.{length-map}
use Rattle.std.proofs.lemmas.Bool.Decides.{nat_tests}
use Rattle.pw_procs.specs.Procedure.{procedure_of, procedures_of, names_of}
use Rattle.pw_procs.proofs.RegistryNames.{made_at, one_more, is_new}
use Rattle.pw_procs.proofs.registry.names_of.Goals as goal

pub add-requires : goal.add-requires
add-requires g c =
    let within : c.loop-entry.entry-index < length c.args.entries.now = grind (arith, nat_tests) in
    let at = made_at procedure_of _ _ _ within c.entry-item.is in
    rw (c.loop-entry.invariant, c.name.ensures) (is_new (λ p. p.name) _ _ _ at.0 at.1 c.requires)

pub loop-entry-preserved : goal.loop-entry-preserved
loop-entry-preserved g c =
    let within : c.loop-entry.entry-index < length c.args.entries.now = grind (arith, nat_tests) in
    let at = made_at procedure_of _ _ _ within c.entry-item.is in
    rw (c.in_ok-add.ensures.ok, c.loop-entry.invariant, c.name.ensures) (sym (one_more (λ p. p.name) _ _ _ at.0 at.1))

pub loop-entry-init : goal.loop-entry-init
loop-entry-init g c = c.new-names.ensures

pub returns : goal.returns
returns g c =
    let all = take_all c.loop-entry.entry-index (procedures_of c.args.entries.now) (omega (arith, c.loop-entry-test.false, length-map c.args.entries.now procedure_of)) in
    c.loop-entry.invariant ∙ ap names_of all
