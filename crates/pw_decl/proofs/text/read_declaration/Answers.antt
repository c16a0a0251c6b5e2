use Rattle.std.proofs.Common.{◌≡◌}
use Rattle.pw_procs.specs.Registry.{procedures_in}
use Rattle.pw_decl.specs.declared.decl_fault.DeclFaultKind.TheVariants.{Memory}
use Rattle.pw_decl.specs.BuiltIn.{HasPrelude}
use Rattle.pw_decl.specs.Faults.{SpellsDeclaration, IsReported, HasNoFaultUpTo}
use Rattle.pw_decl.specs.inside.Fields.{declared}
use Rattle.pw_decl.proofs.DeclarationSteps.{done_to, err_to, ok_to, and_ok, and_err, over, only_declaration, only_fault}
use Rattle.pw_decl.proofs.PreludeLaw.{spelled_prelude}
use Rattle.pw_decl.proofs.text.read_declaration.Goals as goal

-- a declaration is read

pub returns-clause-ok : goal.returns-clause-ok
returns-clause-ok g c =
    let ps = procedures_in c.args.registry.now in
    let read = c.read_text.new.declaration in
    and_ok c.read_text.result read c.and.result c.and.ensures (λ d. SpellsDeclaration ps c.args.text.now (declared d))
    (done_to _ _
    (λ spells. over (λ ps. SpellsDeclaration ps c.args.text.now (declared read)) (declared c.new-declaration.result) ps c.new-declaration.ensures spells)
    c.read_text.result c.read_text.ensures.ok)

pub returns-clause-prelude : goal.returns-clause-prelude
returns-clause-prelude g c =
    ok_to _ (λ d. HasPrelude (declared d)) (λ d spells. spelled_prelude (procedures_in c.args.registry.now) c.args.text.now (declared d) spells)
    c.and.result (returns-clause-ok g c)

-- a fault is reported

pub returns-clause-err : goal.returns-clause-err
returns-clause-err g c =
    let ps = procedures_in c.args.registry.now in
    and_err c.read_text.result c.read_text.new.declaration c.and.result c.and.ensures (IsReported ps c.args.text.now)
    (err_to _ _
    (λ fault told. over (λ ps. IsReported ps c.args.text.now fault) (declared c.new-declaration.result) ps c.new-declaration.ensures told)
    c.read_text.result c.read_text.ensures.err)

pub returns-clause-memory : goal.returns-clause-memory
returns-clause-memory g c =
    let ps = procedures_in c.args.registry.now in
    and_err c.read_text.result c.read_text.new.declaration c.and.result c.and.ensures
    (λ fault. fault.why ≡ Memory → HasNoFaultUpTo ps c.args.text.now fault.line)
    (err_to _ _
    (λ fault clear memory. over (λ ps. HasNoFaultUpTo ps c.args.text.now fault.line) (declared c.new-declaration.result) ps c.new-declaration.ensures
    (clear memory))
    c.read_text.result c.read_text.ensures.memory)

-- and the converse

pub returns-clause-only_ok : goal.returns-clause-only_ok
returns-clause-only_ok g c =
    only_declaration (procedures_in c.args.registry.now) c.args.text.now c.and.result (returns-clause-ok g c) (returns-clause-err g c)

pub returns-clause-only_fault : goal.returns-clause-only_fault
returns-clause-only_fault g c =
    only_fault (procedures_in c.args.registry.now) c.args.text.now c.and.result (returns-clause-ok g c) (returns-clause-err g c)
