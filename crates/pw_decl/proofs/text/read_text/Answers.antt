use Rattle.std.proofs.Common.{refl}
use Rattle.pw_decl.specs.inside.Fields.{declared}
use Rattle.pw_decl.proofs.DeclarationSteps.{done_to, err_to, told_of_prelude, clear_in_prelude, told_of_text, clear_in_text, text_spells}
use Rattle.pw_decl.proofs.text.read_text.Goals as goal

pub read_lines-requires : goal.read_lines-requires
read_lines-requires g c = record { kept = tt; short = c.requires.short }

pub returns-in-Err-clause-err : goal.returns-in-Err-clause-err
returns-in-Err-clause-err g c =
    told_of_prelude (declared c.args.declaration.now).procedures c.args.text.now c.requires.short (record { line = 0; why = c.in-Err.why }) refl c.in-Err.ensures.err

pub returns-in-Err-clause-memory : goal.returns-in-Err-clause-memory
returns-in-Err-clause-memory g c = λ memory.
    clear_in_prelude (declared c.args.declaration.now).procedures c.args.text.now c.requires.short 0 refl (c.in-Err.ensures.memory memory)

pub returns-clause-ok : goal.returns-clause-ok
returns-clause-ok g c =
    let ps = (declared c.args.declaration.now).procedures in
    let known = declared c.read_prelude.new.declaration in
    done_to _ _
    (λ leads. text_spells ps c.args.text.now c.requires.short known (declared c.read_lines.new.declaration) c.in_default.ensures.ok leads)
    c.read_lines.result c.read_lines.ensures.ok

pub returns-clause-err : goal.returns-clause-err
returns-clause-err g c =
    let ps = (declared c.args.declaration.now).procedures in
    let known = declared c.read_prelude.new.declaration in
    err_to _ _
    (λ fault told. told_of_text ps c.args.text.now c.requires.short known fault c.in_default.ensures.ok told)
    c.read_lines.result c.read_lines.ensures.err

pub returns-clause-memory : goal.returns-clause-memory
returns-clause-memory g c =
    let ps = (declared c.args.declaration.now).procedures in
    let known = declared c.read_prelude.new.declaration in
    err_to _ _
    (λ fault clear memory. clear_in_text ps c.args.text.now c.requires.short known fault.line c.in_default.ensures.ok (clear memory))
    c.read_lines.result c.read_lines.ensures.memory
