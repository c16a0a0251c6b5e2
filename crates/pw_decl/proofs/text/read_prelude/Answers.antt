use Rattle.pw_decl.specs.inside.Fields.{declared}
use Rattle.pw_decl.proofs.DeclarationSteps.{prelude_declares, prelude_faulty, prelude_clear}
use Rattle.pw_decl.proofs.text.read_prelude.Goals as goal

pub returns-in-Ok-clause-ok : goal.returns-in-Ok-clause-ok
returns-in-Ok-clause-ok g c =
    let d = declared c.args.declaration.now in
    prelude_declares d.procedures d c.prelude.result.now c.requires.nothing c.prelude.ensures.text (declared c.read_lines.new.declaration) c.in-Ok.ensures.ok

pub returns-in-Err-clause-err : goal.returns-in-Err-clause-err
returns-in-Err-clause-err g c =
    let d = declared c.args.declaration.now in
    prelude_faulty d.procedures d c.prelude.result.now c.requires.nothing c.prelude.ensures.text c.in-Err.fault c.in-Err.ensures.err

pub returns-in-Err-clause-memory : goal.returns-in-Err-clause-memory
returns-in-Err-clause-memory g c = λ memory.
    let d = declared c.args.declaration.now in
    prelude_clear d.procedures d c.prelude.result.now c.requires.nothing c.prelude.ensures.text c.in-Err.fault.line (c.in-Err.ensures.memory memory)
