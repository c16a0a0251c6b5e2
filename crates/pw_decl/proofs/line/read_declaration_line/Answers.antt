use Rattle.std.proofs.Common.{refl}
use Rattle.pw_decl.specs.inside.Fields.{declared}
use Rattle.pw_decl.specs.inside.Fields.{placed}
use Rattle.pw_decl.proofs.line.read_declaration_line.Goals as goal

pub returns-in-Err-clause-err : goal.returns-in-Err-clause-err
returns-in-Err-clause-err g c = c.in-Err.ensures.err (placed (declared c.args.declaration.now) c.args.place)
