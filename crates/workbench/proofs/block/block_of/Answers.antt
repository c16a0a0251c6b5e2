use Rattle.pw_decl.specs.inside.Fields.{declared}
use Rattle.workbench.proofs.Blocks.{read_is_not_refused}
use Rattle.workbench.proofs.block.block_of.Goals as goal

pub returns-in-Ok-Some-clause-none : goal.returns-in-Ok-Some-clause-none
returns-in-Ok-Some-clause-none g c = read_is_not_refused (declared c.args.declaration.now) c.args.line.now c.in-Ok-Some.field-0 c.in-Ok-Some.ensures.only
