use Rattle.pw_standard.proofs.Rows.{rows_built_in, table_text}
use Rattle.pw_standard.proofs.procedures.procedure_table.Goals as goal

pub returns-clause-rows : goal.returns-clause-rows
returns-clause-rows c procedures standard = table_text procedures standard

pub returns-clause-compounds : goal.returns-clause-compounds
returns-clause-compounds c d prelude = rows_built_in d prelude
