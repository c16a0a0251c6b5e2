use Rattle.std.proofs.Common.{[], ◌∷◌}
use Rattle.pw_info.specs.declared.kind.Kind.TheVariants as kinds
use Rattle.pw_standard.proofs.procedures.table_of.Goals as goal

pub returns-clause-rules : goal.returns-clause-rules
returns-clause-rules c = c.in_ok-table.ensures.rules (kinds.Interval ∷ []) c.args.output c.requires
