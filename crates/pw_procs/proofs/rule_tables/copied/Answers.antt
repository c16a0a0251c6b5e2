use Rattle.pw_procs.proofs.CopiedRules.{copies_are_rules, copies_value}
use Rattle.pw_procs.proofs.rule_tables.copied.Goals as goal

pub returns-clause-rules : goal.returns-clause-rules
returns-clause-rules c = copies_are_rules _ _ c.in_ok-copy.ensures.ok

pub returns-clause-value : goal.returns-clause-value
returns-clause-value c = copies_value _ _ c.in_ok-copy.ensures.ok
