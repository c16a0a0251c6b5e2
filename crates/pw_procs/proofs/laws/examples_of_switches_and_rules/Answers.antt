use Rattle.pw_procs.proofs.MeaningExamples.{switched_open, switched_closed, rule_applies, rule_waits}
use Rattle.pw_procs.proofs.laws.examples_of_switches_and_rules.Goals as goal

pub returns : goal.returns
returns c = record { switch_true = switched_open; switch_false = switched_closed; rule_applies = rule_applies; rule_waits = rule_waits }
