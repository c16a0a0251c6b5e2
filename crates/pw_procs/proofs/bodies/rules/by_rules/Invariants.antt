use Rattle.std.proofs.Common.{◌≡◌, ◌&&◌, ℤ, true, drop}
use Rattle.pw_info.specs.Information.{allows, kind_of, is_value}
use Rattle.pw_procs.specs.Rules.{rules_allow}
use Rattle.pw_procs.proofs.bodies.rules.by_rules.Given as goal

-- what the rules so far leave possible is what the value does
abbrev pub invariant-loop-rule : goal.invariant-loop-rule
invariant-loop-rule l = record {
  kind : kind_of l.value ≡ l.fn.output;
  values : (v : ℤ) → is_value l.fn.output v ≡ true → rules_allow l.rules l.inputs v ≡ (allows l.value v && rules_allow (drop l.rule-index l.rules) l.inputs v);
}
