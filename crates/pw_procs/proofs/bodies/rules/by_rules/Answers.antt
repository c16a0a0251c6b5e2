use Rattle.std.proofs.Common.{rules, ◌≡◌, arith, sym, ap, ◌∙◌, ◌&&◌, drop}
use Rattle.pw_info.specs.Information.{allows, kind_of}
use Rattle.pw_procs.specs.Rules.{all_include, rules_allow}
use Rattle.pw_procs.proofs.RuleValues.{rule_applies, rule_rests, rules_value}
use Rattle.pw_procs.proofs.bodies.rules.by_rules.Goals as goal
use Rattle.pw_procs.proofs.bodies.rules.by_rules.Goals.{then-applies, else-applies}

pub loop-rule-preserved : goal.loop-rule-preserved
loop-rule-preserved c =
    let known : all_include c.rule-item.result.guards.items c.args.inputs.now ≡ c.applies.result =
    ap (λ guards. all_include guards c.args.inputs.now) (sym c.deref.ensures.value) ∙ sym c.applies.ensures in
    elim c.if-applies.branch [
      | then-applies w ↦ record {
        kind = ap kind_of w.value-is ∙ w.meet-value.ensures.kind ∙ c.loop-rule.invariant.kind;
        values = λ v e. rule_applies c.args.rules.now c.args.inputs.now v c.loop-rule.rule-index c.rule-item.result c.loop-rule.value c.if-applies.value
            (omega arith) c.rule-item.is (c.loop-rule.invariant.values v e) (known ∙ w.if-applies.true)
            (ap (λ i. allows i v) w.value-is ∙ w.meet-value.ensures.values v);
      }
      | else-applies w ↦ record {
        kind = ap kind_of w.value-is ∙ c.loop-rule.invariant.kind;
        values = λ v e. rule_rests c.args.rules.now c.args.inputs.now v c.loop-rule.rule-index c.rule-item.result c.if-applies.value
            (omega arith) c.rule-item.is (c.loop-rule.invariant.values v e ∙ ap (λ i. allows i v && rules_allow (drop c.loop-rule.rule-index c.args.rules.now) c.args.inputs.now v) (sym w.value-is))
            (known ∙ w.if-applies.false);
      }
    ]

pub returns : goal.returns
returns c =
    rules_value c.args.output c.args.rules.now c.args.inputs.now c.loop-rule.value c.loop-rule.rule-index (search rules) (omega arith)
    c.loop-rule.invariant.kind c.loop-rule.invariant.values
