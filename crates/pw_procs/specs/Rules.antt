-- Meanings given by rules.
use Rattle.std.specs.Prelude.{◌≡◌, ℤ, Bool, true, not, ◌&&◌, ◌||◌, List, [], ◌∷◌, map}
use Rattle.std.specs.Prelude.{if◌then◌else◌}
use Rattle.std.specs.List.{list_all, All}
use Rattle.pw_info.specs.declared.kind.Kind.{Kind}
use Rattle.pw_info.specs.declared.info.Info.{Info}
use Rattle.pw_info.specs.Information.{allows, kind_of, closest, contradiction}
use Rattle.pw_procs.specs.declared.rule.Rule.{Rule}
use Rattle.pw_procs.specs.Values.{some, is_possible}

-- whether a guard includes an input: no possible value of the input lies outside it
abbrev pub includes : Info → Info → Bool
includes guard input = not (some input (λ v. not (allows guard v)))

-- whether each guard includes its input
abbrev pub all_include : List Info → List Info → Bool
all_include [] inputs = true
all_include (guard ∷ guards) [] = true
all_include (guard ∷ guards) (input ∷ inputs) = includes guard input && all_include guards inputs

-- a value stays possible if each rule that applies leaves it possible
abbrev pub rules_allow : List Rule → List Info → ℤ → Bool
rules_allow rules inputs v = list_all (λ rule. not (all_include rule.guards.items inputs)
    || allows rule.result v) rules

-- the value of rules: the common part of the results of all rules that apply; the contradiction if
-- an input is contradictory
abbrev pub value_of_rules : Kind → List Rule → List Info → Info
value_of_rules kind rules inputs = if list_all is_possible inputs then closest kind
    (rules_allow rules inputs) else contradiction kind

-- each rule has one guard for each input, of its kind, and a result of the output's kind
pub record AreRules (inputs : List Kind) (output : Kind) (rules : List Rule) : Type 0 where
  pub guards : All (λ rule. map kind_of rule.guards.items ≡ inputs) rules
  pub results : All (λ rule. kind_of rule.result ≡ output) rules

-- the guards of rules, and their results, in order
abbrev pub guards_of : List Rule → List (List Info)
guards_of rules = map (λ rule. rule.guards.items) rules

abbrev pub results_of : List Rule → List Info
results_of rules = map (λ rule. rule.result) rules

-- rules of one input, of the kinds of this guard and this result
abbrev pub AreRulesLike : Info → Info → List Rule → Type 0
AreRulesLike guard result rules = AreRules (kind_of guard ∷ []) (kind_of result) rules

-- the others are rules of all kinds that these are rules of, and have the same values
abbrev pub AreRulesAsWell : List Rule → List Rule → Type 0
AreRulesAsWell rules others = (inputs : List Kind) (output : Kind) → AreRules inputs output rules →
    AreRules inputs output others

abbrev pub HaveTheSameValues : List Rule → List Rule → Type 0
HaveTheSameValues rules others = (output : Kind) (inputs : List Info) →
    value_of_rules output others inputs ≡ value_of_rules output rules inputs
