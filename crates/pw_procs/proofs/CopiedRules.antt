-- Rules that are alike, one by one, mean the same.
use Rattle.std.proofs.Common.{◌≡◌, ◌<◌, ℕ, ℤ, length, slice_index_or, subst, not, ◌||◌, List, [], ◌∷◌, ◌++◌, map, refl, sym, ap, ◌∙◌}
use Rattle.std.specs.List.{AllZip}
use Rattle.std.proofs.Math.Path.{fun_ext}
use Rattle.std.proofs.lemmas.List.Elements.{AllZip-get_or, All-push, length_all_zip}
use Rattle.pw_info.specs.declared.kind.Kind.{Kind}
use Rattle.pw_info.specs.declared.info.Info.{Info}
use Rattle.pw_info.specs.Information.{allows, kind_of}
use Rattle.pw_procs.specs.declared.rule.Rule.{Rule}
use Rattle.pw_procs.specs.Rules.{AreRules, all_include, rules_allow, value_of_rules}

-- a rule with these guards and this result
abbrev pub IsCopy : Rule → Rule → Type 0
IsCopy rule copy = (copy.guards.items ≡ rule.guards.items) × (copy.result ≡ rule.result)

-- copies leave the same values possible
pub copies_allow : (rules copies : List Rule) → AllZip IsCopy rules copies → (inputs : List Info) (v : ℤ) → rules_allow copies inputs v ≡ rules_allow rules inputs v
copies_allow [] [] same inputs v = refl
copies_allow [] (copy ∷ copies) same inputs v = absurd same
copies_allow (rule ∷ rules) [] same inputs v = absurd same
copies_allow (rule ∷ rules) (copy ∷ copies) (here, rest) inputs v =
    let head : (not (all_include copy.guards.items inputs) || allows copy.result v) ≡ (not (all_include rule.guards.items inputs) || allows rule.result v) = ap (λ guards. not (all_include guards inputs) || allows copy.result v) here.0 ∙ ap (λ result. not (all_include rule.guards.items inputs) || allows result v) here.1 in
    let tail : rules_allow copies inputs v ≡ rules_allow rules inputs v = copies_allow rules copies rest inputs v in
    cc

-- copies have the value of the rules
pub copies_value : (rules copies : List Rule) → AllZip IsCopy rules copies → (output : Kind) (inputs : List Info) → value_of_rules output copies inputs ≡ value_of_rules output rules inputs
copies_value rules copies same output inputs =
    let allow : rules_allow copies inputs ≡ rules_allow rules inputs = fun_ext (copies_allow rules copies same inputs) in
    cc

-- a rule that is copied and its copy are at one place
copy_at : (rules copies : List Rule) → AllZip IsCopy rules copies → (k : ℕ) (d : Rule) → k < length copies → (k < length rules) × IsCopy (slice_index_or rules k d) (slice_index_or copies k d)
copy_at rules copies same k d below =
    let here : k < length rules = subst (λ n. k < n) (sym (length_all_zip IsCopy rules copies same)) below in
    (here, AllZip-get_or IsCopy rules copies k d d same here)

-- copies have the kinds of the rules
pub copies_are_rules : (rules copies : List Rule) → AllZip IsCopy rules copies → (inputs : List Kind) (output : Kind) → AreRules inputs output rules → AreRules inputs output copies
copies_are_rules rules copies same inputs output are = record {
  guards = λ k d below. let (here, copy) = copy_at rules copies same k d below in ap (map kind_of) copy.0 ∙ are.guards k d here;
  results = λ k d below. let (here, copy) = copy_at rules copies same k d below in ap kind_of copy.1 ∙ are.results k d here;
}

-- one more rule of the same kinds
pub one_more_rule : (inputs : List Kind) (output : Kind) (rules : List Rule) (rule : Rule) → AreRules inputs output rules → map kind_of rule.guards.items ≡ inputs → kind_of rule.result ≡ output → AreRules inputs output (rules ++ rule ∷ [])
one_more_rule inputs output rules rule are guards result = record {
  guards = All-push (λ r. map kind_of r.guards.items ≡ inputs) rules rule are.guards guards;
  results = All-push (λ r. kind_of r.result ≡ output) rules rule are.results result;
}
