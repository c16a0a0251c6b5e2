-- Rules, walked through one by one.
use Rattle.std.proofs.Common.{◌≡◌, ℕ, ℤ, ◌+◌, ◌<◌, ◌≤◌, Bool, true, false, not, ◌&&◌, ◌||◌, List, length, map, drop, add-one, arith, refl, sym, ◌∙◌, ap, subst, inl, inr}
use Rattle.std.proofs.Math.Seq.{drop-cons}
use Rattle.std.proofs.Math.ListN.{get_or}
use Rattle.std.proofs.lemmas.List.{drop_all, length-map, get_or-map}
use Rattle.std.proofs.lemmas.Bool.{cases_Bool}
use Rattle.std.specs.List.{list_all}
use Rattle.pw_kinds.proofs.Order.{is_false, not_both}
use Rattle.pw_info.specs.declared.kind.Kind.{Kind}
use Rattle.pw_info.specs.declared.info.Info.{Info}
use Rattle.pw_info.specs.Information.{allows, kind_of, is_value, closest, Implies, IsContradiction}
use Rattle.pw_info.proofs.Informations as informations
use Rattle.pw_procs.specs.declared.rule.Rule.{Rule}
use Rattle.pw_procs.specs.Values.{some, is_possible}
use Rattle.pw_procs.specs.Rules.{includes, all_include, rules_allow, value_of_rules}
use Rattle.pw_procs.proofs.Possible.{true_some, none_some, contradiction_none}
use Rattle.pw_procs.proofs.TruthSets.{possible as is_possible_true}

-- ---- guards

-- a guard includes an input that implies it
implies_includes : (guard input : Info) → Implies input guard → includes guard input ≡ true
implies_includes guard input implied =
    ap not (none_some input (λ v. not (allows guard v)) (λ v here passes. not_both _ passes (ap not (implied v here))))

-- an input that a guard includes implies it
includes_implies : (guard input : Info) → includes guard input ≡ true → Implies input guard
includes_implies guard input e v here = elim (cases_Bool (allows guard v)) [
  | inl there ↦ there
  | inr nowhere ↦ (
      let outside : some input (λ w. not (allows guard w)) ≡ true = true_some input (λ w. not (allows guard w)) v here (ap not nowhere) in
      absurd (not_both _ e (ap not outside)))
]

-- a guard does not include an input that does not imply it
not_included : (guard input : Info) → (Implies input guard → ⊥) → includes guard input ≡ false
not_included guard input apart = is_false _ (λ e. apart (includes_implies guard input e))

-- guards that have the kinds of the inputs are as many
same_count : (guards inputs : List Info) → map kind_of guards ≡ map kind_of inputs → length guards ≡ length inputs
same_count guards inputs kinds = sym (length-map guards kind_of) ∙ ap length kinds ∙ length-map inputs kind_of

-- the guard and the input at one place have one kind
pub same_kinds : (guards inputs : List Info) (place : ℕ) (guard input : Info) → map kind_of guards ≡ map kind_of inputs → place < length inputs
    → guard ≡ get_or guards place guard → input ≡ get_or inputs place input → kind_of input ≡ kind_of guard
same_kinds guards inputs place guard input kinds here p q =
    let count : length guards ≡ length inputs = same_count guards inputs kinds in
    let there : place < length guards = omega arith in
    ap kind_of q ∙ sym (get_or-map kind_of inputs place input (kind_of input) here)
    ∙ ap (λ ks. get_or ks place (kind_of input)) (sym kinds)
    ∙ get_or-map kind_of guards place guard (kind_of input) there ∙ ap kind_of (sym p)

-- the guards from a place on: the one there, and those behind it
from_place : (guards inputs : List Info) (place : ℕ) (guard input : Info) → map kind_of guards ≡ map kind_of inputs → place < length inputs
    → guard ≡ get_or guards place guard → input ≡ get_or inputs place input
    → all_include (drop place guards) (drop place inputs) ≡ (includes guard input && all_include (drop (place + 1) guards) (drop (place + 1) inputs))
from_place guards inputs place guard input kinds here p q =
    let count : length guards ≡ length inputs = same_count guards inputs kinds in
    let there : place < length guards = omega arith in
    rw (add-one, drop-cons guards place guard, drop-cons inputs place input, ← p, ← q) refl

-- a guard that its input does not imply decides
pub guard_fails : (guards inputs : List Info) (place : ℕ) (guard input : Info) → map kind_of guards ≡ map kind_of inputs → place < length inputs
    → guard ≡ get_or guards place guard → input ≡ get_or inputs place input
    → all_include guards inputs ≡ all_include (drop place guards) (drop place inputs) → (Implies input guard → ⊥)
    → false ≡ all_include guards inputs
guard_fails guards inputs place guard input kinds here p q so_far apart =
    sym (so_far ∙ from_place guards inputs place guard input kinds here p q ∙ ap (λ b. b && all_include (drop (place + 1) guards) (drop (place + 1) inputs)) (not_included guard input apart))

-- a guard that its input implies leaves it to those behind
pub guard_passes : (guards inputs : List Info) (place : ℕ) (guard input : Info) → map kind_of guards ≡ map kind_of inputs → place < length inputs
    → guard ≡ get_or guards place guard → input ≡ get_or inputs place input
    → all_include guards inputs ≡ all_include (drop place guards) (drop place inputs) → Implies input guard
    → all_include guards inputs ≡ all_include (drop (place + 1) guards) (drop (place + 1) inputs)
guard_passes guards inputs place guard input kinds here p q so_far implied =
    so_far ∙ from_place guards inputs place guard input kinds here p q ∙ ap (λ b. b && all_include (drop (place + 1) guards) (drop (place + 1) inputs)) (implies_includes guard input implied)

-- ---- inputs

-- the inputs from a place on: the one there, and those behind it
from_input : (inputs : List Info) (place : ℕ) (input : Info) → place < length inputs → input ≡ get_or inputs place input
    → list_all is_possible (drop place inputs) ≡ (is_possible input && list_all is_possible (drop (place + 1) inputs))
from_input inputs place input here q = rw (add-one, drop-cons inputs place input, ← q) refl

-- an input that is contradictory decides
pub input_fails : (inputs : List Info) (place : ℕ) (input : Info) → place < length inputs → input ≡ get_or inputs place input
    → list_all is_possible inputs ≡ list_all is_possible (drop place inputs) → IsContradiction input → false ≡ list_all is_possible inputs
input_fails inputs place input here q so_far none =
    sym (so_far ∙ from_input inputs place input here q ∙ ap (λ b. b && list_all is_possible (drop (place + 1) inputs)) (contradiction_none input none (λ v. true)))

-- an input that is not contradictory leaves it to those behind
pub input_passes : (inputs : List Info) (place : ℕ) (input : Info) → place < length inputs → input ≡ get_or inputs place input
    → list_all is_possible inputs ≡ list_all is_possible (drop place inputs) → (IsContradiction input → ⊥)
    → list_all is_possible inputs ≡ list_all is_possible (drop (place + 1) inputs)
input_passes inputs place input here q so_far possible =
    so_far ∙ from_input inputs place input here q ∙ ap (λ b. b && list_all is_possible (drop (place + 1) inputs)) (is_possible_true input possible)

-- ---- rules

-- a test beside one that always passes
pub and_true : (a : Bool) → (a && true) ≡ a
and_true true = refl
and_true false = refl

-- the rules from a place on: the one there, and those behind it
from_rule : (rules : List Rule) (inputs : List Info) (v : ℤ) (place : ℕ) (rule : Rule) → place < length rules → rule ≡ get_or rules place rule
    → rules_allow (drop place rules) inputs v ≡ ((not (all_include rule.guards.items inputs) || allows rule.result v) && rules_allow (drop (place + 1) rules) inputs v)
from_rule rules inputs v place rule here q = rw (add-one, drop-cons rules place rule, ← q) refl

-- a rule that applies leaves possible what its result and the rules before it do
pub rule_applies : (rules : List Rule) (inputs : List Info) (v : ℤ) (place : ℕ) (rule : Rule) (value next : Info) → place < length rules → rule ≡ get_or rules place rule
    → rules_allow rules inputs v ≡ (allows value v && rules_allow (drop place rules) inputs v)
    → all_include rule.guards.items inputs ≡ true → allows next v ≡ (allows value v && allows rule.result v)
    → rules_allow rules inputs v ≡ (allows next v && rules_allow (drop (place + 1) rules) inputs v)
rule_applies rules inputs v place rule value next here q so_far applies both =
    so_far
    ∙ ap (λ b. allows value v && b) (from_rule rules inputs v place rule here q
    ∙ ap (λ b. (not b || allows rule.result v) && rules_allow (drop (place + 1) rules) inputs v) applies)
    ∙ sym (informations.and_assoc (allows value v) (allows rule.result v) (rules_allow (drop (place + 1) rules) inputs v))
    ∙ ap (λ b. b && rules_allow (drop (place + 1) rules) inputs v) (sym both)

-- a rule that does not apply says nothing
pub rule_rests : (rules : List Rule) (inputs : List Info) (v : ℤ) (place : ℕ) (rule : Rule) (value : Info) → place < length rules → rule ≡ get_or rules place rule
    → rules_allow rules inputs v ≡ (allows value v && rules_allow (drop place rules) inputs v)
    → all_include rule.guards.items inputs ≡ false
    → rules_allow rules inputs v ≡ (allows value v && rules_allow (drop (place + 1) rules) inputs v)
rule_rests rules inputs v place rule value here q so_far rests =
    so_far
    ∙ ap (λ b. allows value v && b) (from_rule rules inputs v place rule here q
    ∙ ap (λ b. (not b || allows rule.result v) && rules_allow (drop (place + 1) rules) inputs v) rests)

-- what leaves possible exactly what all rules do is their value
pub rules_value : (kind : Kind) (rules : List Rule) (inputs : List Info) (value : Info) (place : ℕ) → list_all is_possible inputs ≡ true → length rules ≤ place → kind_of value ≡ kind
    → ((v : ℤ) → is_value kind v ≡ true → rules_allow rules inputs v ≡ (allows value v && rules_allow (drop place rules) inputs v))
    → value ≡ value_of_rules kind rules inputs
rules_value kind rules inputs value place possible passed is_kind same =
    let closest' : value ≡ closest (kind_of value) (rules_allow rules inputs) =
    informations.closest_is (rules_allow rules inputs) value (λ v e.
    let e' : is_value kind v ≡ true = subst (λ (k : Kind). is_value k v ≡ true) is_kind e in
    sym (same v e' ∙ ap (λ rest. allows value v && rules_allow rest inputs v) (drop_all place rules passed) ∙ and_true (allows value v))) in
    rw possible (closest' ∙ ap (λ k. closest k (rules_allow rules inputs)) is_kind)
