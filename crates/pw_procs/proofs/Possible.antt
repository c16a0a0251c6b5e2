-- What passes among possible values.
use Rattle.std.proofs.Common.{◌≡◌, ℤ, pos, negsuc, ◌≤ℤ◌, ◌≤◌, ◌<◌, Bool, true, false, ◌&&◌, Option, Some, None, arith, refl, sym, ◌∙◌}
use Rattle.std.specs.Option.{is_some}
use Rattle.std.proofs.lemmas.Int.{ints}
use Rattle.pw_kinds.specs.Ranges.{interval_lowest, interval_highest, exact_lowest, exact_highest, exact_numbers}
use Rattle.pw_kinds.specs.declared.members.Members.{Members}
use Rattle.pw_kinds.specs.Members.{size_of}
use Rattle.pw_kinds.proofs.Order.{both_true, true_both, same_test, is_false, not_both}
use Rattle.pw_kinds.proofs.Searches.{IsLeast, least_is}
use Rattle.pw_kinds.proofs.Intervals as intervals
use Rattle.pw_kinds.proofs.MemberSets as sets
use Rattle.pw_kinds.proofs.Exacts as exacts
use Rattle.pw_info.specs.declared.info.Info.{Info}
use Rattle.pw_info.specs.declared.info.Info.TheVariants as info
use Rattle.pw_info.specs.Information.{allows, Implies, IsContradiction}
use Rattle.pw_procs.specs.Values.{some, is_possible}

-- a place of a set is a number in the widest range
place_in_range : (m : Members) (v : ℤ) → allows (info.Members 0 m) v ≡ true → (exact_lowest ≤ℤ v) × (v ≤ℤ exact_highest)
place_in_range m (pos k) e =
    let below : k < size_of m = sets.allows_below m k e in
    let most : size_of m ≤ 128 = (sets.size_is m).1 in
    (omega (arith, ints), omega (arith, ints))
place_in_range m (negsuc k) e = absurd (cc)

-- what is possible lies in the widest range of the kinds
pub allows_in_range : (a : Info) (v : ℤ) → allows a v ≡ true → (exact_lowest ≤ℤ v) × (v ≤ℤ exact_highest)
allows_in_range (info.Interval i) v e = let range : (interval_lowest ≤ℤ v) × (v ≤ℤ interval_highest) = intervals.allows_in_range i v e in (omega (arith, ints), omega (arith, ints))
allows_in_range (info.Members n m) v e = place_in_range m v e
allows_in_range (info.Exact f) v e = exacts.number_true v (exacts.allows_in_range f v e)

found_some : (p : ℤ → Bool) (r : Option ℤ) → IsLeast p exact_numbers exact_lowest r → is_some r ≡ true → (v : ℤ) × (p v ≡ true)
found_some p None found e = absurd (cc)
found_some p (Some v) found e = (v, found.2)

some_found : (p : ℤ → Bool) (r : Option ℤ) → IsLeast p exact_numbers exact_lowest r → (v : ℤ) → exact_lowest ≤ℤ v → v ≤ℤ exact_highest → p v ≡ true → is_some r ≡ true
some_found p None found v low high e = absurd (not_both _ e (found v low (omega (arith, ints))))
some_found p (Some x) found v low high e = refl

-- if some possible value passes there is one, and one that passes is some
pub some_true : (a : Info) (p : ℤ → Bool) → some a p ≡ true → (v : ℤ) × (allows a v ≡ true) × (p v ≡ true)
unfolding some
some_true a p e =
    let (v, both) = found_some (λ v. allows a v && p v) _ (least_is (λ v. allows a v && p v) exact_numbers exact_lowest) e in
    let parts : (allows a v ≡ true) × (p v ≡ true) = true_both _ _ both in
    (v, parts.0, parts.1)

pub true_some : (a : Info) (p : ℤ → Bool) (v : ℤ) → allows a v ≡ true → p v ≡ true → some a p ≡ true
unfolding some
true_some a p v here passes =
    let range : (exact_lowest ≤ℤ v) × (v ≤ℤ exact_highest) = allows_in_range a v here in
    some_found (λ v. allows a v && p v) _ (least_is (λ v. allows a v && p v) exact_numbers exact_lowest) v range.0 range.1 (both_true _ _ here passes)

-- some value of the more informed passes only if some of the less informed does
pub some_mono : (a b : Info) (p q : ℤ → Bool) → Implies a b → ((v : ℤ) → p v ≡ true → q v ≡ true) → some a p ≡ true → some b q ≡ true
some_mono a b p q implied more e = let (v, here, passes) = some_true a p e in true_some b q v (implied v here) (more v passes)

-- tests that agree on possible values pass alike
pub some_same : (a : Info) (p q : ℤ → Bool) → ((v : ℤ) → allows a v ≡ true → p v ≡ q v) → some a p ≡ some a q
some_same a p q same = same_test _ _
    (λ e. let (v, here, passes) = some_true a p e in true_some a q v here (sym (same v here) ∙ passes))
    (λ e. let (v, here, passes) = some_true a q e in true_some a p v here (same v here ∙ passes))

-- no value passes
pub none_some : (a : Info) (p : ℤ → Bool) → ((v : ℤ) → allows a v ≡ true → p v ≡ true → ⊥) → some a p ≡ false
none_some a p none = is_false _ (λ e. let (v, here, passes) = some_true a p e in none v here passes)

pub some_none : (a : Info) (p : ℤ → Bool) → some a p ≡ false → (v : ℤ) → allows a v ≡ true → p v ≡ true → ⊥
some_none a p none v here passes = not_both _ (true_some a p v here passes) none

-- an information is contradictory exactly if no value is possible
pub contradiction_none : (a : Info) → IsContradiction a → (p : ℤ → Bool) → some a p ≡ false
contradiction_none a none p = none_some a p (λ v here passes. not_both _ here (none v))

pub impossible_contradiction : (a : Info) → is_possible a ≡ false → IsContradiction a
impossible_contradiction a none v = is_false _ (λ here. some_none a (λ w. true) none v here refl)

pub possible_not_contradiction : (a : Info) → is_possible a ≡ true → IsContradiction a → ⊥
possible_not_contradiction a e none = not_both _ e (contradiction_none a none (λ v. true))
