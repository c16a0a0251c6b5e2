-- Which words are groups to choose from.
use Rattle.std.proofs.Common.{◌≡◌, ◌≢◌, ◌↔◌, ℕ, ◌≤◌, nat_le, Bool, true, false, not, List, [], ◌∷◌, ◌++◌, length, map, refl, sym, ap, ◌∙◌, inl, inr, subst, arith}
use Rattle.std.specs.List.{AllByRecursion, AllPairs, IsDistinct, list_all, list_any}
use Rattle.std.specs.Str.{bytes_eq}
use Rattle.std.proofs.lemmas.Bool.{and_from, and_parts, cases_Bool, false≢true, leb-true, le-leb, not-true}
use Rattle.std.proofs.lemmas.List.{length-map}
use Rattle.std.proofs.lemmas.List.Elements.{All-from_recursion, recursion_from_All}
use Rattle.std.proofs.lemmas.Map.Made.{AllPairs-from_IsDistinct, IsDistinct-from_AllPairs}
use Rattle.std.proofs.lemmas.Slice.Eq.{bytes_eq-Decides}
use Rattle.pw_info.specs.Words.{is_nil}
use Rattle.pw_info.specs.GroupNames.{names_in}
use Rattle.pw_reasons.specs.Groups.{AreGroups, IsGroup, all_of, most_groups, most_in_a_group}
use Rattle.pw_transcript.specs.inside.Grouping.{all_names, are_few, has_few_names, stand_once}
use Rattle.pw_transcript.proofs.GroupTexts.{names_some}

-- ---- no name twice

-- a name that is not found differs from each
none_found : (name : List ℕ) (names : List (List ℕ)) → list_any (bytes_eq name) names ≡ false → AllByRecursion (λ other. bytes_eq name other ≡ false) names
none_found name [] none = tt
none_found name (other ∷ names) none = elim (cases_Bool (bytes_eq name other)) [
  | inl same ↦ absurd (false≢true (sym none ∙ rw same refl))
  | inr apart ↦ (apart, none_found name names (rw apart at none))
]

found_none : (name : List ℕ) (names : List (List ℕ)) → AllByRecursion (λ other. bytes_eq name other ≡ false) names → list_any (bytes_eq name) names ≡ false
found_none name [] none = refl
found_none name (other ∷ names) none = rw none.0 (found_none name names none.1)

distinct_found : (names : List (List ℕ)) → stand_once names ≡ true → IsDistinct bytes_eq names
unfolding IsDistinct
distinct_found [] once = tt
distinct_found (name ∷ names) once =
    let both = and_parts (not (list_any (bytes_eq name) names)) (stand_once names) once in
    (none_found name names (not-true (list_any (bytes_eq name) names) both.0), distinct_found names both.1)

found_distinct : (names : List (List ℕ)) → IsDistinct bytes_eq names → stand_once names ≡ true
unfolding IsDistinct
found_distinct [] once = refl
found_distinct (name ∷ names) once =
    and_from (not (list_any (bytes_eq name) names)) (stand_once names)
    (ap not (found_none name names once.0)) (found_distinct names once.1)

-- ---- the names of all groups

pub all_names_of : (words : List (List ℕ)) → all_of (map names_in words) ≡ all_names words
all_names_of [] = refl
all_names_of (word ∷ words) = ap (λ (l : List (List ℕ)). names_in word ++ l) (all_names_of words)

are_group_list : (words : List (List ℕ)) → list_all has_few_names words ≡ true → AllByRecursion IsGroup (map names_in words)
are_group_list [] few = tt
are_group_list (word ∷ words) few =
    let both = and_parts (has_few_names word) (list_all has_few_names words) few in
    (record { some = names_some word; few = leb-true (length (names_in word)) most_in_a_group both.0 }, are_group_list words both.1)

group_list_few : (words : List (List ℕ)) → AllByRecursion IsGroup (map names_in words) → list_all has_few_names words ≡ true
group_list_few [] are = refl
group_list_few (word ∷ words) are =
    and_from (has_few_names word) (list_all has_few_names words)
    (le-leb (length (names_in word)) most_in_a_group are.0.few) (group_list_few words are.1)

-- ---- groups

-- groups are at least one, few, and in each are few names
pub groups_some : (words : List (List ℕ)) → AreGroups (map names_in words) → is_nil words ≡ false
groups_some [] are = let none : 1 ≤ 0 = are.some in absurd (omega arith)
groups_some (word ∷ words) are = refl

pub groups_few : (words : List (List ℕ)) → AreGroups (map names_in words) → are_few words ≡ true
groups_few words are =
    and_from _ (list_all has_few_names words)
    (le-leb (length words) most_groups (omega (arith, are.few, length-map words names_in)))
    (group_list_few words (recursion_from_All IsGroup (map names_in words) are.each))

some_words : (words : List (List ℕ)) → is_nil words ≡ false → 1 ≤ length words
some_words [] some = absurd (false≢true (sym some))
some_words (word ∷ words) some = omega arith

-- and words of which this holds are groups exactly if no name stands twice
pub groups_found : (words : List (List ℕ)) (once : Bool) → is_nil words ≡ false → are_few words ≡ true → once ≡ stand_once (all_names words) →
    (once ≡ true) ↔ AreGroups (map names_in words)
groups_found words once some few is =
    let both = and_parts (nat_le (length words) most_groups) (list_all has_few_names words) few in (
      λ yes. record {
        some = omega (arith, some_words words some, length-map words names_in);
        few = omega (arith, leb-true (length words) most_groups both.0, length-map words names_in);
        each = All-from_recursion IsGroup (map names_in words) (are_group_list words both.1);
        once = subst (AllPairs (λ x y. x ≢ y)) (sym (all_names_of words))
            (AllPairs-from_IsDistinct bytes_eq-Decides (all_names words) (distinct_found (all_names words) (sym is ∙ yes)));
      },
      λ are. is ∙ found_distinct (all_names words)
          (IsDistinct-from_AllPairs bytes_eq-Decides (all_names words) (subst (AllPairs (λ x y. x ≢ y)) (all_names_of words) are.once)),
    )
