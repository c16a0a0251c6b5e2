-- The premises that the names of groups name.
use Rattle.std.proofs.Common.{◌≡◌, ◌≢◌, ℕ, suc, ◌+◌, ◌<◌, ◌≤◌, true, false, nat_eq, List, [], ◌∷◌, ◌++◌, length, map, set, take, All, Option, None, Some, refl, sym, ap, ◌∙◌, inl, inr, subst, arith, append_assoc, length-append}
use Rattle.std.specs.Prelude.{is_some}
use Rattle.std.specs.List.{AllByRecursion, AllPairs, IsDistinct, list_all, position_from}
use Rattle.std.specs.Str.{bytes_eq}
use Rattle.std.proofs.lemmas.Bool.{and_from, and_parts, cases_Bool, false≢true, ne_eqb}
use Rattle.std.proofs.lemmas.Bool.Decides.{Decides-eqb}
use Rattle.std.proofs.lemmas.List.{get_or_append_left, length-map, take_more_set}
use Rattle.std.proofs.lemmas.List.Concat.{flat_map-append}
use Rattle.std.proofs.lemmas.List.Elements.{All-from_recursion, filter_map-append, recursion_from_All}
use Rattle.std.proofs.lemmas.Map.Made.{AllPairs-from_IsDistinct, IsDistinct-from_AllPairs}
use Rattle.std.proofs.lemmas.Slice.Eq.{bytes_eq-Decides}
use Rattle.pw_info.specs.GroupNames.{names_in}
use Rattle.pw_procs.specs.Registering.{place_of_name}
use Rattle.pw_decl.specs.Declaration.{Declared}
use Rattle.pw_reasons.specs.Groups.{AreGroups, IsGroup, all_of, most_in_a_group}
use Rattle.pw_sessions.specs.declared.reply.Refusal.TheVariants as refusal
use Rattle.pw_transcript.specs.Reading.{all_known, is_known, premise_groups, premises_named}
use Rattle.pw_transcript.specs.Sentence.{Choose}
use Rattle.pw_transcript.specs.inside.Grouping.{all_names}
use Rattle.pw_transcript.specs.inside.Resolving.{IsFree, IsRefusedFor}
use Rattle.pw_transcript.proofs.GroupWords.{all_names_of}

-- ---- a place has one name

place_from : (a : List ℕ) (start : ℕ) (names : List (List ℕ)) (k : ℕ) → position_from (bytes_eq a) start names ≡ Some k → start ≤ k
place_from a start [] k at = absurd (let e : None ≡ Some k = at in cc)
place_from a start (name ∷ names) k at = elim (cases_Bool (bytes_eq a name)) [
  | inl here ↦ let e : Some start ≡ Some k = rw here at at in let same : start ≡ k = cc in omega arith
  | inr past ↦ let more = place_from a (start + 1) names k (rw past at at) in omega arith
]

one_at : (a b : List ℕ) (start : ℕ) (names : List (List ℕ)) (k : ℕ) → position_from (bytes_eq a) start names ≡ Some k →
    position_from (bytes_eq b) start names ≡ Some k → a ≡ b
one_at a b start [] k at_a at_b = absurd (let e : None ≡ Some k = at_a in cc)
one_at a b start (name ∷ names) k at_a at_b = elim (cases_Bool (bytes_eq a name)) [
  | inl here ↦ elim (cases_Bool (bytes_eq b name)) [
    | inl here_b ↦ (bytes_eq-Decides a name).0 here ∙ sym ((bytes_eq-Decides b name).0 here_b)
    | inr past_b ↦
        let e : Some start ≡ Some k = rw here at at_a in
        let same : start ≡ k = cc in
        let more = place_from b (start + 1) names k (rw past_b at at_b) in absurd (omega arith)
  ]
  | inr past ↦ elim (cases_Bool (bytes_eq b name)) [
    | inl here_b ↦
        let e : Some start ≡ Some k = rw here_b at at_b in
        let same : start ≡ k = cc in
        let more = place_from a (start + 1) names k (rw past at at_a) in absurd (omega arith)
    | inr past_b ↦ one_at a b (start + 1) names k (rw past at at_a) (rw past_b at at_b)
  ]
]

-- ---- names that are known

module _ (d : Declared) where
  more_named : (name : List ℕ) (names : List (List ℕ)) (n : ℕ) → place_of_name d.premises name ≡ Some n →
      premises_named d (name ∷ names) ≡ n ∷ premises_named d names
  more_named name names n at = rw at refl

  -- a name that is known has a number
  number_of : (name : List ℕ) (o : Option ℕ) → place_of_name d.premises name ≡ o → is_some o ≡ true → (n : ℕ) × (place_of_name d.premises name ≡ Some n)
  number_of name None at known = absurd (false≢true known)
  number_of name (Some n) at known = (n, at)

  known_number : (name : List ℕ) → is_known d name ≡ true → (n : ℕ) × (place_of_name d.premises name ≡ Some n)
  known_number name known = number_of name (place_of_name d.premises name) refl known

  -- they have as many numbers
  pub length-named : (names : List (List ℕ)) → list_all (is_known d) names ≡ true → length (premises_named d names) ≡ length names
  length-named [] known = refl
  length-named (name ∷ names) known =
      let both = and_parts (is_known d name) (list_all (is_known d) names) known in
      let found = known_number name both.0 in
      ap length (more_named name names found.0 found.1) ∙ ap suc (length-named names both.1)

  -- names that differ have numbers that do
  differs : (name : List ℕ) (n : ℕ) (names : List (List ℕ)) → place_of_name d.premises name ≡ Some n → list_all (is_known d) names ≡ true →
      AllByRecursion (λ other. bytes_eq name other ≡ false) names → AllByRecursion (λ m. nat_eq n m ≡ false) (premises_named d names)
  differs name n [] at known apart = tt
  differs name n (other ∷ names) at known apart =
      let both = and_parts (is_known d other) (list_all (is_known d) names) known in
      let found = known_number other both.0 in
      subst (AllByRecursion (λ m. nat_eq n m ≡ false)) (sym (more_named other names found.0 found.1)) (
        ne_eqb n found.0 (λ same. false≢true (sym apart.0 ∙ (bytes_eq-Decides name other).1
            (one_at name other 0 d.premises n at (found.1 ∙ ap Some (sym same))))),
        differs name n names at both.1 apart.1,
      )

  all_differ : (names : List (List ℕ)) → list_all (is_known d) names ≡ true → IsDistinct bytes_eq names → IsDistinct nat_eq (premises_named d names)
  unfolding IsDistinct
  all_differ [] known apart = tt
  all_differ (name ∷ names) known apart =
      let both = and_parts (is_known d name) (list_all (is_known d) names) known in
      let found = known_number name both.0 in
      subst (IsDistinct nat_eq) (sym (more_named name names found.0 found.1))
      (differs name found.0 names found.1 both.1 apart.0, all_differ names both.1 apart.1)

  -- ---- groups of names

  -- if the names of two lists are known, those of each are
  pub known_parts : (xs ys : List (List ℕ)) → list_all (is_known d) (xs ++ ys) ≡ true → (list_all (is_known d) xs ≡ true) × (list_all (is_known d) ys ≡ true)
  known_parts [] ys known = (refl, known)
  known_parts (x ∷ xs) ys known =
      let both = and_parts (is_known d x) (list_all (is_known d) (xs ++ ys)) known in
      let rest = known_parts xs ys both.1 in
      (and_from (is_known d x) (list_all (is_known d) xs) both.0 rest.0, rest.1)

  pub known_first : (names : List (List ℕ)) (groups : List (List (List ℕ))) → list_all (is_known d) (all_of (names ∷ groups)) ≡ true →
      (list_all (is_known d) names ≡ true) × (list_all (is_known d) (all_of groups) ≡ true)
  known_first names groups known = known_parts names (all_of groups) known

  each_is_group : (groups : List (List (List ℕ))) → list_all (is_known d) (all_of groups) ≡ true → AllByRecursion IsGroup groups →
      AllByRecursion IsGroup (premise_groups d groups)
  each_is_group [] known are = tt
  each_is_group (names ∷ groups) known are =
      let both = known_first names groups known in
      let long = length-named names both.0 in
      (record { some = omega (arith, are.0.some); few = omega (arith, are.0.few) }, each_is_group groups both.1 are.1)

  all_of_named : (groups : List (List (List ℕ))) → all_of (premise_groups d groups) ≡ premises_named d (all_of groups)
  all_of_named [] = refl
  all_of_named (names ∷ groups) =
      ap (λ (l : List ℕ). premises_named d names ++ l) (all_of_named groups)
      ∙ sym (filter_map-append (place_of_name d.premises) names (all_of groups))

  -- names that are groups name premises that are
  pub named_are_groups : (groups : List (List (List ℕ))) → list_all (is_known d) (all_of groups) ≡ true → AreGroups groups → AreGroups (premise_groups d groups)
  named_are_groups groups known are = record {
    some = omega (arith, are.some, length-map groups (premises_named d));
    few = omega (arith, are.few, length-map groups (premises_named d));
    each = All-from_recursion IsGroup (premise_groups d groups) (each_is_group groups known (recursion_from_All IsGroup groups are.each));
    once = subst (AllPairs (λ m n. m ≢ n)) (sym (all_of_named groups))
        (AllPairs-from_IsDistinct Decides-eqb (premises_named d (all_of groups))
        (all_differ (all_of groups) known (IsDistinct-from_AllPairs bytes_eq-Decides (all_of groups) are.once)));
  }

-- ---- the first of some groups

first_pairs : (xs ys : List ℕ) → AllPairs (λ m n. m ≢ n) (xs ++ ys) → AllPairs (λ m n. m ≢ n) xs
first_pairs xs ys once = λ i j k before within same.
    once i j k before (omega (arith, length-append xs ys))
    (get_or_append_left xs ys k i (omega arith) ∙ same ∙ sym (get_or_append_left xs ys k j within))

first_each : (xs ys : List (List ℕ)) → All IsGroup (xs ++ ys) → All IsGroup xs
first_each xs ys each = λ k e within.
    subst IsGroup (get_or_append_left xs ys e k within) (each k e (omega (arith, length-append xs ys)))

-- the first of groups are groups, if there is one
pub first_are_groups : (xs ys : List (List ℕ)) (group : List ℕ) → AreGroups (xs ++ group ∷ ys) → AreGroups (xs ++ group ∷ [])
first_are_groups xs ys group are =
    let cut : xs ++ group ∷ ys ≡ (xs ++ group ∷ []) ++ ys = sym (append_assoc xs (group ∷ []) ys) in
    let whole : AreGroups ((xs ++ group ∷ []) ++ ys) = subst AreGroups cut are in
    let once : AllPairs (λ m n. m ≢ n) (all_of (xs ++ group ∷ []) ++ all_of ys) =
    subst (AllPairs (λ m n. m ≢ n)) (flat_map-append (λ (g : List ℕ). g) (xs ++ group ∷ []) ys) whole.once in
    record {
      some = omega (arith, length-append xs (group ∷ []));
      few = omega (arith, length-append (xs ++ group ∷ []) ys, whole.few);
      each = first_each (xs ++ group ∷ []) ys whole.each;
      once = first_pairs (all_of (xs ++ group ∷ [])) (all_of ys) once;
    }

-- where the first of the groups that words name are none, all of them are none
pub none_from_first : (d : Declared) (all held : List (List ℕ)) (words rest : List (List ℕ)) (word : List ℕ) →
    all ≡ held ++ premise_groups d (map names_in words) → words ≡ word ∷ rest →
    (AreGroups (held ++ premises_named d (names_in word) ∷ []) → ⊥) → AreGroups all → ⊥
none_from_first d all held words rest word is cut none are =
    none (first_are_groups held (premise_groups d (map names_in rest)) (premises_named d (names_in word))
    (subst AreGroups (is ∙ ap (λ (l : List (List ℕ)). held ++ premise_groups d (map names_in l)) cut) are))

-- ---- names read one after another

-- of the names that are left after one, all are known
pub known_rest : (d : Declared) (names rest : List (List ℕ)) (name : List ℕ) → names ≡ name ∷ rest → list_all (is_known d) names ≡ true → list_all (is_known d) rest ≡ true
known_rest d names rest name cut known = (and_parts (is_known d name) (list_all (is_known d) rest) (ap (list_all (is_known d)) (sym cut) ∙ known)).1

-- the numbers of the names so far, and those of the remaining names, with one more name
pub named_step : (d : Declared) (all held : List ℕ) (names rest : List (List ℕ)) (name : List ℕ) (count n : ℕ) → all ≡ take count held ++ premises_named d names →
    names ≡ name ∷ rest → Some n ≡ place_of_name d.premises name → count < length held → all ≡ take (count + 1) (set held count n) ++ premises_named d rest
named_step d all held names rest name count n so_far cut at room =
    so_far ∙ ap (λ (l : List (List ℕ)). take count held ++ premises_named d l) cut
    ∙ ap (λ (l : List ℕ). take count held ++ l) (more_named d name rest n (sym at))
    ∙ sym (append_assoc (take count held) (n ∷ []) (premises_named d rest))
    ∙ ap (λ (l : List ℕ). l ++ premises_named d rest) (sym (take_more_set held count n room))

last_group : (held : List (List ℕ)) (group : List ℕ) → AllByRecursion IsGroup (held ++ group ∷ []) → IsGroup group
last_group [] group are = are.0
last_group (other ∷ held) group are = last_group held group are.1

-- the groups so far, and those of the remaining words, with one more word
pub groups_step : (d : Declared) (all held more : List (List ℕ)) (words rest : List (List ℕ)) (word : List ℕ) → all ≡ held ++ premise_groups d (map names_in words) →
    words ≡ word ∷ rest → more ≡ held ++ premises_named d (names_in word) ∷ [] → all ≡ more ++ premise_groups d (map names_in rest)
groups_step d all held more words rest word so_far cut is =
    so_far ∙ ap (λ (l : List (List ℕ)). held ++ premise_groups d (map names_in l)) cut
    ∙ sym (append_assoc held (premises_named d (names_in word) ∷ []) (premise_groups d (map names_in rest)))
    ∙ ap (λ (l : List (List ℕ)). l ++ premise_groups d (map names_in rest)) (sym is)

-- more names than a group has are none
pub too_many_named : (d : Declared) (held names : List (List ℕ)) → list_all (is_known d) names ≡ true → most_in_a_group < length names →
    AreGroups (held ++ premises_named d names ∷ []) → ⊥
too_many_named d held names known many are =
    let last = last_group held (premises_named d names) (recursion_from_All IsGroup (held ++ premises_named d names ∷ []) are.each) in
    omega (arith, last.few, length-named d names known, many)

-- ---- what is answered to a choose

-- the words are groups, and some name is none of a premise
pub unknown_refused : (d : Declared) (user : ℕ) (words again other names : List (List ℕ)) → again ≡ words → other ≡ words → names ≡ all_names other →
    AreGroups (map names_in again) → all_known d names ≡ false → IsRefusedFor d user (Choose (map names_in words)) refusal.UnknownPremise
unknown_refused d user words again other names same same_other is are unknown =
    let groups : AreGroups (map names_in words) = subst (λ (l : List (List ℕ)). AreGroups (map names_in l)) same are in
    let none : list_all (is_known d) (all_of (map names_in words)) ≡ false =
    ap (all_known d) (all_names_of words ∙ ap all_names (sym same_other) ∙ sym is) ∙ unknown in
    inr (λ h. h, inr (λ h. h, inr (λ h. h, inr (λ h. h, inr (λ no. no groups, inl (refl, none))))))

known_names : (d : Declared) (words other names : List (List ℕ)) → other ≡ words → names ≡ all_names other → all_known d names ≡ true →
    list_all (is_known d) (all_of (map names_in words)) ≡ true
known_names d words other names same is known = ap (all_known d) (all_names_of words ∙ ap all_names (sym same) ∙ sym is) ∙ known

-- the words are groups of names of premises: so these premises are groups
pub premises_are_groups : (d : Declared) (words again other names : List (List ℕ)) → again ≡ words → other ≡ words → names ≡ all_names other →
    AreGroups (map names_in again) → all_known d names ≡ true → AreGroups (premise_groups d (map names_in words))
premises_are_groups d words again other names same same_other is are known =
    named_are_groups d (map names_in words) (known_names d words other names same_other is known)
    (subst (λ (l : List (List ℕ)). AreGroups (map names_in l)) same are)

-- and nothing is refused
pub choice_free : (d : Declared) (user : ℕ) (words again other names : List (List ℕ)) → again ≡ words → other ≡ words → names ≡ all_names other →
    AreGroups (map names_in again) → all_known d names ≡ true → IsFree d user (Choose (map names_in words))
choice_free d user words again other names same same_other is are known =
    let groups : AreGroups (map names_in words) = subst (λ (l : List (List ℕ)). AreGroups (map names_in l)) same are in
    let all : list_all (is_known d) (all_of (map names_in words)) ≡ true = known_names d words other names same_other is known in
    (λ h. h, (λ h. h, (λ h. h, (λ h. h, (λ no. no groups, (λ none. false≢true (sym none ∙ all), (λ h. h, tt)))))))
