-- Products of sets of premises: what they cover, and which sets they have.
use Rattle.std.proofs.Common.{◌≡◌, ℕ, ◌+◌, ◌-◌, ◌<◌, ◌≤◌, nat_eq, Bool, true, false, ◌||◌, ◌&&◌, ◌⊎◌, List, [], ◌∷◌, ◌++◌, All, Contains, length, map, take, drop, append-nil, refl, sym, ap, ◌∙◌, subst, inl, inr, arith, Result, Ok, Err}
use Rattle.std.specs.Prelude.{OnErr, OnOk, slice_index_or}
use Rattle.std.specs.List.{flat_map, list_all, list_any}
use Rattle.std.specs.Cmp.{nat_cmp_total}
use Rattle.std.specs.Ordering.{nat_cmp, eq_by_cmp}
use Rattle.std.specs.FinSet.{contains, contains-from_list_nat, contains-union, empty, from_list, from_list_push, insert, is_subset, is_subset-contains, nat_cmp-IsAntisymmetric, same_set, union}
use Rattle.std.proofs.lemmas.Bool.{cases_Bool, false≢true}
use Rattle.std.proofs.lemmas.Grind.{flat_map-append}
use Rattle.std.proofs.lemmas.List.{at_drop_all, at_drop_more, drop_more, get_or-drop, get_or_default, length-drop, map-append, take_all, take_more}
use Rattle.std.proofs.lemmas.List.Elements.{All-cons, All-contains, All-from_get_or, All-map, All-nil, All-weaker, Contains-append_cases, Contains-append_left, Contains-append_right, Contains-push_cases}
use Rattle.std.proofs.lemmas.List.Folds.{Any-from_list_any, list_all_at, list_any-append, list_any-from_Any}
use Rattle.pw_premises.specs.Premises.{Premises}
use Rattle.pw_premises.specs.PremiseSubsets.{empty_is_subset, is_subset_refl, is_subset_trans, is_subset_union_left, union_is_subset_both}
use Rattle.pw_settle.proofs.Membership.{contains_first, each_member}
use Rattle.pw_reasons.specs.Combinations.{combinations_of}
use Rattle.pw_reasons.specs.Nogood.{covers}
use Rattle.pw_reasons.specs.inside.Products.{sets_in, sets_in_each, worldviews_beside}
use Rattle.pw_reasons.specs.declared.product.Product.{Product}
use Rattle.pw_reasons.proofs.FamilyLemmas.{and_both, and_parts, contains_inserted, covers_both, inserted_within, neither, or_right}
use Rattle.pw_reasons.proofs.GroupLemmas.{is_there}
use Rattle.pw_reasons.proofs.NogoodLemmas.{noted_covers}
use Rattle.pw_reasons.proofs.SetLemmas.{from_both}

-- ---- what a product covers

-- a list that has one of the premises
has_one : (w : Premises) (group : List ℕ) (p : ℕ) → Contains group p → contains w p ≡ true → list_any (contains w) group ≡ true
has_one w group p has one = list_any-from_Any (contains w) group (has.0, p, has.1, has.2, one)

-- whether these premises have one of each of the groups
abbrev pub have_each : Premises → List (List ℕ) → Bool
have_each premises groups = list_all (list_any (contains premises)) groups

-- a premise and others are in a set exactly if both are
first_within : (w : Premises) (p : ℕ) (taken : List ℕ) → is_subset (from_list (p ∷ taken)) w ≡ (contains w p && is_subset (from_list taken) w)
first_within w p taken =
    ap (λ (s : Premises). is_subset s w) (from_both (p ∷ []) taken)
    ∙ union_is_subset_both (from_list (p ∷ [])) (from_list taken) w
    ∙ ap (λ b. b && is_subset {R = nat_cmp} (from_list taken) w)
    (ap (λ (s : Premises). is_subset s w) (from_list_push nat_cmp_total nat_cmp-IsAntisymmetric [] p)
    ∙ inserted_within empty w p ∙ ap (λ b. contains w p && b) (empty_is_subset w) ∙ by_test (contains w p))
  where
    by_test : (b : Bool) → (b && true) ≡ b
    by_test true = refl
    by_test false = refl

-- whether one of the combinations is within these premises
abbrev is_any_within : Premises → List (List ℕ) → Bool
is_any_within w combinations = list_any (λ (taken : List ℕ). is_subset (from_list taken) w) combinations

-- with what is fixed
beside_fixed : (fixed w : Premises) (combinations : List (List ℕ)) →
    covers (map (λ taken. union fixed (from_list taken)) combinations) w ≡ (is_subset fixed w && is_any_within w combinations)
beside_fixed fixed w [] = by_test (is_subset fixed w) where
  by_test : (b : Bool) → false ≡ (b && false)
  by_test true = refl
  by_test false = refl
beside_fixed fixed w (taken ∷ combinations) =
    (λ i. union_is_subset_both fixed (from_list taken) w i || beside_fixed fixed w combinations i)
    ∙ by_test (is_subset fixed w) (is_subset (from_list taken) w) (is_any_within w combinations)
  where
    by_test : (b one more : Bool) → ((b && one) || (b && more)) ≡ (b && (one || more))
    by_test true one more = refl
    by_test false one more = refl

-- with a premise in front
behind_first : (w : Premises) (p : ℕ) (combinations : List (List ℕ)) →
    is_any_within w (map (λ others. p ∷ others) combinations) ≡ (contains w p && is_any_within w combinations)
behind_first w p [] = by_test (contains w p) where
  by_test : (b : Bool) → false ≡ (b && false)
  by_test true = refl
  by_test false = refl
behind_first w p (taken ∷ combinations) =
    (λ i. first_within w p taken i || behind_first w p combinations i)
    ∙ by_test (contains w p) (is_subset (from_list taken) w) (is_any_within w combinations)
  where
    by_test : (b one more : Bool) → ((b && one) || (b && more)) ≡ (b && (one || more))
    by_test true one more = refl
    by_test false one more = refl

-- with one of a group in front
behind_group : (w : Premises) (group : List ℕ) (combinations : List (List ℕ)) →
    is_any_within w (flat_map (λ premise. map (λ others. premise ∷ others) combinations) group)
    ≡ (list_any (contains w) group && is_any_within w combinations)
behind_group w [] combinations = refl
behind_group w (p ∷ group) combinations =
    list_any-append (λ (taken : List ℕ). is_subset (from_list taken) w) (map (λ others. p ∷ others) combinations)
    (flat_map (λ premise. map (λ others. premise ∷ others) combinations) group)
    ∙ (λ i. behind_first w p combinations i || behind_group w group combinations i)
    ∙ by_test (contains w p) (list_any (contains w) group) (is_any_within w combinations)
  where
    by_test : (one more b : Bool) → ((one && b) || (more && b)) ≡ ((one || more) && b)
    by_test true true true = refl
    by_test true true false = refl
    by_test true false true = refl
    by_test true false false = refl
    by_test false more b = refl

-- a combination is within premises exactly if they have one of each group
any_combination : (w : Premises) (groups : List (List ℕ)) → is_any_within w (combinations_of groups) ≡ have_each w groups
any_combination w [] = ap (λ b. b || false) (empty_is_subset w)
any_combination w (group ∷ groups) =
    behind_group w group (combinations_of groups) ∙ ap (λ b. list_any (contains w) group && b) (any_combination w groups)

-- a product covers what has all that is fixed, and one of each group
pub product_covers : (fixed w : Premises) (groups : List (List ℕ)) → covers (worldviews_beside fixed groups) w ≡ (is_subset fixed w && have_each w groups)
product_covers fixed w groups =
    beside_fixed fixed w (combinations_of groups) ∙ ap (λ b. is_subset fixed w && b) (any_combination w groups)

-- not all is there if one premise is missing
pub one_missing : (fixed w : Premises) (p : ℕ) → contains fixed p ≡ true → contains w p ≡ false → is_subset fixed w ≡ false
one_missing fixed w p has lacks =
    elim (cases_Bool (is_subset fixed w)) [
      | inl all ↦ absurd (false≢true (sym lacks ∙ is_subset-contains nat_cmp_total fixed w all p has))
      | inr not_all ↦ not_all
    ]

-- nothing, unless all that is fixed is there
pub fixed_missing : (fixed w : Premises) (groups : List (List ℕ)) → is_subset fixed w ≡ false → covers (worldviews_beside fixed groups) w ≡ false
fixed_missing fixed w groups missing = product_covers fixed w groups ∙ ap (λ b. b && have_each w groups) missing

-- and one of each group
pub group_missing : (fixed w : Premises) (groups : List (List ℕ)) → have_each w groups ≡ false → covers (worldviews_beside fixed groups) w ≡ false
group_missing fixed w groups missing = product_covers fixed w groups ∙ neither.1 (is_subset fixed w) (have_each w groups) missing

-- ---- the groups from a place on, one after another

module _ (w : Premises) (groups : List (List ℕ)) (start i : ℕ) (group : List ℕ) (at : group ≡ slice_index_or groups i [])
    (same : have_each w (drop start groups) ≡ have_each w (drop i groups)) where
  -- one more group
  next_is : i < length groups → have_each w (drop start groups) ≡ (list_any (contains w) group && have_each w (drop (i + 1) groups))
  next_is here = same ∙ at_drop_more (have_each w) groups i [] here
      ∙ ap (λ g. list_any (contains w) g && have_each w (drop (i + 1) groups)) (sym at)

  -- of which one is there
  pub one_there : i < length groups → list_any (contains w) group ≡ true → have_each w (drop start groups) ≡ have_each w (drop (i + 1) groups)
  one_there here has = next_is here ∙ ap (λ b. b && have_each w (drop (i + 1) groups)) has

  -- or none
  pub none_there : i < length groups → list_any (contains w) group ≡ false → have_each w (drop start groups) ≡ false
  none_there here lacks = next_is here ∙ ap (λ b. b && have_each w (drop (i + 1) groups)) lacks

-- past the last one
pub all_there : (w : Premises) (groups : List (List ℕ)) (start i : ℕ) → have_each w (drop start groups) ≡ have_each w (drop i groups) → length groups ≤ i →
    have_each w (drop start groups) ≡ true
all_there w groups start i same past = same ∙ at_drop_all (have_each w) groups i past

-- ---- the sets of a product

-- a premise may be taken with the others, or be there already
there_already : (set : Premises) (p : ℕ) (taken : List ℕ) → union set (from_list (p ∷ taken)) ≡ union (insert set p) (from_list taken)
there_already set p taken = same_set nat_cmp_total nat_cmp-IsAntisymmetric _ _ (λ q.
    contains-union nat_cmp_total set (from_list (p ∷ taken)) q
    ∙ ap (λ b. contains set q || b) (ap (λ s. contains {R = nat_cmp} s q) (from_both (p ∷ []) taken)
    ∙ contains-union nat_cmp_total (from_list (p ∷ [])) (from_list taken) q
    ∙ ap (λ b. b || contains {R = nat_cmp} (from_list taken) q) (just_one q))
    ∙ by_test (contains set q) (eq_by_cmp nat_cmp q p) (contains (from_list taken) q)
    ∙ sym (contains-union nat_cmp_total (insert set p) (from_list taken) q
    ∙ ap (λ b. b || contains {R = nat_cmp} (from_list taken) q) (contains_inserted set p q)))
  where
    -- a list of one is a set of one
    just_one : (q : ℕ) → contains (from_list {R = nat_cmp} (p ∷ [])) q ≡ (eq_by_cmp nat_cmp q p || false)
    just_one q =
        ap (λ s. contains {R = nat_cmp} s q) (from_list_push nat_cmp_total nat_cmp-IsAntisymmetric [] p)
        ∙ contains_inserted (from_list []) p q ∙ ap (λ b. eq_by_cmp nat_cmp q p || b) (contains-from_list_nat [] q)

    by_test : (a e c : Bool) → (a || ((e || false) || c)) ≡ ((e || a) || c)
    by_test true true c = refl
    by_test true false c = refl
    by_test false true c = refl
    by_test false false c = refl

-- with no group, what is fixed is the one set
pub fixed_alone : (fixed : Premises) → worldviews_beside fixed [] ≡ fixed ∷ []
fixed_alone fixed = ap (λ (s : Premises). s ∷ []) (same_set nat_cmp_total nat_cmp-IsAntisymmetric _ _ (λ q.
    contains-union nat_cmp_total fixed (from_list []) q ∙ ap (λ b. contains fixed q || b) (contains-from_list_nat [] q) ∙ by_test (contains fixed q)))
  where
    by_test : (b : Bool) → (b || false) ≡ b
    by_test true = refl
    by_test false = refl

-- the sets behind one premise of the first group
behind_one : (fixed : Premises) (groups : List (List ℕ)) (p : ℕ) (combinations : List (List ℕ)) →
    map (λ taken. union fixed (from_list taken)) (map (λ others. p ∷ others) combinations) ≡ map (λ taken. union (insert fixed p) (from_list taken)) combinations
behind_one fixed groups p [] = refl
behind_one fixed groups p (taken ∷ combinations) = λ i. there_already fixed p taken i ∷ behind_one fixed groups p combinations i

-- those with a premise of the first group are among them
pub with_one : (fixed : Premises) (groups : List (List ℕ)) (group : List ℕ) (p : ℕ) → Contains group p → (set : Premises) →
    Contains (worldviews_beside (insert fixed p) groups) set → Contains (worldviews_beside fixed (group ∷ groups)) set
with_one fixed groups [] p has set there = absurd (omega (arith, has.1))
with_one fixed groups (one ∷ group) p has set there =
    subst (λ (l : List Premises). Contains l set)
    (sym (map-append (λ taken. union fixed (from_list taken)) (map (λ others. one ∷ others) (combinations_of groups))
    (flat_map (λ premise. map (λ others. premise ∷ others) (combinations_of groups)) group)
    ∙ ap (λ (l : List Premises). l ++ worldviews_beside fixed (group ∷ groups)) (behind_one fixed groups one (combinations_of groups))))
    (elim (Contains-append_cases (one ∷ []) group p has) [
      | inl here ↦ Contains-append_left (worldviews_beside (insert fixed one) groups) (worldviews_beside fixed (group ∷ groups)) set
          (subst (λ n. Contains (worldviews_beside (insert fixed n) groups) set) (only_number one p here) there)
      | inr later ↦ Contains-append_right (worldviews_beside (insert fixed one) groups) (worldviews_beside fixed (group ∷ groups)) set
          (with_one fixed groups group p later set there)
    ])
  where
    only_number : (one p : ℕ) → Contains (one ∷ []) p → p ≡ one
    only_number one p there = elim (Contains-push_cases [] one p there) [
      | inl none ↦ absurd (omega (arith, none.1))
      | inr same ↦ sym same
    ]

-- what was found so far: a part of the premises, such that its sets with the groups from a place on are sets of the product
pub record IsFoundSoFar (fixed w : Premises) (groups : List (List ℕ)) (start i : ℕ) (set : Premises) : Type 0 where
  pub part : is_subset set w ≡ true
  pub same : have_each w (drop start groups) ≡ have_each w (drop i groups)
  pub within : (s : Premises) → Contains (worldviews_beside set (drop i groups)) s → Contains (worldviews_beside fixed (drop start groups)) s

-- nothing but what is fixed, at first
pub found_first : (fixed w : Premises) (groups : List (List ℕ)) (start : ℕ) → is_subset fixed w ≡ true → IsFoundSoFar fixed w groups start start fixed
found_first fixed w groups start part = record { part = part; same = refl; within = λ s there. there }

-- one premise more
pub found_more : (fixed w : Premises) (groups : List (List ℕ)) (start i : ℕ) (set next : Premises) (group : List ℕ) (p : ℕ) → i < length groups →
    group ≡ slice_index_or groups i [] → IsFoundSoFar fixed w groups start i set → Contains group p → contains w p ≡ true → next ≡ insert set p →
    IsFoundSoFar fixed w groups start (i + 1) next
found_more fixed w groups start i set next group p here at found has one more = record {
  part = rw more (inserted_within set w p ∙ and_both _ _ one found.part);
  same = one_there w groups start i group at found.same here (has_one w group p has one);
  within = λ s there. found.within s
      (subst (λ (gs : List (List ℕ)). Contains (worldviews_beside set gs) s)
      (ap (λ g. g ∷ drop (i + 1) groups) at ∙ sym (drop_more groups i [] here))
      (with_one set (drop (i + 1) groups) group p has s (rw more at there)));
}

-- and at the end a set of the product
pub found_all : (fixed w : Premises) (groups : List (List ℕ)) (start i : ℕ) (set : Premises) → length groups ≤ i → IsFoundSoFar fixed w groups start i set →
    Contains (worldviews_beside fixed (drop start groups)) set × (is_subset set w ≡ true)
found_all fixed w groups start i set past found = (
  found.within set (subst (λ (l : List Premises). Contains l set)
      (sym (at_drop_all (worldviews_beside set) groups i past ∙ fixed_alone set)) (contains_first set [])),
  found.part,
)

-- ---- all combinations of some groups, with what is believed

module _ (believed : Premises) (groups : List (List ℕ)) where
  -- each has what is believed
  pub each_believes : All (λ w. is_subset believed w ≡ true) (worldviews_beside believed groups)
  each_believes = All-map (λ w. is_subset believed w ≡ true) (λ taken. union believed (from_list taken)) (combinations_of groups)
      (All-from_get_or (λ taken. is_subset believed (union believed (from_list taken)) ≡ true) (combinations_of groups) [] (λ i within.
      is_subset_union_left believed (from_list (slice_index_or (combinations_of groups) i []))))

  -- and one of each group
  pub each_has_each : All (λ w. have_each w groups ≡ true) (worldviews_beside believed groups)
  each_has_each = each_member (λ w. have_each w groups ≡ true) (worldviews_beside believed groups) (λ w there.
      (and_parts (is_subset believed w) (have_each w groups)
      (sym (product_covers believed w groups) ∙ noted_covers (worldviews_beside believed groups) w there w (is_subset_refl w))).1)

  -- so where what is believed has one of a group, each has
  pub each_has_believed : (group : List ℕ) → list_any (contains believed) group ≡ true →
      All (λ w. list_any (contains w) group ≡ true) (worldviews_beside believed groups)
  each_has_believed group has =
      All-weaker (λ w. is_subset believed w ≡ true) (λ w. list_any (contains w) group ≡ true) (λ w part.
      let one = Any-from_list_any (contains believed) group has in
      has_one w group one.1 (one.0, one.2, one.3) (is_subset-contains nat_cmp_total believed w part one.1 one.4))
      (worldviews_beside believed groups) each_believes

-- premises that have one of each of some groups have one of each of them
has_each_one : (w : Premises) (groups : List (List ℕ)) (group : List ℕ) → Contains groups group → have_each w groups ≡ true → list_any (contains w) group ≡ true
has_each_one w groups group there have = elim (cases_Bool (list_any (contains w) group)) [
  | inl has ↦ has
  | inr lacks ↦ absurd (false≢true
      (sym (list_all_at (list_any (contains w)) groups there.0 group there.1 (ap (list_any (contains w)) there.2 ∙ lacks)) ∙ have))
]

-- what has one of a part of a list has one of the list
has_of_part : (w : Premises) (part group : List ℕ) → All (Contains group) part → list_any (contains w) part ≡ true → list_any (contains w) group ≡ true
has_of_part w part group all has =
    let one = Any-from_list_any (contains w) part has in
    has_one w group one.1 (All-contains (Contains group) part one.1 all (one.0, one.2, one.3)) one.4

-- each combination has one of a list that has all of one of the groups from the place on
pub each_has_part : (believed : Premises) (groups : List (List ℕ)) (place other : ℕ) (part group : List ℕ) → place ≤ other → other < length groups →
    part ≡ slice_index_or groups other [] → All (Contains group) part →
    All (λ w. list_any (contains w) group ≡ true) (worldviews_beside believed (drop place groups))
each_has_part believed groups place other part group past here at all =
    All-weaker (λ w. have_each w (drop place groups) ≡ true) (λ w. list_any (contains w) group ≡ true) (λ w have.
    has_of_part w part group all (has_each_one w (drop place groups) part there have))
    (worldviews_beside believed (drop place groups)) (each_has_each believed (drop place groups))
  where
    there : Contains (drop place groups) part
    there =
        let sum : place + (other - place) ≡ other = omega (arith, past) in (
          other - place,
          omega (arith, past, here, length-drop place groups),
          get_or-drop place groups (other - place) part ∙ ap (λ n. slice_index_or groups n part) sum ∙ get_or_default groups other part [] here ∙ sym at,
        )

-- a test finds each of the part in the list
pub all_found : (part group : List ℕ) → list_all (λ p. list_any (λ n. nat_eq n p) group) part ≡ true → All (Contains group) part
all_found [] group found = All-nil (Contains group)
all_found (p ∷ part) group found =
    let both = and_parts _ _ found in
    All-cons (Contains group) p part (is_there group p _ refl both.0) (all_found part group both.1)

module _ (own : List (List ℕ)) (start : ℕ) (believed : Premises) (groups : List (List ℕ)) where
  -- each combination has one of each group of a product before this one
  abbrev pub HaveThoseBefore : ℕ → Type 0
  HaveThoseBefore i = All (λ w. have_each w (drop start own) ≡ have_each w (drop i own)) (worldviews_beside believed groups)

  pub none_before : HaveThoseBefore start
  none_before = λ k d below. refl

  pub one_before : (i : ℕ) (group : List ℕ) → group ≡ slice_index_or own i [] → i < length own → HaveThoseBefore i →
      All (λ w. list_any (contains w) group ≡ true) (worldviews_beside believed groups) → HaveThoseBefore (i + 1)
  one_before i group at here before has = λ k d below.
      one_there (slice_index_or (worldviews_beside believed groups) k d) own start i group at (before k d below) here (has k d below)

  -- so the product covers each
  pub covers_all : (fixed : Premises) (i : ℕ) → is_subset fixed believed ≡ true → length own ≤ i → HaveThoseBefore i →
      All (λ w. covers (worldviews_beside fixed (drop start own)) w ≡ true) (worldviews_beside believed groups)
  covers_all fixed i part past before = λ k d below.
      let w : Premises = slice_index_or (worldviews_beside believed groups) k d in
      product_covers fixed w (drop start own)
      ∙ and_both _ _ (is_subset_trans fixed believed w part (each_believes believed groups k d below)) (all_there w own start i (before k d below) past)

-- ---- several products

-- the sets of one are sets of all
pub each_in : (products : List Product) (one : Product) → Contains products one → (set : Premises) → Contains (sets_in one) set →
    Contains (sets_in_each products) set
each_in [] one has set there = absurd (omega (arith, has.1))
each_in (product ∷ products) one has set there = elim (Contains-append_cases (product ∷ []) products one has) [
  | inl here ↦ Contains-append_left (sets_in product) (sets_in_each products) set
      (subst (λ (p : Product). Contains (sets_in p) set) (same_product product one here) there)
  | inr later ↦ Contains-append_right (sets_in product) (sets_in_each products) set (each_in products one later set there)
]
  where
    same_product : (product one : Product) → Contains (product ∷ []) one → one ≡ product
    same_product product one there = elim (Contains-push_cases [] product one there) [
      | inl none ↦ absurd (omega (arith, none.1))
      | inr same ↦ sym same
    ]

-- so all cover what one covers
pub covers_in : (products : List Product) (one : Product) → Contains products one → (w : Premises) → covers (sets_in one) w ≡ true →
    covers (sets_in_each products) w ≡ true
covers_in products one has w covered =
    let some = Any-from_list_any (λ set. is_subset set w) (sets_in one) covered in
    noted_covers (sets_in_each products) some.1 (each_in products one has some.1 (some.0, some.2, some.3)) w some.4

-- one more product that covers nothing
pub none_covers_more : (products : List Product) (i : ℕ) (d : Product) (w : Premises) → i < length products → covers (sets_in_each (take i products)) w ≡ false →
    covers (sets_in (slice_index_or products i d)) w ≡ false → covers (sets_in_each (take (i + 1) products)) w ≡ false
none_covers_more products i d w within none one =
    ap (λ (l : List Premises). covers l w) (ap sets_in_each (take_more products i d within) ∙ flat_map-append sets_in (take i products) (slice_index_or products i d ∷ []))
    ∙ covers_both (sets_in_each (take i products)) (sets_in_each (slice_index_or products i d ∷ [])) w
    ∙ ap (λ b. b || covers (sets_in_each (slice_index_or products i d ∷ [])) w) none
    ∙ ap (λ (l : List Premises). covers l w) (append-nil (sets_in (slice_index_or products i d))) ∙ one

-- all products
pub none_of_all : (products : List Product) (i : ℕ) (w : Premises) → length products ≤ i → covers (sets_in_each (take i products)) w ≡ false →
    covers (sets_in_each products) w ≡ false
none_of_all products i w past none = ap (λ l. covers (sets_in_each l) w) (sym (take_all i products past)) ∙ none

-- ---- after a product was added to other sets, or not

-- past the last group a product is one set
pub one_set : (fixed : Premises) (groups : List (List ℕ)) (place : ℕ) → length groups ≤ place → worldviews_beside fixed (drop place groups) ≡ fixed ∷ []
one_set fixed groups place past = at_drop_all (worldviews_beside fixed) groups place past ∙ fixed_alone fixed

-- which covers what includes it
pub one_set_covers : (fixed : Premises) (groups : List (List ℕ)) (place : ℕ) → length groups ≤ place → (old new : List Premises) →
    ((w : Premises) → covers new w ≡ (is_subset fixed w || covers old w)) →
    (w : Premises) → covers new w ≡ (covers (worldviews_beside fixed (drop place groups)) w || covers old w)
one_set_covers fixed groups place past old new more w =
    more w ∙ ap (λ b. b || covers old w) (sym (ap (λ (l : List Premises). covers l w) (one_set fixed groups place past) ∙ by_test (is_subset fixed w)))
  where
    by_test : (b : Bool) → (b || false) ≡ b
    by_test true = refl
    by_test false = refl

-- and is its only one
pub one_set_there : (fixed : Premises) (groups : List (List ℕ)) (place : ℕ) → length groups ≤ place → (before : List Premises) (set : Premises) →
    (set ≡ fixed) ⊎ Contains before set → Contains (worldviews_beside fixed (drop place groups)) set ⊎ Contains before set
one_set_there fixed groups place past before set (inl same) =
    inl (subst (λ (s : Premises). Contains (worldviews_beside fixed (drop place groups)) s) (sym same)
    (subst (λ (l : List Premises). Contains l fixed) (sym (one_set fixed groups place past)) (contains_first fixed [])))
one_set_there fixed groups place past before set (inr other) = inr other

-- each set was there before, or is one of those that were added
pub noted_last : {T E : Type 0} (r : Result T E) (one other old new more before : List Premises) → one ++ (other ++ old) ≡ before →
    OnOk r (new ≡ old ++ more) → OnErr r (new ≡ old) → (set : Premises) → Contains (one ++ (other ++ new)) set → Contains more set ⊎ Contains before set
noted_last {T} {E} r one other old new more before are added same set there = by_result r added same where
  among : (there : Contains (one ++ (other ++ old)) set) → Contains before set
  among there = subst (λ (l : List Premises). Contains l set) are there

  in_last : Contains old set → Contains before set
  in_last there = among (Contains-append_right one (other ++ old) set (Contains-append_right other old set there))

  by_result : (r : Result T E) → OnOk r (new ≡ old ++ more) → OnErr r (new ≡ old) → Contains more set ⊎ Contains before set
  by_result (Ok x) added same = elim (Contains-append_cases one (other ++ new) set there) [
    | inl first ↦ inr (among (Contains-append_left one (other ++ old) set first))
    | inr later ↦ elim (Contains-append_cases other new set later) [
      | inl second ↦ inr (among (Contains-append_right one (other ++ old) set (Contains-append_left other old set second)))
      | inr last ↦ elim (Contains-append_cases old more set (subst (λ (l : List Premises). Contains l set) added last)) [
        | inl before ↦ inr (in_last before)
        | inr new ↦ inl new
      ]
    ]
  ]
  by_result (Err e) added same = inr (among (subst (λ (l : List Premises). Contains (one ++ (other ++ l)) set) same there))

-- what the last of three parts covers is covered
pub covers_last : (one other last all : List Premises) → one ++ (other ++ last) ≡ all → (w : Premises) → covers last w ≡ true → covers all w ≡ true
covers_last one other last all are w covered =
    subst (λ (l : List Premises). covers l w ≡ true) are
    (covers_both one (other ++ last) w ∙ or_right _ _ (covers_both other last w ∙ or_right _ _ covered))
