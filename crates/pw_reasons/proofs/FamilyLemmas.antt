-- Families of sets of premises: which premises a branch covers, and one more set.
use Rattle.std.proofs.Common.{◌≡◌, ℕ, ◌<◌, Bool, true, false, not, ◌||◌, ◌&&◌, ◌⊎◌, ◌↔◌, nat_eq, List, [], ◌∷◌, ◌++◌, Contains, map, refl, sym, ap, ◌∙◌, subst, inl, inr, arith, Result, Ok, Err}
use Rattle.std.specs.Prelude.{IfSome, None, OnErr, OnOk, Option, Some}
use Rattle.std.specs.Cmp.{nat_cmp_total, both_ways, unsigned_tied}
use Rattle.std.specs.Ordering.{nat_cmp, eq_by_cmp}
use Rattle.std.specs.FinSet.{contains, contains-from_list_nat, contains-insert, contains-is_subset, contains-difference, contains-empty, contains-union, difference, empty, from_list, from_list_push, insert, is_subset, is_subset-contains, nat_cmp-IsAntisymmetric, same_set, union}
use Rattle.std.specs.List.{list_any}
use Rattle.std.proofs.lemmas.Bool.{false≢true, or_cases}
use Rattle.std.proofs.lemmas.Bool.Decides.{nat_tests}
use Rattle.std.proofs.lemmas.List.{map-append}
use Rattle.std.proofs.lemmas.List.Elements.{Contains-append_cases, Contains-append_left, Contains-append_right, Contains-push_cases}
use Rattle.std.proofs.lemmas.List.Folds.{Any-from_list_any, list_any-append, list_any-from_Any}
use Rattle.pw_premises.specs.Premises.{Premises, most_premises, numbers_of}
use Rattle.pw_premises.specs.PremiseSubsets.{empty_is_subset, union_is_subset}
use Rattle.pw_premises.proofs.NumberLists.{numbers_of-members}
use Rattle.pw_settle.proofs.Membership.{contains_first, contains_map}
use Rattle.pw_reasons.specs.Nogood.{covers}
use Rattle.pw_reasons.proofs.NogoodLemmas.{covers_already}
use Rattle.pw_reasons.specs.declared.family.Branch.{Branch}
use Rattle.pw_reasons.specs.declared.family.Family.{Family}
use Rattle.pw_reasons.specs.inside.Families.{HasOneMore, joined_with, sets_of}

-- ---- one more premise in a set

pub self_tied : (n : ℕ) → eq_by_cmp nat_cmp n n ≡ true
self_tied n = unsigned_tied n n ∙ grind (arith, nat_tests)

pub tied_same : (q n : ℕ) → eq_by_cmp nat_cmp q n ≡ true → q ≡ n
tied_same q n tied = let same = sym (unsigned_tied q n) ∙ tied in grind (arith, nat_tests)

pub contains_inserted : (set : Premises) (n q : ℕ) → contains (insert set n) q ≡ (eq_by_cmp nat_cmp q n || contains set q)
contains_inserted set n q = contains-insert nat_cmp_total set n q

pub or_left : (a b : Bool) → a ≡ true → (a || b) ≡ true
or_left true b is = refl
or_left false b is = absurd (false≢true is)

pub or_right : (a b : Bool) → b ≡ true → (a || b) ≡ true
or_right true b is = refl
or_right false b is = is

pub and_parts : (a b : Bool) → (a && b) ≡ true → (a ≡ true) × (b ≡ true)
and_parts true b both = (refl, both)
and_parts false b both = absurd (false≢true both)

pub and_both : (a b : Bool) → a ≡ true → b ≡ true → (a && b) ≡ true
and_both true b one other = other
and_both false b one other = absurd (false≢true one)

-- a set with one more premise is a subset exactly if both are in
pub inserted_within : (set w : Premises) (n : ℕ) → is_subset (insert set n) w ≡ (contains w n && is_subset set w)
inserted_within set w n = both_ways _ _
    (λ all. and_both _ _
    (is_subset-contains nat_cmp_total (insert set n) w all n (contains_inserted set n n ∙ or_left _ _ (self_tied n)))
    (contains-is_subset nat_cmp_total set w (λ q one.
    is_subset-contains nat_cmp_total (insert set n) w all q (contains_inserted set n q ∙ or_right _ _ one))))
    (λ both. contains-is_subset nat_cmp_total (insert set n) w (λ q one.
    elim (or_cases (eq_by_cmp nat_cmp q n) (contains set q) (sym (contains_inserted set n q) ∙ one)) [
      | inl tied ↦ ap (contains w) (tied_same q n tied) ∙ (and_parts _ _ both).0
      | inr old ↦ is_subset-contains nat_cmp_total set w (and_parts _ _ both).1 q old
    ]))

-- the only set of a list
pub only : (one set : Premises) → Contains (one ∷ []) set → set ≡ one
only one set there = elim (Contains-push_cases [] one set there) [
  | inl none ↦ absurd (omega (arith, none.1))
  | inr same ↦ sym same
]

-- two lists cover what either covers
pub covers_both : (sets others : List Premises) (w : Premises) → covers (sets ++ others) w ≡ (covers sets w || covers others w)
covers_both sets others w = list_any-append (λ noted. is_subset noted w) sets others

-- ---- a branch

module _ (premise : ℕ) where
  -- the sets with this premise
  abbrev each_with : List Premises → List Premises
  each_with sets = map (λ (set : Premises). insert set premise) sets

  each_covers : (sets : List Premises) (w : Premises) → covers (each_with sets) w ≡ (contains w premise && covers sets w)
  each_covers [] w = by_test (contains w premise) where
    by_test : (b : Bool) → false ≡ (b && false)
    by_test true = refl
    by_test false = refl
  each_covers (set ∷ sets) w =
      (λ i. inserted_within set w premise i || each_covers sets w i)
      ∙ by_test (contains w premise) (is_subset set w) (covers sets w)
    where
      by_test : (b one more : Bool) → ((b && one) || (b && more)) ≡ (b && (one || more))
      by_test true one more = refl
      by_test false one more = refl

  -- a branch covers what its sets with the premise cover, if the premise is there, and what those without it do
  pub branch_covers : (sets others : List Premises) (w : Premises) →
      covers (each_with sets ++ others) w ≡ ((contains w premise && covers sets w) || covers others w)
  branch_covers sets others w =
      list_any-append (λ noted. is_subset noted w) (each_with sets) others ∙ ap (λ b. b || covers others w) (each_covers sets w)

  -- a set found among those with the premise
  pub found_with : (sets others : List Premises) (set w : Premises) → Contains sets set × (is_subset set w ≡ true) → contains w premise ≡ true →
      Contains (each_with sets ++ others) (insert set premise) × (is_subset (insert set premise) w ≡ true)
  found_with sets others set w found has = (
    Contains-append_left (each_with sets) others (insert set premise) (contains_map (λ (s : Premises). insert s premise) sets set found.0),
    inserted_within set w premise ∙ and_both _ _ has found.1,
  )

  -- or among the others
  pub found_without : (sets others : List Premises) (set : Premises) → Contains others set → Contains (each_with sets ++ others) set
  found_without sets others set there = Contains-append_right (each_with sets) others set there

  -- what a set with the premise covers is covered
  pub covered_with : (sets others : List Premises) (w : Premises) → contains w premise ≡ true → covers sets w ≡ true →
      covers (each_with sets ++ others) w ≡ true
  covered_with sets others w has covered = branch_covers sets others w ∙ ap (λ b. b || covers others w) (and_both _ _ has covered)

  -- otherwise it is for the others to cover it
  pub covered_without : (sets others : List Premises) (w : Premises) → (contains w premise && covers sets w) ≡ false →
      covers (each_with sets ++ others) w ≡ covers others w
  covered_without sets others w one = branch_covers sets others w ∙ ap (λ b. b || covers others w) one

  -- nothing is covered if neither is
  pub not_covered : (sets others : List Premises) (w : Premises) → (contains w premise && covers sets w) ≡ false → covers others w ≡ false →
      covers (each_with sets ++ others) w ≡ false
  not_covered sets others w one other = branch_covers sets others w ∙ ap (λ b. b || covers others w) one ∙ other

-- ---- one more set

-- in front of the others
pub more_first : (premises : Premises) (old : List Premises) → HasOneMore old (premises ∷ old) premises
more_first premises old = record {
  covered = λ w. refl;
  within = λ set there. elim (Contains-append_cases (premises ∷ []) old set there) [
    | inl here ↦ inl (only premises set here)
    | inr before ↦ inr before
  ];
}

-- in the first of two lists
pub more_left : (old new others : List Premises) (premises : Premises) → HasOneMore old new premises →
    HasOneMore (old ++ others) (new ++ others) premises
more_left old new others premises more = record {
  covered = λ w. covers_both new others w ∙ ap (λ b. b || covers others w) (more.covered w)
      ∙ by_test (is_subset premises w) (covers old w) (covers others w)
      ∙ ap (λ b. is_subset premises w || b) (sym (covers_both old others w));
  within = λ set there. elim (Contains-append_cases new others set there) [
    | inl one ↦ elim (more.within set one) [
      | inl same ↦ inl same
      | inr before ↦ inr (Contains-append_left old others set before)
    ]
    | inr other ↦ inr (Contains-append_right old others set other)
  ];
}
  where
    by_test : (a b c : Bool) → ((a || b) || c) ≡ (a || (b || c))
    by_test true b c = refl
    by_test false b c = refl

-- or in the other
pub more_right : (others old new : List Premises) (premises : Premises) → HasOneMore old new premises →
    HasOneMore (others ++ old) (others ++ new) premises
more_right others old new premises more = record {
  covered = λ w. covers_both others new w ∙ ap (λ b. covers others w || b) (more.covered w)
      ∙ by_test (covers others w) (is_subset premises w) (covers old w)
      ∙ ap (λ b. is_subset premises w || b) (sym (covers_both others old w));
  within = λ set there. elim (Contains-append_cases others new set there) [
    | inl one ↦ inr (Contains-append_left others old set one)
    | inr other ↦ elim (more.within set other) [
      | inl same ↦ inl same
      | inr before ↦ inr (Contains-append_right others old set before)
    ]
  ];
}
  where
    by_test : (a b c : Bool) → (a || (b || c)) ≡ (b || (a || c))
    by_test true true c = refl
    by_test true false c = refl
    by_test false b c = refl

-- none if a part of it is there already
pub more_already : (sets : List Premises) (premises : Premises) → covers sets premises ≡ true → HasOneMore sets sets premises
more_already sets premises covered = record {
  covered = covers_already premises sets covered;
  within = λ set there. inr there;
}

-- ---- sets together with premises that were passed

joined_one_more : (passed set : Premises) (n : ℕ) → union passed (insert set n) ≡ union (insert passed n) set
joined_one_more passed set n = same_set nat_cmp_total nat_cmp-IsAntisymmetric _ _ (λ q.
    contains-union nat_cmp_total passed (insert set n) q ∙ ap (λ b. contains passed q || b) (contains_inserted set n q)
    ∙ by_test (contains passed q) (eq_by_cmp nat_cmp q n) (contains set q)
    ∙ sym (contains-union nat_cmp_total (insert passed n) set q ∙ ap (λ b. b || contains set q) (contains_inserted passed n q)))
  where
    by_test : (a b c : Bool) → (a || (b || c)) ≡ ((b || a) || c)
    by_test true true c = refl
    by_test true false c = refl
    by_test false true c = refl
    by_test false false c = refl

joined_each : (passed : Premises) (n : ℕ) (sets : List Premises) →
    joined_with passed (map (λ (set : Premises). insert set n) sets) ≡ joined_with (insert passed n) sets
joined_each passed n [] = refl
joined_each passed n (set ∷ sets) = λ i. joined_one_more passed set n i ∷ joined_each passed n sets i

-- those of a branch
pub joined_branch : (passed : Premises) (n : ℕ) (sets others : List Premises) →
    joined_with passed (map (λ (set : Premises). insert set n) sets ++ others) ≡ joined_with (insert passed n) sets ++ joined_with passed others
joined_branch passed n sets others =
    map-append (λ (set : Premises). union passed set) (map (λ (set : Premises). insert set n) sets) others
    ∙ ap (λ (l : List Premises). l ++ joined_with passed others) (joined_each passed n sets)

-- without any premise each set stays
joined_with_none : (set : Premises) → union empty set ≡ set
joined_with_none set = same_set nat_cmp_total nat_cmp-IsAntisymmetric _ _ (λ q.
    contains-union nat_cmp_total empty set q ∙ ap (λ b. b || contains set q) (contains-empty nat_cmp q))

pub all_joined_with_none : (sets : List Premises) → joined_with empty sets ≡ sets
all_joined_with_none [] = refl
all_joined_with_none (set ∷ sets) = λ i. joined_with_none set i ∷ all_joined_with_none sets i

-- the rest of a set, together with a part of it
joined_rest : (passed premises : Premises) → is_subset passed premises ≡ true → union passed (difference premises passed) ≡ premises
joined_rest passed premises part = same_set nat_cmp_total nat_cmp-IsAntisymmetric _ _ (λ q.
    contains-union nat_cmp_total passed (difference premises passed) q
    ∙ ap (λ b. contains passed q || b) (contains-difference nat_cmp_total premises passed q)
    ∙ by_test (contains passed q) (contains premises q) (is_subset-contains nat_cmp_total passed premises part q))
  where
    by_test : (a b : Bool) → (a ≡ true → b ≡ true) → (a || (b && not a)) ≡ b
    by_test true b both = sym (both refl)
    by_test false true both = refl
    by_test false false both = refl

-- the family of the rest alone
pub more_rest : (passed premises : Premises) → is_subset passed premises ≡ true →
    HasOneMore (joined_with passed []) (joined_with passed (difference premises passed ∷ [])) premises
more_rest passed premises part = rw (joined_rest passed premises part) (more_first premises [])

-- the premises passed are a set of the family
pub more_nil : (passed premises : Premises) → is_subset passed premises ≡ true →
    HasOneMore (joined_with passed (empty ∷ [])) (joined_with passed (empty ∷ [])) premises
more_nil passed premises part = more_already (union passed empty ∷ []) premises (ap (λ b. b || false) within) where
  within : is_subset (union passed empty) premises ≡ true
  within = union_is_subset passed empty premises part (empty_is_subset premises)

-- one more set among those with the premise
pub more_with : (passed premises : Premises) (n : ℕ) (old new others : List Premises) →
    HasOneMore (joined_with (insert passed n) old) (joined_with (insert passed n) new) premises →
    HasOneMore (joined_with passed (map (λ (set : Premises). insert set n) old ++ others))
    (joined_with passed (map (λ (set : Premises). insert set n) new ++ others)) premises
more_with passed premises n old new others more =
    rw (joined_branch passed n old others) (rw (joined_branch passed n new others)
    (more_left (joined_with (insert passed n) old) (joined_with (insert passed n) new) (joined_with passed others) premises more))

-- one more set among those without it
pub more_without : (passed premises : Premises) (n : ℕ) (sets old new : List Premises) →
    HasOneMore (joined_with passed old) (joined_with passed new) premises →
    HasOneMore (joined_with passed (map (λ (set : Premises). insert set n) sets ++ old))
    (joined_with passed (map (λ (set : Premises). insert set n) sets ++ new)) premises
more_without passed premises n sets old new more =
    rw (joined_branch passed n sets old) (rw (joined_branch passed n sets new)
    (more_right (joined_with (insert passed n) sets) (joined_with passed old) (joined_with passed new) premises more))

-- a premise of the set is passed
pub one_more_passed : (passed new premises : Premises) (n : ℕ) → new ≡ insert passed n → true ≡ contains premises n → is_subset passed premises ≡ true →
    is_subset new premises ≡ true
one_more_passed passed new premises n more has part = rw more (inserted_within passed premises n ∙ and_both _ _ (sym has) part)

-- where no premise is passed
pub more_past_none : (old new : List Premises) (none premises : Premises) → none ≡ empty →
    HasOneMore (joined_with none old) (joined_with none new) premises → HasOneMore old new premises
more_past_none old new none premises is more = subst (λ (l : List Premises). HasOneMore l new premises) (all_joined_with_none old)
    (subst (λ (l : List Premises). HasOneMore (joined_with empty old) l premises) (all_joined_with_none new) (rw is at more))

-- ---- the set of no premise

-- is in the family of it alone, and a subset of each
pub nil_within : (w : Premises) → Contains {X = Premises} (empty ∷ []) empty × (is_subset {R = nat_cmp} empty w ≡ true)
nil_within w = (contains_first empty [], empty_is_subset w)

-- so it covers each
pub nil_covers : (w : Premises) → covers (empty ∷ []) w ≡ true
nil_covers w = ap (λ b. b || false) (empty_is_subset w)

-- ---- a test of two

-- fails if either fails
pub neither : ((a b : Bool) → a ≡ false → (a && b) ≡ false) × ((a b : Bool) → b ≡ false → (a && b) ≡ false)
neither = (first_fails, other_fails) where
  first_fails : (a b : Bool) → a ≡ false → (a && b) ≡ false
  first_fails a b fails = ap (λ c. c && b) fails

  other_fails : (a b : Bool) → b ≡ false → (a && b) ≡ false
  other_fails true b fails = fails
  other_fails false b fails = refl

-- ---- the numbers of a set

-- each number of a set in the code is below the limit
pub members_below : (premises : Premises) (numbers : List ℕ) → numbers ≡ numbers_of premises →
    ((q : ℕ) → Contains numbers q ↔ (contains premises q ≡ true)) → (q : ℕ) → contains premises q ≡ true → q < most_premises
members_below premises numbers are members q has =
    ((numbers_of-members premises q).0 (subst (λ (l : List ℕ). Contains l q) are ((members q).1 has))).0

-- a set is made of its numbers
pub made_of_numbers : (premises : Premises) (numbers : List ℕ) → ((q : ℕ) → Contains numbers q ↔ (contains premises q ≡ true)) → from_list numbers ≡ premises
made_of_numbers premises numbers members = same_set nat_cmp_total nat_cmp-IsAntisymmetric _ _ (λ q.
    contains-from_list_nat numbers q
    ∙ both_ways _ _
    (λ found. (members q).0 (any_contained numbers q found))
    (λ has. contained_any numbers q ((members q).1 has)))
  where
    any_contained : (numbers : List ℕ) (q : ℕ) → list_any (λ y. nat_eq y q) numbers ≡ true → Contains numbers q
    any_contained numbers q found =
        let some = Any-from_list_any (λ y. nat_eq y q) numbers found in
        subst (Contains numbers) (let same = some.4 in grind (arith, nat_tests)) (some.0, some.2, some.3)

    contained_any : (numbers : List ℕ) (q : ℕ) → Contains numbers q → list_any (λ y. nat_eq y q) numbers ≡ true
    contained_any numbers q has = list_any-from_Any (λ y. nat_eq y q) numbers (has.0, q, has.1, has.2, grind (arith, nat_tests))

-- ---- a chain of branches

-- the sets of a branch
abbrev pub sets_under : {A : Type 0} → Branch A → List Premises
sets_under branch = map (λ set. insert set branch.premise) (sets_of branch.with) ++ sets_of branch.without

-- the set of the premises so far, with one more
pub chain_longer : (sets : List Premises) (so_far : List ℕ) (premise : ℕ) → sets ≡ from_list so_far ∷ [] →
    map (λ (set : Premises). insert set premise) sets ++ [] ≡ from_list (so_far ++ premise ∷ []) ∷ []
chain_longer sets so_far premise are =
    ap (λ (l : List Premises). map (λ (set : Premises). insert set premise) l ++ []) are
    ∙ (λ i. sym (from_list_push nat_cmp_total nat_cmp-IsAntisymmetric so_far premise) i ∷ [])

-- ---- after a set was added to one of two parts, or not

module _ {T E : Type 0} (r : Result T E) (premises : Premises) where
  -- each set was there before, or is the one that was added
  pub noted_left : (old new others before : List Premises) → old ++ others ≡ before → OnOk r (HasOneMore old new premises) → OnErr r (new ≡ old) →
      (set : Premises) → Contains (new ++ others) set → (set ≡ premises) ⊎ Contains before set
  noted_left old new others before are more same set there = by_result r more same where
    by_result : (r : Result T E) → OnOk r (HasOneMore old new premises) → OnErr r (new ≡ old) → (set ≡ premises) ⊎ Contains before set
    by_result (Ok x) more same = elim ((more_left old new others premises more).within set there) [
      | inl one ↦ inl one
      | inr other ↦ inr (subst (λ (l : List Premises). Contains l set) are other)
    ]
    by_result (Err e) more same = inr (subst (λ (l : List Premises). Contains l set) (ap (λ (l : List Premises). l ++ others) same ∙ are) there)

  -- the same for a family between other parts
  pub noted_between : {A : Type 0} (front : List Premises) (old new : Family A) (back before : List Premises) → front ++ (sets_of old ++ back) ≡ before →
      OnOk r (HasOneMore (sets_of old) (sets_of new) premises) → OnErr r (new ≡ old) →
      (set : Premises) → Contains (front ++ (sets_of new ++ back)) set → (set ≡ premises) ⊎ Contains before set
  noted_between front old new back before are more same set there = by_result r more same where
    by_result : (r : Result T E) → OnOk r (HasOneMore (sets_of old) (sets_of new) premises) → OnErr r (new ≡ old) → (set ≡ premises) ⊎ Contains before set
    by_result (Ok x) more same =
        elim ((more_right front (sets_of old ++ back) (sets_of new ++ back) premises (more_left (sets_of old) (sets_of new) back premises more)).within set there) [
          | inl one ↦ inl one
          | inr other ↦ inr (subst (λ (l : List Premises). Contains l set) are other)
        ]
    by_result (Err e) more same = inr (subst (λ (l : List Premises). Contains l set) (ap (λ f. front ++ (sets_of f ++ back)) same ∙ are) there)

-- what is found in the other part is found
pub found_right : (r : Option Premises) (others sets all : List Premises) (w : Premises) → others ++ sets ≡ all →
    IfSome r (λ set. Contains sets set × (is_subset set w ≡ true)) → IfSome r (λ set. Contains all set × (is_subset set w ≡ true))
found_right (Some set) others sets all w are found =
    (subst (λ (l : List Premises). Contains l set) are (Contains-append_right others sets set found.0), found.1)
found_right None others sets all w are found = tt
