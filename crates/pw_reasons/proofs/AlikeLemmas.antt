-- Sets that refute the premises of a group alike: what is noted of them, and what waits.
use Rattle.std.proofs.Common.{◌≡◌, ℕ, ◌+◌, ◌<◌, ◌≤◌, zero, suc, Bool, true, false, not, ◌||◌, ◌&&◌, ◌⊎◌, List, [], ◌∷◌, ◌++◌, Contains, Option, None, Some, Result, Ok, Err, length, take, refl, sym, ap, ◌∙◌, subst, inl, inr, arith, append-nil}
use Rattle.std.specs.Prelude.{IfNone, IfSome, OnErr, OnOk, slice_index_or}
use Rattle.std.specs.List.{flat_map}
use Rattle.std.specs.Cmp.{nat_cmp_total}
use Rattle.std.specs.Ordering.{nat_cmp, eq_by_cmp}
use Rattle.std.specs.FinSet.{contains, contains-remove, insert, nat_cmp-IsAntisymmetric, remove, same_set}
use Rattle.std.proofs.lemmas.Grind.{flat_map-append}
use Rattle.std.proofs.lemmas.List.{take_more}
use Rattle.std.proofs.lemmas.List.Elements.{Contains-append_cases, Contains-append_left, Contains-append_right}
use Rattle.pw_premises.specs.Premises.{Premises}
use Rattle.pw_reasons.specs.Nogood.{covers}
use Rattle.pw_reasons.specs.inside.Alike.{HasMore, MayHaveMore, beside, pending}
use Rattle.pw_reasons.specs.inside.Products.{worldviews_beside}
use Rattle.pw_reasons.proofs.FamilyLemmas.{contains_inserted, covers_both, or_right, tied_same}

-- ---- noted one after the other

none_more : (set : Premises) → Contains {X = Premises} [] set → ⊥
none_more set there = omega (arith, there.1)

-- nothing was noted
pub has_none : (old : List Premises) → HasMore old old []
has_none old = record { covered = λ w. refl; within = λ set there. inr there }

pub may_have_none : (old others : List Premises) → MayHaveMore old old others
may_have_none old others = record { covers_more = λ w covered. covered; within = λ set there. inr there }

-- what was noted may have been
pub may_have : (old new others : List Premises) → HasMore old new others → MayHaveMore old new others
may_have old new others has = record {
  covers_more = λ w covered. has.covered w ∙ or_right _ _ covered;
  within = has.within;
}

swapped : (a b c : Bool) → (b || (a || c)) ≡ ((a || b) || c)
swapped true true c = refl
swapped true false c = refl
swapped false true c = refl
swapped false false c = refl

-- first the ones, then the others
pub has_both : (old middle new one other : List Premises) → HasMore old middle one → HasMore middle new other → HasMore old new (one ++ other)
has_both old middle new one other first then = record {
  covered = λ w. then.covered w ∙ ap (λ b. covers other w || b) (first.covered w) ∙ swapped (covers one w) (covers other w) (covers old w)
      ∙ ap (λ b. b || covers old w) (sym (covers_both one other w));
  within = λ set there. elim (then.within set there) [
    | inl last ↦ inl (Contains-append_right one other set last)
    | inr before ↦ elim (first.within set before) [
      | inl mine ↦ inl (Contains-append_left one other set mine)
      | inr oldest ↦ inr oldest
    ]
  ];
}

pub may_have_both : (old middle new one other : List Premises) → MayHaveMore old middle one → MayHaveMore middle new other → MayHaveMore old new (one ++ other)
may_have_both old middle new one other first then = record {
  covers_more = λ w covered. then.covers_more w (first.covers_more w covered);
  within = λ set there. elim (then.within set there) [
    | inl last ↦ inl (Contains-append_right one other set last)
    | inr before ↦ elim (first.within set before) [
      | inl mine ↦ inl (Contains-append_left one other set mine)
      | inr oldest ↦ inr oldest
    ]
  ];
}

-- of no more than these
pub may_have_fewer : (old new others all : List Premises) → ((set : Premises) → Contains others set → Contains all set) → MayHaveMore old new others →
    MayHaveMore old new all
may_have_fewer old new others all among has = record {
  covers_more = has.covers_more;
  within = λ set there. elim (has.within set there) [
    | inl mine ↦ inl (among set mine)
    | inr before ↦ inr before
  ];
}

-- in either order
pub may_have_swapped : (old new one other : List Premises) → MayHaveMore old new (one ++ other) → MayHaveMore old new (other ++ one)
may_have_swapped old new one other has = may_have_fewer old new (one ++ other) (other ++ one) (λ set there. elim (Contains-append_cases one other set there) [
  | inl mine ↦ Contains-append_right other one set mine
  | inr others ↦ Contains-append_left other one set others
]) has

-- ---- premise by premise

module _ (fixed : Premises) (rest : List (List ℕ)) (group : List ℕ) (i : ℕ) (within : i < length group) where
  -- those of one premise more
  pub more_beside : flat_map (beside fixed rest) (take (i + 1) group) ≡ flat_map (beside fixed rest) (take i group) ++ beside fixed rest (slice_index_or group i 0)
  more_beside = ap (flat_map (beside fixed rest)) (take_more group i 0 within)
      ∙ flat_map-append (beside fixed rest) (take i group) (slice_index_or group i 0 ∷ [])
      ∙ ap (λ ys. flat_map (beside fixed rest) (take i group) ++ ys) (append-nil (beside fixed rest (slice_index_or group i 0)))

  pub noted_more : (old middle new : List Premises) → HasMore old middle (flat_map (beside fixed rest) (take i group)) →
      HasMore middle new (beside fixed rest (slice_index_or group i 0)) → HasMore old new (flat_map (beside fixed rest) (take (i + 1) group))
  noted_more old middle new first then =
      subst (HasMore old new) (sym more_beside) (has_both old middle new (flat_map (beside fixed rest) (take i group)) (beside fixed rest (slice_index_or group i 0)) first then)

  -- one premise more waits with those before
  pub waits : (nogoods : List Premises) →
      HasMore (flat_map (beside fixed rest) (take i group) ++ nogoods) (flat_map (beside fixed rest) (take (i + 1) group) ++ nogoods) (beside fixed rest (slice_index_or group i 0))
  waits nogoods = record {
    covered = λ w. covers_both (flat_map (beside fixed rest) (take (i + 1) group)) nogoods w
        ∙ ap (λ b. b || covers nogoods w) (ap (λ l. covers l w) more_beside ∙ covers_both (flat_map (beside fixed rest) (take i group)) (beside fixed rest (slice_index_or group i 0)) w)
        ∙ sym (swapped (covers (flat_map (beside fixed rest) (take i group)) w) (covers (beside fixed rest (slice_index_or group i 0)) w) (covers nogoods w))
        ∙ ap (λ b. covers (beside fixed rest (slice_index_or group i 0)) w || b) (sym (covers_both (flat_map (beside fixed rest) (take i group)) nogoods w));
    within = λ set there. elim (Contains-append_cases (flat_map (beside fixed rest) (take (i + 1) group)) nogoods set there) [
      | inl waiting ↦ elim (Contains-append_cases (flat_map (beside fixed rest) (take i group)) (beside fixed rest (slice_index_or group i 0)) set
          (subst (λ l. Contains l set) more_beside waiting)) [
            | inl before ↦ inr (Contains-append_left (flat_map (beside fixed rest) (take i group)) nogoods set before)
            | inr new ↦ inl new
          ]
      | inr noted ↦ inr (Contains-append_right (flat_map (beside fixed rest) (take i group)) nogoods set noted)
    ];
  }

-- those of the first premises are among those of more of them
fewer_of : (f : ℕ → List Premises) (set : Premises) (group : List ℕ) (i count : ℕ) → i ≤ count → Contains (flat_map f (take i group)) set →
    Contains (flat_map f (take count group)) set
fewer_of f set [] zero count few there = absurd (none_more set there)
fewer_of f set [] (suc i) zero few there = absurd (omega (arith, few))
fewer_of f set [] (suc i) (suc count) few there = there
fewer_of f set (p ∷ group) zero count few there = absurd (none_more set there)
fewer_of f set (p ∷ group) (suc i) zero few there = absurd (omega (arith, few))
fewer_of f set (p ∷ group) (suc i) (suc count) few there = elim (Contains-append_cases (f p) (flat_map f (take i group)) set there) [
  | inl here ↦ Contains-append_left (f p) (flat_map f (take count group)) set here
  | inr later ↦ Contains-append_right (f p) (flat_map f (take count group)) set (fewer_of f set group i count (omega (arith, few)) later)
]

pub may_have_first : (fixed : Premises) (rest : List (List ℕ)) (group : List ℕ) (i count : ℕ) → i ≤ count → (old new : List Premises) →
    HasMore old new (flat_map (beside fixed rest) (take i group)) → MayHaveMore old new (flat_map (beside fixed rest) (take count group))
may_have_first fixed rest group i count few old new has =
    may_have_fewer old new (flat_map (beside fixed rest) (take i group)) (flat_map (beside fixed rest) (take count group))
    (λ set there. fewer_of (beside fixed rest) set group i count few there) (may_have old new (flat_map (beside fixed rest) (take i group)) has)

-- ---- what waits

-- once all of it is noted, nothing waits
pub all_noted : (old new one : List Premises) → HasMore old new one → HasMore (one ++ old) new []
all_noted old new one has = record {
  covered = λ w. has.covered w ∙ sym (covers_both one old w);
  within = λ set there. elim (has.within set there) [
    | inl mine ↦ inr (Contains-append_left one old set mine)
    | inr before ↦ inr (Contains-append_right one old set before)
  ];
}

-- and more is noted behind it
pub noted_behind : (old middle new one other : List Premises) → HasMore old middle one → HasMore middle new other → HasMore (one ++ old) new other
noted_behind old middle new one other first then = record {
  covered = λ w. then.covered w ∙ ap (λ b. covers other w || b) (first.covered w ∙ sym (covers_both one old w));
  within = λ set there. elim (then.within set there) [
    | inl last ↦ inl last
    | inr before ↦ inr (elim (first.within set before) [
      | inl mine ↦ Contains-append_left one old set mine
      | inr oldest ↦ Contains-append_right one old set oldest
    ])
  ];
}

-- ---- a premise taken out, and put back

pub put_back : (set : Premises) (p : ℕ) → contains set p ≡ true → insert (remove set p) p ≡ set
put_back set p has = same_set nat_cmp_total nat_cmp-IsAntisymmetric _ _ (λ q.
    contains_inserted (remove set p) p q ∙ ap (λ b. eq_by_cmp nat_cmp q p || b) (contains-remove nat_cmp_total set p q) ∙ by_test q (eq_by_cmp nat_cmp q p) refl)
  where
    by_test : (q : ℕ) (b : Bool) → eq_by_cmp nat_cmp q p ≡ b → (b || (not b && contains set q)) ≡ contains set q
    by_test q true tied = sym (ap (contains set) (tied_same q p tied) ∙ has)
    by_test q false apart = refl

-- ---- one premise more is refuted alike

module _ (rest : List (List ℕ)) (group : List ℕ) (i : ℕ) (within : i < length group) (nogoods : List Premises) (nogood fixed : Premises)
    (is : fixed ≡ remove nogood (slice_index_or group i 0)) (has : contains nogood (slice_index_or group i 0) ≡ true) where
  waits_now : (old : List Premises) → old ≡ flat_map (beside fixed rest) (take i group) →
      HasMore (old ++ nogoods) (flat_map (beside fixed rest) (take (i + 1) group) ++ nogoods) (worldviews_beside nogood rest)
  waits_now old was =
      subst (λ (o : List Premises). HasMore (o ++ nogoods) (flat_map (beside fixed rest) (take (i + 1) group) ++ nogoods) (worldviews_beside nogood rest)) (sym was)
      (subst (λ (s : Premises). HasMore (flat_map (beside fixed rest) (take i group) ++ nogoods) (flat_map (beside fixed rest) (take (i + 1) group) ++ nogoods) (worldviews_beside s rest))
      (ap (λ (s : Premises). insert s (slice_index_or group i 0)) is ∙ put_back nogood (slice_index_or group i 0) has) (waits fixed rest group i within nogoods))

  pub waits_with : (alike : Option Premises) → IfSome alike (λ before. before ≡ remove nogood (slice_index_or group i 0)) → IfNone alike (i ≡ 0) →
      HasMore (pending alike rest (take i group) ++ nogoods) (flat_map (beside fixed rest) (take (i + 1) group) ++ nogoods) (worldviews_beside nogood rest)
  waits_with (Some before) same first = waits_now (flat_map (beside before rest) (take i group)) (ap (λ (s : Premises). flat_map (beside s rest) (take i group)) (same ∙ sym is))
  waits_with None same first = waits_now [] (ap (λ n. flat_map (beside fixed rest) (take n group)) (sym first))

-- ---- the answer of what notes the others

module _ {T E : Type 0} (old new others : List Premises) where
  pub has_if_ok : (r : Result T E) → OnOk r ((w : Premises) → covers new w ≡ (covers others w || covers old w)) →
      ((set : Premises) → Contains new set → Contains others set ⊎ Contains old set) → OnOk r (HasMore old new others)
  has_if_ok (Ok x) covered within = record { covered = covered; within = within }
  has_if_ok (Err e) covered within = tt

  pub may_have_if : (r : Result T E) → OnOk r (HasMore old new others) → OnErr r (new ≡ old) → MayHaveMore old new others
  may_have_if (Ok x) has same = may_have old new others has
  may_have_if (Err e) has same = subst (λ (l : List Premises). MayHaveMore old l others) (sym same) (may_have_none old others)

-- once what waits is noted, and the others if all is well
pub noted_if_ok : {T E : Type 0} (old middle new one others waiting : List Premises) (r : Result T E) → waiting ≡ [] → HasMore old middle one →
    OnOk r (HasMore middle new others) → OnOk r (HasMore (one ++ old) (waiting ++ new) others)
noted_if_ok old middle new one others waiting (Ok x) none first then =
    subst (λ (l : List Premises). HasMore (one ++ old) (l ++ new) others) (sym none) (noted_behind old middle new one others first then)
noted_if_ok old middle new one others waiting (Err e) none first then = tt

-- nothing waits
pub none_wait : (alike : Option Premises) (rest : List (List ℕ)) (passed : List ℕ) → alike ≡ None → pending alike rest passed ≡ []
none_wait alike rest passed none = ap (λ o. pending o rest passed) none

-- with others behind
pub may_have_last : (old new one other : List Premises) → MayHaveMore old new other → MayHaveMore old new (one ++ other)
may_have_last old new one other = may_have_fewer old new other (one ++ other) (λ set there. Contains-append_right one other set there)

-- all of it is noted, if all is well
pub alike_noted : {T E : Type 0} (old new one : List Premises) (now : Option Premises) (rest : List (List ℕ)) (passed : List ℕ) (r : Result T E) →
    OnOk r (HasMore old new one) → OnOk r (now ≡ None) → OnOk r (HasMore (one ++ old) (pending now rest passed ++ new) [])
alike_noted old new one now rest passed (Ok x) has none =
    subst (λ (l : List Premises). HasMore (one ++ old) (l ++ new) []) (sym (none_wait now rest passed none)) (all_noted old new one has)
alike_noted old new one now rest passed (Err e) has none = tt
