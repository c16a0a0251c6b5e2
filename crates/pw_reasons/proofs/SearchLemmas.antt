-- Searching combinations group by group: the worldviews beside what is believed, which of them are
-- covered, and the first that is consistent.
use Rattle.std.proofs.Common.{◌≡◌, ℕ, ◌+◌, ◌<◌, ◌≤◌, zero, suc, Bool, true, false, ◌||◌, Option, Result, Ok, Err, List, [], ◌∷◌, ◌++◌, All, length, map, take, drop, refl, sym, ap, ◌∙◌, subst, arith, append_assoc, append-nil, length-append}
use Rattle.std.specs.Prelude.{slice_index_or}
use Rattle.std.specs.List.{flat_map, list_any}
use Rattle.std.specs.Cmp.{nat_cmp_total}
use Rattle.std.specs.Ordering.{nat_cmp, eq_by_cmp}
use Rattle.std.specs.FinSet.{contains, contains-from_list_nat, contains-insert, contains-union, difference, from_list, from_list_push, insert, is_subset, nat_cmp-IsAntisymmetric, same_set, union}
use Rattle.std.proofs.lemmas.Bool.{false≢true}
use Rattle.std.proofs.lemmas.Grind.{flat_map-append}
use Rattle.std.proofs.lemmas.List.{drop_more, map-append, take-append-drop, take_all, take_more}
use Rattle.std.proofs.lemmas.List.Elements.{All-append, All-cons, All-from_get_or, All-head, All-map, All-nil, All-tail, All-weaker}
use Rattle.pw_premises.specs.Premises.{Premises}
use Rattle.pw_premises.specs.PremiseSubsets.{is_subset_trans, is_subset_union_left}
use Rattle.pw_cells.specs.Cells.{Store, kinds_of}
use Rattle.pw_network.specs.Network.{Network, IsWellNetwork}
use Rattle.pw_settle.specs.Growth.{KeepsMore}
use Rattle.pw_settle.specs.Settled.{Settled}
use Rattle.pw_settle.specs.Values.{kinds_in}
use Rattle.pw_settle.proofs.Growing.{keeps_more_then}
use Rattle.pw_reasons.specs.Choice.{IsConsistent, IsFirstConsistent}
use Rattle.pw_reasons.specs.Combinations.{combinations_of, worldview_of, worldviews_of}
use Rattle.pw_reasons.specs.Groups.{all_of}
use Rattle.pw_reasons.specs.Nogood.{AreNogoods, IsNogood, covers}
use Rattle.pw_reasons.specs.inside.Alike.{beside}
use Rattle.pw_reasons.specs.inside.Products.{worldviews_beside}
use Rattle.pw_reasons.specs.inside.Searching.{AreCovered, IsFirstBeside, LeavesSound, ends_search}
use Rattle.pw_reasons.specs.declared.choosing.Found.{Found}
use Rattle.pw_reasons.specs.declared.choosing.Found.TheVariants.{Nothing}
use Rattle.pw_reasons.proofs.ChoiceLemmas.{consistent_then, covered_nogoods, last_then, nogoods_then}
use Rattle.pw_reasons.proofs.FamilyLemmas.{and_both, and_parts}
use Rattle.pw_reasons.proofs.NogoodLemmas.{covers_grows}
use Rattle.pw_reasons.proofs.ProductLemmas.{each_believes, each_has_each, have_each, product_covers}
use Rattle.pw_reasons.proofs.SetLemmas.{from_both}

-- ---- lists of pieces

pub front : {X : Type 0} (P : X → Type 0) (xs ys : List X) → All P (xs ++ ys) → All P xs
front P [] ys all = All-nil P
front P (x ∷ xs) ys all = All-cons P x xs (All-head P x (xs ++ ys) all) (front P xs ys (All-tail P x (xs ++ ys) all))

back : {X : Type 0} (P : X → Type 0) (xs ys : List X) → All P (xs ++ ys) → All P ys
back P [] ys all = all
back P (x ∷ xs) ys all = back P xs ys (All-tail P x (xs ++ ys) all)

-- what holds in all pieces holds in the one at a place
pub piece_of : {X Y : Type 0} (P : Y → Type 0) (f : X → List Y) (xs : List X) (i : ℕ) (d : X) → i < length xs → All P (flat_map f xs) →
    All P (f (slice_index_or xs i d))
piece_of P f [] i d within all = absurd (omega arith)
piece_of P f (x ∷ xs) zero d within all = front P (f x) (flat_map f xs) all
piece_of P f (x ∷ xs) (suc i) d within all = piece_of P f xs i d (omega arith) (back P (f x) (flat_map f xs) all)

-- one more piece
pub one_more_piece : {X Y : Type 0} (P : Y → Type 0) (f : X → List Y) (xs : List X) (i : ℕ) (d : X) → i < length xs →
    All P (flat_map f (take i xs)) → All P (f (slice_index_or xs i d)) → All P (flat_map f (take (i + 1) xs))
one_more_piece P f xs i d within before more =
    subst (All P)
    (sym (ap (flat_map f) (take_more xs i d within) ∙ flat_map-append f (take i xs) (slice_index_or xs i d ∷ [])
    ∙ ap (λ ys. flat_map f (take i xs) ++ ys) (append-nil (f (slice_index_or xs i d)))))
    (All-append P (flat_map f (take i xs)) (f (slice_index_or xs i d)) before more)

-- ---- one more premise that is believed

same_test : (a e c : Bool) → (a || ((e || false) || c)) ≡ ((e || a) || c)
same_test true true c = refl
same_test true false c = refl
same_test false true c = refl
same_test false false c = refl

-- it may be taken with the others, or be believed already
pub believed_already : (w : Premises) (p : ℕ) (taken : List ℕ) → union w (from_list (p ∷ taken)) ≡ union (insert w p) (from_list taken)
believed_already w p taken = same_set nat_cmp_total nat_cmp-IsAntisymmetric _ _ (λ q.
    contains-union nat_cmp_total w (from_list (p ∷ taken)) q
    ∙ ap (λ b. contains w q || b) (ap (λ s. contains {R = nat_cmp} s q) (from_both (p ∷ []) taken)
    ∙ contains-union nat_cmp_total (from_list (p ∷ [])) (from_list taken) q
    ∙ ap (λ b. b || contains {R = nat_cmp} (from_list taken) q) (just_one q))
    ∙ same_test (contains w q) (eq_by_cmp nat_cmp q p) (contains (from_list taken) q)
    ∙ sym (contains-union nat_cmp_total (insert w p) (from_list taken) q
    ∙ ap (λ b. b || contains {R = nat_cmp} (from_list taken) q) (contains-insert nat_cmp_total w p q)))
  where
    -- a list of one is a set of one
    just_one : (q : ℕ) → contains (from_list {R = nat_cmp} (p ∷ [])) q ≡ (eq_by_cmp nat_cmp q p || false)
    just_one q =
        ap (λ s. contains {R = nat_cmp} s q) (from_list_push nat_cmp_total nat_cmp-IsAntisymmetric [] p)
        ∙ contains-insert nat_cmp_total (from_list []) p q ∙ ap (λ b. eq_by_cmp nat_cmp q p || b) (contains-from_list_nat [] q)

-- nothing taken adds nothing
pub nothing_taken : (w : Premises) → union w (from_list []) ≡ w
nothing_taken w = same_set nat_cmp_total nat_cmp-IsAntisymmetric _ _ (λ q.
    contains-union nat_cmp_total w (from_list []) q ∙ ap (λ b. contains w q || b) (contains-from_list_nat [] q) ∙ or_false (contains w q))
  where
    or_false : (b : Bool) → (b || false) ≡ b
    or_false true = refl
    or_false false = refl

-- what is believed is believed with one premise more
pub less_than_more : (w : Premises) (p : ℕ) → is_subset w (insert w p) ≡ true
less_than_more w p =
    subst (λ s. is_subset w s ≡ true) (believed_already w p [] ∙ nothing_taken (insert w p)) (is_subset_union_left w (from_list (p ∷ [])))

-- the premise before each combination of the groups
abbrev before_each : List (List ℕ) → ℕ → List (List ℕ)
before_each rest p = map (λ others. p ∷ others) (combinations_of rest)

module _ (w : Premises) (rest : List (List ℕ)) where
  pieces : (p : ℕ) (combinations : List (List ℕ)) →
      map (λ taken. union w (from_list taken)) (map (λ others. p ∷ others) combinations) ≡ map (λ taken. union (insert w p) (from_list taken)) combinations
  pieces p [] = refl
  pieces p (one ∷ others) = λ i. believed_already w p one i ∷ pieces p others i

  -- the worldviews come group by group
  pub worldviews_in_pieces : (group : List ℕ) → worldviews_beside w (group ∷ rest) ≡ flat_map (beside w rest) group
  worldviews_in_pieces [] = refl
  worldviews_in_pieces (p ∷ group) =
      map-append (λ taken. union w (from_list taken)) (before_each rest p) (flat_map (before_each rest) group)
      ∙ (λ i. pieces p (combinations_of rest) i ++ worldviews_in_pieces group i)

  -- if all are covered, so are those behind one premise
  pub covered_behind : (nogoods : List Premises) (group : List ℕ) (i : ℕ) → i < length group → AreCovered nogoods (worldviews_beside w (group ∷ rest)) →
      AreCovered nogoods (beside w rest (slice_index_or group i 0))
  covered_behind nogoods group i within all =
      piece_of (λ v. covers nogoods v ≡ true) (beside w rest) group i 0 within (subst (AreCovered nogoods) (worldviews_in_pieces group) all)

  -- once each premise of the group was tried, all are covered
  pub all_behind : (nogoods : List Premises) (group : List ℕ) (i : ℕ) → length group ≤ i → AreCovered nogoods (flat_map (beside w rest) (take i group)) →
      AreCovered nogoods (worldviews_beside w (group ∷ rest))
  all_behind nogoods group i past all =
      subst (AreCovered nogoods) (ap (flat_map (beside w rest)) (take_all i group past) ∙ sym (worldviews_in_pieces group)) all

  -- and those behind one more premise, where more was noted since
  pub more_behind : (old new : List Premises) (group : List ℕ) (i : ℕ) → i < length group → ((v : Premises) → covers old v ≡ true → covers new v ≡ true) →
      AreCovered old (flat_map (beside w rest) (take i group)) → AreCovered new (beside w rest (slice_index_or group i 0)) →
      AreCovered new (flat_map (beside w rest) (take (i + 1) group))
  more_behind old new group i within grows before more =
      one_more_piece (λ v. covers new v ≡ true) (beside w rest) group i 0 within
      (All-weaker (λ v. covers old v ≡ true) (λ v. covers new v ≡ true) grows (flat_map (beside w rest) (take i group)) before) more

-- ---- what is covered

-- what has a premise of each group has one of each later group
later_each : (w : Premises) (groups : List (List ℕ)) (count place : ℕ) → count ≤ place → have_each w (drop count groups) ≡ true →
    have_each w (drop place groups) ≡ true
later_each w [] count zero few has = refl
later_each w [] count (suc place) few has = refl
later_each w (group ∷ groups) zero zero few has = has
later_each w (group ∷ groups) zero (suc place) few has =
    later_each w groups zero place (omega (arith, few)) (and_parts (list_any (contains w) group) (have_each w groups) has).1
later_each w (group ∷ groups) (suc count) zero few has = absurd (omega (arith, few))
later_each w (group ∷ groups) (suc count) (suc place) few has = later_each w groups count place (omega (arith, few)) has

-- a set that is believed, with one premise of each later group, covers all
pub all_refuted : (nogood w : Premises) (groups : List (List ℕ)) (count place : ℕ) → is_subset nogood w ≡ true → count ≤ place →
    AreCovered (worldviews_beside nogood (drop place groups)) (worldviews_beside w (drop count groups))
all_refuted nogood w groups count place part few = λ k d below.
    let v : Premises = slice_index_or (worldviews_beside w (drop count groups)) k d in
    product_covers nogood v (drop place groups)
    ∙ and_both _ _ (is_subset_trans nogood w v part (each_believes w (drop count groups) k d below))
    (later_each v groups count place few (each_has_each w (drop count groups) k d below))

-- where what is believed is covered, all are
pub all_covered : (nogoods : List Premises) (w : Premises) (groups : List (List ℕ)) → covers nogoods w ≡ true → AreCovered nogoods (worldviews_beside w groups)
all_covered nogoods w groups covered =
    All-map (λ v. covers nogoods v ≡ true) (λ taken. union w (from_list taken)) (combinations_of groups)
    (All-from_get_or (λ taken. covers nogoods (union w (from_list taken)) ≡ true) (combinations_of groups) [] (λ i within.
    covers_grows nogoods w (union w (from_list (slice_index_or (combinations_of groups) i [])))
    (is_subset_union_left w (from_list (slice_index_or (combinations_of groups) i []))) covered))

-- where there is no group, what is not covered is not among what is
pub none_left : (nogoods : List Premises) (w : Premises) → covers nogoods w ≡ false → AreCovered nogoods (worldviews_beside w []) → ⊥
none_left nogoods w uncovered all =
    false≢true (sym uncovered ∙ ap (covers nogoods) (sym (nothing_taken w))
    ∙ All-head (λ v. covers nogoods v ≡ true) (union w (from_list [])) [] all)

-- ---- the first consistent combination

module _ (network : Network) (store : Store) (w : Premises) where
  -- with no group left
  pub first_of_none : (before : List ℕ) → IsConsistent network store w → IsFirstBeside network store w [] before before
  first_of_none before consistent = record {
    earlier = [];
    taken = [];
    later = [];
    order = refl;
    made = sym (append-nil before);
    nogoods = All-nil (IsNogood network store);
    consistent = subst (IsConsistent network store) (sym (nothing_taken w)) consistent;
  }

  -- behind one premise of the next group, where those behind the premises before it are covered
  pub first_behind : (rest : List (List ℕ)) (group : List ℕ) (i : ℕ) → i < length group → IsWellNetwork network → kinds_of store ≡ kinds_in network →
      (nogoods : List Premises) → AreNogoods network store nogoods → AreCovered nogoods (flat_map (beside w rest) (take i group)) → (before all : List ℕ) →
      IsFirstBeside network store (insert w (slice_index_or group i 0)) rest (before ++ slice_index_or group i 0 ∷ []) all →
      IsFirstBeside network store w (group ∷ rest) before all
  first_behind rest group i within well same nogoods are covered before all first = record {
    earlier = flat_map (before_each rest) (take i group) ++ map (λ others. p ∷ others) first.earlier;
    taken = p ∷ first.taken;
    later = map (λ others. p ∷ others) first.later ++ flat_map (before_each rest) (drop (i + 1) group);
    order = ap (flat_map (before_each rest)) (sym (take-append-drop i group) ∙ ap (λ xs. take i group ++ xs) (drop_more group i 0 within))
        ∙ flat_map-append (before_each rest) (take i group) (p ∷ drop (i + 1) group)
        ∙ ap (λ xs. flat_map (before_each rest) (take i group) ++ xs)
        (ap (λ xs. xs ++ flat_map (before_each rest) (drop (i + 1) group))
        (ap (map (λ others. p ∷ others)) first.order ∙ map-append (λ others. p ∷ others) first.earlier (first.taken ∷ first.later))
        ∙ append_assoc (map (λ others. p ∷ others) first.earlier) ((p ∷ first.taken) ∷ map (λ others. p ∷ others) first.later)
        (flat_map (before_each rest) (drop (i + 1) group)))
        ∙ sym (append_assoc (flat_map (before_each rest) (take i group)) (map (λ others. p ∷ others) first.earlier)
        ((p ∷ first.taken) ∷ map (λ others. p ∷ others) first.later ++ flat_map (before_each rest) (drop (i + 1) group)));
    made = first.made ∙ append_assoc before (p ∷ []) first.taken;
    nogoods = subst (AreNogoods network store)
        (sym (map-append (λ taken. union w (from_list taken)) (flat_map (before_each rest) (take i group)) (map (λ others. p ∷ others) first.earlier)
        ∙ (λ k. worldviews_in_pieces w rest (take i group) k ++ pieces w rest p first.earlier k)))
        (All-append (IsNogood network store) (flat_map (beside w rest) (take i group)) (map (λ taken. union (insert w p) (from_list taken)) first.earlier)
        (covered_nogoods network store well same nogoods are (flat_map (beside w rest) (take i group)) covered) first.nogoods);
    consistent = subst (IsConsistent network store) (sym (believed_already w p first.taken)) first.consistent;
  }
    where
      p : ℕ
      p = slice_index_or group i 0

-- the first consistent combination beside what is believed without the groups is that of the groups
pub first_of_all : (network : Network) (store : Store) (beliefs others : Premises) (groups : List (List ℕ)) (all : List ℕ) →
    others ≡ difference beliefs (from_list (all_of groups)) → IsFirstBeside network store others groups [] all →
    IsFirstConsistent network store beliefs groups all
first_of_all network store beliefs others groups all is first = record {
  earlier = first.earlier;
  later = first.later;
  order = first.order ∙ ap (λ xs. first.earlier ++ xs ∷ first.later) (sym first.made);
  nogoods = subst (λ o. AreNogoods network store (map (λ taken. union o (from_list taken)) first.earlier)) is first.nogoods;
  consistent = subst (λ xs. IsConsistent network store (worldview_of beliefs groups xs)) (sym first.made)
      (subst (λ o. IsConsistent network store (union o (from_list first.taken))) is first.consistent);
}

-- the worldviews beside what is believed without the groups are those of the groups
pub worldviews_are : (beliefs others : Premises) (groups : List (List ℕ)) → others ≡ difference beliefs (from_list (all_of groups)) →
    worldviews_beside others groups ≡ worldviews_of beliefs groups
worldviews_are beliefs others groups is = ap (λ o. map (λ taken. union o (from_list taken)) (combinations_of groups)) is

-- ---- what trials leave

-- one trial after the other
pub leaves_then : (network : Network) (old middle new : Store) (before between after : List Premises) (first last : Option Settled) →
    LeavesSound network old before middle between first → LeavesSound network middle between new after last → LeavesSound network old before new after last
leaves_then network old middle new before between after first last one other = record {
  are = nogoods_then network old middle one.grows after other.are;
  covers_more = λ w covered. other.covers_more w (one.covers_more w covered);
  last_are = last_then network old middle one.grows last other.last_are;
  grows = keeps_more_then network old middle new one.grows other.grows;
  upstream = λ given rests. other.upstream given (one.upstream given rests);
}

-- what was found is one thing
pub goes_on : {E : Type 0} (result : Result Found E) (found : Found) (nogood believed : Premises) → result ≡ Ok Nothing → result ≡ Ok found →
    ends_search nogood believed found ≡ true → ⊥
goes_on result found nogood believed nothing was ends =
    let same : found ≡ Nothing = cc in
    false≢true (sym (ap (ends_search nogood believed) same) ∙ ends)

pub found_nothing : {E : Type 0} (result : Result Found E) (found : Found) → result ≡ Ok Nothing → result ≡ Ok found → found ≡ Nothing
found_nothing result found nothing was = cc

-- an answer is no failure
pub not_refused : {T E : Type 0} (result : Result T E) (x : T) (e : E) → result ≡ Ok x → result ≡ Err e → ⊥
not_refused result x e answered refused = cc

-- ---- a premise of the next group is taken

-- the groups from a place on are the group there and those after it
cut : (groups : List (List ℕ)) (place : ℕ) (group : List ℕ) → place < length groups → group ≡ slice_index_or groups place [] →
    drop place groups ≡ group ∷ drop (place + 1) groups
cut groups place group within is = drop_more groups place [] within ∙ ap (λ g. g ∷ drop (place + 1) groups) (sym is)

-- the groups that are left are the next one and those after it
pub group_left : (groups : List (List ℕ)) (picked seen group : List ℕ) → seen ≡ picked → length picked < length groups →
    group ≡ slice_index_or groups (length seen) [] → drop (length picked) groups ≡ group ∷ drop (length picked + 1) groups
group_left groups picked seen group is within at = cut groups (length picked) group within (at ∙ ap (λ xs. slice_index_or groups (length xs) []) is)

-- where a premise p of the next group is taken: what is believed then, and what is picked
module _ (w more : Premises) (groups : List (List ℕ)) (picked with group : List ℕ) (i : ℕ)
    (left : drop (length picked) groups ≡ group ∷ drop (length picked + 1) groups) (within : i < length group)
    (believed : more ≡ insert w (slice_index_or group i 0)) (pushed : with ≡ picked ++ slice_index_or group i 0 ∷ []) where
  rest_is : drop (length with) groups ≡ drop (length picked + 1) groups
  rest_is = ap (λ n. drop n groups) (ap length pushed ∙ length-append picked (slice_index_or group i 0 ∷ []))

  pub worldviews_then : worldviews_beside more (drop (length with) groups) ≡ beside w (drop (length picked + 1) groups) (slice_index_or group i 0)
  worldviews_then = λ k. worldviews_beside (believed k) (rest_is k)

  pub part_of_more : is_subset w more ≡ true
  part_of_more = subst (λ v. is_subset w v ≡ true) (sym believed) (less_than_more w (slice_index_or group i 0))

  -- if all were covered at the start, those behind the premise are
  pub covered_then : (old now : List Premises) → ((v : Premises) → covers old v ≡ true → covers now v ≡ true) →
      AreCovered old (worldviews_beside w (drop (length picked) groups)) → AreCovered now (worldviews_beside more (drop (length with) groups))
  covered_then old now grows all =
      subst (AreCovered now) (sym worldviews_then)
      (All-weaker (λ v. covers old v ≡ true) (λ v. covers now v ≡ true) grows (beside w (drop (length picked + 1) groups) (slice_index_or group i 0))
      (covered_behind w (drop (length picked + 1) groups) old group i within (subst (λ gs. AreCovered old (worldviews_beside w gs)) left all)))

  pub first_now : (network : Network) (old store : Store) → KeepsMore network old store → (all : List ℕ) →
      IsFirstBeside network store more (drop (length with) groups) with all →
      IsFirstBeside network old (insert w (slice_index_or group i 0)) (drop (length picked + 1) groups) (picked ++ slice_index_or group i 0 ∷ []) all
  first_now network old store grows all first =
      subst (λ v. IsFirstBeside network old v (drop (length picked + 1) groups) (picked ++ slice_index_or group i 0 ∷ []) all) believed
      (subst (λ gs. IsFirstBeside network old more gs (picked ++ slice_index_or group i 0 ∷ []) all) rest_is
      (subst (λ xs. IsFirstBeside network old more (drop (length with) groups) xs all) pushed
      (record {
        earlier = first.earlier;
        taken = first.taken;
        later = first.later;
        order = first.order;
        made = first.made;
        nogoods = nogoods_then network old store grows (map (λ others. union more (from_list others)) first.earlier) first.nogoods;
        consistent = consistent_then network old store grows (union more (from_list first.taken)) first.consistent;
      })))

-- ---- a whole search

module _ (beliefs others : Premises) (groups : List (List ℕ)) (none : List ℕ)
    (is : others ≡ difference beliefs (from_list (all_of groups))) (empty : none ≡ []) where
  pub all_left : drop (length none) groups ≡ groups
  all_left = ap (λ xs. drop (length xs) groups) empty

  pub worldviews_left : worldviews_beside others (drop (length none) groups) ≡ worldviews_of beliefs groups
  worldviews_left = ap (worldviews_beside others) all_left ∙ worldviews_are beliefs others groups is

  pub left_covered : (nogoods : List Premises) → All (λ w. covers nogoods w ≡ true) (worldviews_of beliefs groups) →
      AreCovered nogoods (worldviews_beside others (drop (length none) groups))
  left_covered nogoods all = subst (AreCovered nogoods) (sym worldviews_left) all

  -- the first consistent combination
  pub chosen_first : (network : Network) (store : Store) (picked : List ℕ) → IsFirstBeside network store others (drop (length none) groups) none picked →
      IsFirstConsistent network store beliefs groups picked
  chosen_first network store picked first =
      first_of_all network store beliefs others groups picked is
      (subst (λ gs. IsFirstBeside network store others gs [] picked) all_left
      (subst (λ xs. IsFirstBeside network store others (drop (length none) groups) xs picked) empty first))

  -- otherwise all are covered: by what was noted
  pub all_noted_covered : (nogoods : List Premises) → AreCovered nogoods (worldviews_beside others (drop (length none) groups)) →
      All (λ w. covers nogoods w ≡ true) (worldviews_of beliefs groups)
  all_noted_covered nogoods all = subst (AreCovered nogoods) worldviews_left all
