-- Snapshots of a list: which one is of a worldview, and what is left of a list without one.
use Rattle.std.proofs.Common.{◌≡◌, ◌≢◌, ℕ, ◌+◌, ◌<◌, Bool, true, false, suc, zero, List, [], ◌∷◌, All, Contains, cond, length, map, get_or, set, Option, Some, None, refl, sym, ap, ◌∙◌, subst, inl, inr, arith}
use Rattle.std.specs.Prelude.{◌⊎◌, find, nat_lt, position, remove}
use Rattle.std.specs.List.{position_or_len, slice_get}
use Rattle.std.specs.Option.{option_or}
use Rattle.std.specs.FinSet.{is_subset}
use Rattle.std.proofs.lemmas.Bool.{both_ways, cases_Bool, ltb-false, ltb-true}
use Rattle.std.proofs.lemmas.List.Edits.{get_or-remove_above, get_or-remove_below, length-remove}
use Rattle.std.proofs.lemmas.List.Elements.{All-contains, All-contains_itself}
use Rattle.std.proofs.lemmas.List.Folds.{find-set, find_at, list_any_at}
use Rattle.std.proofs.lemmas.Option.{none-some, same_Some, slice_get-get_or, slice_get_past}
use Rattle.pw_premises.specs.Premises.{Premises}
use Rattle.pw_premises.specs.PremiseSubsets.{has_same_numbers, is_subset_refl, same_numbers_equal}
use Rattle.pw_cells.specs.Cells.{Store}
use Rattle.pw_network.specs.Network.{Network}
use Rattle.pw_settle.specs.Settled.{Settled}
use Rattle.pw_settle.proofs.Membership.{each_member}
use Rattle.pw_sessions.specs.Snapshot.{AreApart, EachBecomes, IsSnapshotOf, Snapshot, is_of, is_within, snapshot_in, start_for}
use Rattle.pw_sessions.specs.inside.Steps.{AreAmong, IsLatest, OnlySpares, is_believed}
use Rattle.pw_sessions.specs.Workbench.{SnapshotsFit}
use Rattle.pw_sessions.proofs.ApartSnapshots.{AreOthers, apart_front, apart_others, apart_remove, none_of}

-- ---- the first that passes a test

module _ {X : Type 0} (p : X → Bool) where
  -- of a list with one more in front
  first_is : (y : X) (ys : List X) (b : Bool) → p y ≡ b → find p (y ∷ ys) ≡ cond b (Some y) (find p ys)
  first_is y ys b is = ap (λ t. cond t (Some y) (find p ys)) is

  -- it passes, and stands in the list
  pub found_passes : (xs : List X) (x : X) → find p xs ≡ Some x → p x ≡ true
  found_passes [] x is = absurd (none-some x is)
  found_passes (y ∷ ys) x is = elim (cases_Bool (p y)) [
    | inl passes ↦ ap p (sym (same_Some y x (sym (first_is y ys true passes) ∙ is))) ∙ passes
    | inr fails ↦ found_passes ys x (sym (first_is y ys false fails) ∙ is)
  ]

  pub found_has : (P : X → Type 0) (xs : List X) (x : X) → All P xs → find p xs ≡ Some x → P x
  found_has P [] x all is = absurd (none-some x is)
  found_has P (y ∷ ys) x all is = elim (cases_Bool (p y)) [
    | inl passes ↦ subst P (same_Some y x (sym (first_is y ys true passes) ∙ is)) (all 0 y (omega arith))
    | inr fails ↦ found_has P ys x (λ i d below. all (suc i) d (omega (arith, below))) (sym (first_is y ys false fails) ∙ is)
  ]

  -- where its place is known, or that there is none
  place_is : (xs : List X) (b : Bool) → nat_lt (position_or_len p xs) (length xs) ≡ b → position p xs ≡ cond b (Some (position_or_len p xs)) None
  place_is xs b is = ap (λ t. cond t (Some (position_or_len p xs)) None) is

  pub position_within : (xs : List X) (i : ℕ) → position p xs ≡ Some i → i < length xs
  position_within xs i is = elim (cases_Bool (nat_lt (position_or_len p xs) (length xs))) [
    | inl below ↦
        let here = same_Some (position_or_len p xs) i (sym (place_is xs true below) ∙ is) in
        let there = ltb-true (position_or_len p xs) (length xs) below in
        omega (arith, there, here)
    | inr not ↦ absurd (none-some i (sym (place_is xs false not) ∙ is))
  ]

  pub found_at : (xs : List X) (i : ℕ) (d : X) → position p xs ≡ Some i → find p xs ≡ Some (get_or xs i d)
  found_at xs i d is = elim (cases_Bool (nat_lt (position_or_len p xs) (length xs))) [
    | inl below ↦
        let here : position_or_len p xs ≡ i = same_Some (position_or_len p xs) i (sym (place_is xs true below) ∙ is) in
        find_at p xs ∙ ap (slice_get xs) here ∙ slice_get-get_or xs i d (position_within xs i is)
    | inr not ↦ absurd (none-some i (sym (place_is xs false not) ∙ is))
  ]

  pub found_none : (xs : List X) → position p xs ≡ None → find p xs ≡ None
  found_none xs is = elim (cases_Bool (nat_lt (position_or_len p xs) (length xs))) [
    | inl below ↦ absurd (none-some (position_or_len p xs) (sym is ∙ place_is xs true below))
    | inr not ↦ find_at p xs ∙ slice_get_past xs (position_or_len p xs) (ltb-false (position_or_len p xs) (length xs) not)
  ]

  -- where it is replaced by one that passes too, it is that one
  pub found_set : (xs : List X) (i : ℕ) (y : X) → position p xs ≡ Some i → p y ≡ true → find p (set xs i y) ≡ Some y
  found_set xs i y is passes = elim (cases_Bool (nat_lt (position_or_len p xs) (length xs))) [
    | inl below ↦
        let here : position_or_len p xs ≡ i = same_Some (position_or_len p xs) i (sym (place_is xs true below) ∙ is) in
        find-set p xs i y (sym here) (position_within xs i is) passes
    | inr not ↦ absurd (none-some i (sym (place_is xs false not) ∙ is))
  ]

  -- without one that does not pass, it is the same
  pub found_without : (xs : List X) (i : ℕ) → i < length xs → ((d : X) → p (get_or xs i d) ≡ false) → find p (remove xs i) ≡ find p xs
  found_without [] i below fails = absurd (omega (arith, below))
  found_without (y ∷ ys) zero below fails = sym (first_is y ys false (fails y))
  found_without (y ∷ ys) (suc i) below fails = ap (cond (p y) (Some y)) (found_without ys i (omega (arith, below)) fails)

  -- if each came of one that passes where it does, it came of the first of these
  pub found_becomes : (From : X → X → Type 0) → ((x y : X) → From x y → p y ≡ p x) → (old new : List X) → length new ≡ length old →
      ((i : ℕ) (d : X) → i < length old → From (get_or old i d) (get_or new i d)) → (x : X) → find p old ≡ Some x →
      (y : X) × (find p new ≡ Some y) × From x y
  found_becomes From same [] new many each x is = absurd (none-some x is)
  found_becomes From same (a ∷ old) [] many each x is = absurd (omega (arith, many))
  found_becomes From same (a ∷ old) (b ∷ new) many each x is =
      let first : From a b = each 0 a (omega arith) in
      elim (cases_Bool (p a)) [
        | inl passes ↦ (
          b,
          first_is b new true (same a b first ∙ passes),
          subst (λ (z : X). From z b) (same_Some a x (sym (first_is a old true passes) ∙ is)) first,
        )
        | inr fails ↦
            let (y, there, came) = found_becomes From same old new (omega (arith, many)) (λ i d below. each (suc i) d (omega (arith, below))) x
            (sym (first_is a old false fails) ∙ is) in
            (y, first_is b new false (same a b first ∙ fails) ∙ there, came)
      ]

-- ---- the snapshot of a worldview

-- it is of this worldview
pub its_worldview : (snapshots : List Snapshot) (w : Premises) (snapshot : Snapshot) → snapshot_in snapshots w ≡ Some snapshot →
    snapshot.values.worldview ≡ w
its_worldview snapshots w snapshot is =
    (same_numbers_equal snapshot.values.worldview w).0 (found_passes (is_of w) snapshots snapshot is)

-- it fits, if all do
pub its_fit : (network : Network) (store : Store) (snapshots : List Snapshot) (w : Premises) (snapshot : Snapshot) →
    SnapshotsFit network store snapshots → snapshot_in snapshots w ≡ Some snapshot → IsSnapshotOf network store snapshot
its_fit network store snapshots w snapshot fit is = found_has (is_of w) (IsSnapshotOf network store) snapshots snapshot fit is

-- the first one of all, if it is of the worldview
pub first_there : (snapshots earlier : List Snapshot) (w : Premises) (first : Snapshot) → snapshots ≡ first ∷ earlier → first.values.worldview ≡ w →
    snapshot_in snapshots w ≡ Some first
first_there snapshots earlier w first is own =
    ap (λ (l : List Snapshot). snapshot_in l w) is
    ∙ first_is (is_of w) first earlier true ((same_numbers_equal first.values.worldview w).1 own)

-- the one at this place, if it took the place of the one of the worldview
pub set_there : (snapshots : List Snapshot) (w : Premises) (place : ℕ) (snapshot : Snapshot) → position (is_of w) snapshots ≡ Some place →
    snapshot.values.worldview ≡ w → snapshot_in (set snapshots place snapshot) w ≡ Some snapshot
set_there snapshots w place snapshot at own =
    found_set (is_of w) snapshots place snapshot at ((same_numbers_equal snapshot.values.worldview w).1 own)

-- a settling goes on from it
pub starts_there : (snapshots : List Snapshot) (w : Premises) (snapshot : Snapshot) → snapshot_in snapshots w ≡ Some snapshot →
    start_for snapshots w ≡ Some snapshot
starts_there snapshots w snapshot is = ap (λ o. option_or o (find (is_within w) snapshots)) is

-- the values from which it goes on are of a worldview within
pub starts_within : (snapshots : List Snapshot) (w : Premises) (snapshot : Snapshot) → start_for snapshots w ≡ Some snapshot →
    is_subset snapshot.values.worldview w ≡ true
starts_within snapshots w snapshot is = by (snapshot_in snapshots w) refl is
  where
    by : (o : Option Snapshot) → snapshot_in snapshots w ≡ o → option_or o (find (is_within w) snapshots) ≡ Some snapshot →
        is_subset snapshot.values.worldview w ≡ true
    by (Some own) has same =
        subst (λ (u : Premises). is_subset u w ≡ true)
        (sym (ap (λ (s : Snapshot). s.values.worldview) (sym (same_Some own snapshot same)) ∙ its_worldview snapshots w own has)) (is_subset_refl w)
    by None has same = found_passes (is_within w) snapshots snapshot same

-- the one at this place is of the worldview
pub own_there : (snapshots : List Snapshot) (w : Premises) (place : ℕ) (d snapshot : Snapshot) → position (is_of w) snapshots ≡ Some place →
    snapshot ≡ get_or snapshots place d → snapshot_in snapshots w ≡ Some snapshot
own_there snapshots w place d snapshot at is = found_at (is_of w) snapshots place d at ∙ ap (λ (s : Snapshot). Some s) (sym is)

-- if there is none, a settling goes on from the one at the place of the latest within
pub within_there : (snapshots : List Snapshot) (w : Premises) (place : ℕ) (d snapshot : Snapshot) → position (is_of w) snapshots ≡ None →
    position (is_within w) snapshots ≡ Some place → snapshot ≡ get_or snapshots place d → start_for snapshots w ≡ Some snapshot
within_there snapshots w place d snapshot none at is =
    ap (λ o. option_or o (find (is_within w) snapshots)) (found_none (is_of w) snapshots none)
    ∙ found_at (is_within w) snapshots place d at ∙ ap (λ (s : Snapshot). Some s) (sym is)

-- if there is none within either, it starts anew
pub no_start : (snapshots : List Snapshot) (w : Premises) → position (is_of w) snapshots ≡ None → position (is_within w) snapshots ≡ None →
    start_for snapshots w ≡ None
no_start snapshots w none nor =
    ap (λ o. option_or o (find (is_within w) snapshots)) (found_none (is_of w) snapshots none) ∙ found_none (is_within w) snapshots nor

-- ---- snapshots that are given up

-- what holds of all holds of those that are left
all_without : {X : Type 0} (P : X → Type 0) (xs : List X) (i : ℕ) → i < length xs → All P xs → All P (remove xs i)
all_without P xs i below all k d there =
    let fewer = length-remove xs i below in
    elim (cases_Bool (nat_lt k i)) [
      | inl is ↦
          let before = ltb-true k i is in
          subst P (sym (get_or-remove_below xs i d k before below)) (all k d (omega (arith, before, below)))
      | inr not ↦
          let past = ltb-false k i not in
          subst P (sym (get_or-remove_above xs i d k past below)) (all (k + 1) d (omega (arith, there, fewer)))
    ]

-- so those that are left are among them
among_without : (snapshots : List Snapshot) (i : ℕ) → i < length snapshots → AreAmong (remove snapshots i) snapshots
among_without snapshots i below snapshot has =
    All-contains (Contains snapshots) (remove snapshots i) snapshot
    (all_without (Contains snapshots) snapshots i below (All-contains_itself snapshots)) has

-- and what holds of each of the others holds of each of them
pub all_among : (P : Snapshot → Type 0) (snapshots others : List Snapshot) → AreAmong snapshots others → All P others → All P snapshots
all_among P snapshots others among all = each_member P snapshots (λ snapshot has. All-contains P others snapshot all (among snapshot has))

-- one of a worldview that nobody believes
pub spares_next : (beliefs : List Premises) (old now next : List Snapshot) (place : ℕ) → OnlySpares beliefs old now → place < length now →
    ((d : Snapshot) → is_believed beliefs (get_or now place d).values.worldview ≡ false) → next ≡ remove now place → OnlySpares beliefs old next
spares_next beliefs old now next place so_far there spare is = record {
  among = λ snapshot has.
      so_far.among snapshot (among_without now place there snapshot (subst (λ (l : List Snapshot). Contains l snapshot) is has));
  stay = λ w believed.
      ap (λ (l : List Snapshot). snapshot_in l w) is
      ∙ found_without (is_of w) now place there (λ d. is_other w believed d) ∙ so_far.stay w believed;
  apart = λ was. subst AreApart (sym is) (apart_remove now place there (so_far.apart was));
} where
  is_other : (w : Premises) → is_believed beliefs w ≡ true → (d : Snapshot) → is_of w (get_or now place d) ≡ false
  is_other w believed d = elim (cases_Bool (is_of w (get_or now place d))) [
    | inl same ↦
        let own = (same_numbers_equal (get_or now place d).values.worldview w).0 same in
        absurd (both_ways (is_believed beliefs w) (subst (λ (u : Premises). is_believed beliefs u ≡ false) own (spare d)) believed)
    | inr other ↦ other
  ]

-- ---- the latest snapshot

-- in front of those that are left of others, it is the only one of its worldview
pub apart_first : (beliefs : List Premises) (rest left new : List Snapshot) (first : Snapshot) → AreOthers first.values.worldview rest →
    OnlySpares beliefs rest left → new ≡ first ∷ left → AreApart rest → AreApart new
apart_first beliefs rest left new first others spares is apart =
    subst AreApart (sym is)
    (apart_front first left (all_among (λ snapshot. snapshot.values.worldview ≢ first.values.worldview) left rest spares.among others) (spares.apart apart))

-- without the earlier one of its worldview, and without others that nobody believes
pub latest_after : (beliefs : List Premises) (old rest left new : List Snapshot) (values : Settled) →
    ((position (is_of values.worldview) old ≡ None) × (rest ≡ old)) ⊎ ((place : ℕ) × (position (is_of values.worldview) old ≡ Some place) × (rest ≡ remove old place)) →
    OnlySpares beliefs rest left → new ≡ record { values = values; is_current = true } ∷ left → IsLatest beliefs old values new
latest_after beliefs old rest left new values (inl (none, same)) spares is = record {
  earlier = left;
  latest = is;
  among = λ snapshot has. subst (λ (l : List Snapshot). Contains l snapshot) same (spares.among snapshot has);
  stay = λ w believed other. spares.stay w believed ∙ ap (λ (l : List Snapshot). snapshot_in l w) same;
  apart = λ apart.
      apart_first beliefs rest left new (record { values = values; is_current = true })
      (subst (AreOthers values.worldview) (sym same) (none_of values.worldview old none)) spares is (subst AreApart (sym same) apart);
}
latest_after beliefs old rest left new values (inr (place, at, without)) spares is = record {
  earlier = left;
  latest = is;
  among = λ snapshot has.
      among_without old place there snapshot (subst (λ (l : List Snapshot). Contains l snapshot) without (spares.among snapshot has));
  stay = λ w believed other.
      spares.stay w believed ∙ ap (λ (l : List Snapshot). snapshot_in l w) without ∙ found_without (is_of w) old place there (λ d. is_other w other d);
  apart = λ apart.
      apart_first beliefs rest left new now
      (subst (AreOthers values.worldview) (sym without)
      (subst (λ u. AreOthers u (remove old place)) (own now) (apart_others old place now there apart))) spares is
      (subst AreApart (sym without) (apart_remove old place there apart));
} where
  now : Snapshot
  now = record { values = values; is_current = true }

  there : place < length old
  there = position_within (is_of values.worldview) old place at

  own : (d : Snapshot) → (get_or old place d).values.worldview ≡ values.worldview
  own d = its_worldview old values.worldview (get_or old place d) (found_at (is_of values.worldview) old place d at)

  is_other : (w : Premises) → w ≢ values.worldview → (d : Snapshot) → is_of w (get_or old place d) ≡ false
  is_other w other d = elim (cases_Bool (is_of w (get_or old place d))) [
    | inl same ↦
        absurd (other (sym ((same_numbers_equal (get_or old place d).values.worldview w).0 same) ∙ own d))
    | inr differs ↦ differs
  ]

-- what a user believes is believed
pub user_believes : (beliefs : List Premises) (user : ℕ) (d : Premises) → user < length beliefs → is_believed beliefs (get_or beliefs user d) ≡ true
user_believes beliefs user d there =
    list_any_at (has_same_numbers (get_or beliefs user d)) beliefs user d there ((same_numbers_equal (get_or beliefs user d) (get_or beliefs user d)).1 refl)

-- ---- snapshots that note something

-- one that came of another has its worldview
pub becomes_in : (From : Snapshot → Snapshot → Type 0) → ((x y : Snapshot) → From x y → y.values ≡ x.values) → (old new : List Snapshot) →
    EachBecomes From old new → (w : Premises) (snapshot : Snapshot) → snapshot_in old w ≡ Some snapshot →
    (after : Snapshot) × (snapshot_in new w ≡ Some after) × From snapshot after
becomes_in From same old new become w =
    found_becomes (is_of w) From (λ x y came. ap (λ (v : Settled). has_same_numbers v.worldview w) (same x y came)) old new become.many become.each

-- so one that a function makes of each
pub made_in : (f : Snapshot → Snapshot) → ((x : Snapshot) → (f x).values ≡ x.values) → (old : List Snapshot) (w : Premises) (snapshot : Snapshot) →
    snapshot_in old w ≡ Some snapshot → snapshot_in (map f old) w ≡ Some (f snapshot)
made_in f same [] w snapshot is = absurd (none-some snapshot is)
made_in f same (x ∷ old) w snapshot is =
    let alike : is_of w (f x) ≡ is_of w x = ap (λ (v : Settled). has_same_numbers v.worldview w) (same x) in
    elim (cases_Bool (is_of w x)) [
      | inl passes ↦
          first_is (is_of w) (f x) (map f old) true (alike ∙ passes)
          ∙ ap (λ (s : Snapshot). Some (f s)) (same_Some x snapshot (sym (first_is (is_of w) x old true passes) ∙ is))
      | inr fails ↦
          first_is (is_of w) (f x) (map f old) false (alike ∙ fails)
          ∙ made_in f same old w snapshot (sym (first_is (is_of w) x old false fails) ∙ is)
    ]
