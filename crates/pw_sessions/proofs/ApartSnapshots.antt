-- Lists in which no two snapshots are of the same worldview: what keeps them so, and at which place
-- the snapshot of a worldview is.
use Rattle.std.proofs.Common.{◌≡◌, ◌≢◌, ℕ, ◌+◌, ◌<◌, ◌≤◌, Bool, true, suc, zero, List, ◌∷◌, All, length, map, get_or, set, Some, None, refl, sym, ap, ◌∙◌, cond, inl, inr, arith, get_or-set_other, get_or-set_same}
use Rattle.std.specs.Prelude.{◌⊎◌, nat_lt, position, remove}
use Rattle.std.specs.List.{position_or_len}
use Rattle.std.proofs.lemmas.Bool.{both_ways, cases_Bool, lt-ltb, ltb-false, ltb-true}
use Rattle.std.proofs.lemmas.List.{get_or-map, get_or_default, length-map, length-set}
use Rattle.std.proofs.lemmas.List.Edits.{get_or-remove_above, get_or-remove_below, length-remove}
use Rattle.std.proofs.lemmas.List.Sums.{fails_before_first, passes_at_first}
use Rattle.std.proofs.lemmas.Option.{none-some}
use Rattle.pw_premises.specs.Premises.{Premises}
use Rattle.pw_premises.specs.PremiseSubsets.{same_numbers_equal}
use Rattle.pw_settle.specs.Settled.{Settled}
use Rattle.pw_settle.proofs.KeptFacts.{by_cell}
use Rattle.pw_sessions.specs.Snapshot.{AreApart, EachBecomes, Snapshot, is_of}

-- the worldview of a snapshot, and of the one at a place
abbrev worldview_of : Snapshot → Premises
worldview_of snapshot = snapshot.values.worldview

abbrev worldview_at : List Snapshot → ℕ → Snapshot → Premises
worldview_at snapshots place d = worldview_of (get_or snapshots place d)

-- each of the snapshots is of another worldview than this one
abbrev pub AreOthers : Premises → List Snapshot → Type 0
AreOthers w snapshots = All (λ snapshot. snapshot.values.worldview ≢ w) snapshots

-- ---- as many snapshots

-- with the same worldview at each place
apart_kept : (old new : List Snapshot) → length new ≡ length old →
    ((place : ℕ) (d : Snapshot) → place < length old → worldview_at new place d ≡ worldview_at old place d) → AreApart old → AreApart new
apart_kept old new many each apart one other d below there same =
    let first : one < length old = omega (arith, below, many) in
    let second : other < length old = omega (arith, there, many) in
    apart one other d first second (sym (each one d first) ∙ same ∙ each other d second)

-- where each came of another with its values
pub apart_become : (From : Snapshot → Snapshot → Type 0) → ((x y : Snapshot) → From x y → y.values ≡ x.values) → (old new : List Snapshot) →
    EachBecomes From old new → AreApart old → AreApart new
apart_become From same old new become =
    apart_kept old new become.many
    (λ place d there. ap (λ (v : Settled). v.worldview) (same (get_or old place d) (get_or new place d) (become.each place d there)))

-- so where a function makes it
pub apart_made : (f : Snapshot → Snapshot) → ((x : Snapshot) → (f x).values ≡ x.values) → (old : List Snapshot) → AreApart old → AreApart (map f old)
apart_made f same old =
    apart_kept old (map f old) (length-map old f)
    (λ place d there. ap worldview_of (get_or-map f old place d d there) ∙ ap (λ (v : Settled). v.worldview) (same (get_or old place d)))

-- where one took the place of one of its worldview
pub apart_set : (snapshots : List Snapshot) (place : ℕ) (d snapshot : Snapshot) → place < length snapshots →
    snapshot.values.worldview ≡ worldview_at snapshots place d → AreApart snapshots → AreApart (set snapshots place snapshot)
apart_set snapshots place d snapshot there own =
    apart_kept snapshots (set snapshots place snapshot) (length-set snapshots place snapshot) (λ k e below.
    by_cell (λ k. worldview_at (set snapshots place snapshot) k e ≡ worldview_at snapshots k e) place
    (ap worldview_of (get_or-set_same snapshots place snapshot e there) ∙ own ∙ ap worldview_of (get_or_default snapshots place d e there))
    (λ k other. ap worldview_of (get_or-set_other snapshots place k snapshot e other)) k)

-- ---- one less

-- where a snapshot that is left was before one was taken out
record Stood (snapshots : List Snapshot) (out k : ℕ) (d : Snapshot) : Type 0 where
  place : ℕ
  below : place < length snapshots
  other : place ≢ out
  is : get_or (remove snapshots out) k d ≡ get_or snapshots place d
  side : ((k < out) × (place ≡ k)) ⊎ ((out ≤ k) × (place ≡ k + 1))

stood : (snapshots : List Snapshot) (out : ℕ) → out < length snapshots → (k : ℕ) (d : Snapshot) → k < length (remove snapshots out) →
    Stood snapshots out k d
stood snapshots out there k d left =
    let fewer = length-remove snapshots out there in
    elim (cases_Bool (nat_lt k out)) [
      | inl is ↦
          let before = ltb-true k out is in
          record {
            place = k;
            below = omega (arith, before, there);
            other = λ same. omega (arith, before, same);
            is = get_or-remove_below snapshots out d k before there;
            side = inl (before, refl);
          }
      | inr not ↦
          let past = ltb-false k out not in
          record {
            place = k + 1;
            below = omega (arith, left, fewer);
            other = λ same. omega (arith, past, same);
            is = get_or-remove_above snapshots out d k past there;
            side = inr (past, refl);
          }
    ]

-- two that stood at one place are at one place
stood_together : (out one other : ℕ) (p q : ℕ) → p ≡ q → ((one < out) × (p ≡ one)) ⊎ ((out ≤ one) × (p ≡ one + 1)) →
    ((other < out) × (q ≡ other)) ⊎ ((out ≤ other) × (q ≡ other + 1)) → one ≡ other
stood_together out one other p q same (inl (x, a)) (inl (y, b)) = omega (arith, same, x, a, y, b)
stood_together out one other p q same (inl (x, a)) (inr (y, b)) = omega (arith, same, x, a, y, b)
stood_together out one other p q same (inr (x, a)) (inl (y, b)) = omega (arith, same, x, a, y, b)
stood_together out one other p q same (inr (x, a)) (inr (y, b)) = omega (arith, same, x, a, y, b)

pub apart_remove : (snapshots : List Snapshot) (out : ℕ) → out < length snapshots → AreApart snapshots → AreApart (remove snapshots out)
apart_remove snapshots out inside apart one other d below there same =
    let first = stood snapshots out inside one d below in
    let second = stood snapshots out inside other d there in
    stood_together out one other first.place second.place
    (apart first.place second.place d first.below second.below (sym (ap worldview_of first.is) ∙ same ∙ ap worldview_of second.is)) first.side second.side

-- and those that are left are of other worldviews than the one taken out
pub apart_others : (snapshots : List Snapshot) (out : ℕ) (d : Snapshot) → out < length snapshots → AreApart snapshots →
    AreOthers (worldview_at snapshots out d) (remove snapshots out)
apart_others snapshots out d inside apart k e below same =
    let was = stood snapshots out inside k e below in
    was.other (apart was.place out e was.below inside
    (sym (ap worldview_of was.is) ∙ same ∙ ap worldview_of (get_or_default snapshots out d e inside)))

-- ---- one more

pub apart_front : (first : Snapshot) (others : List Snapshot) → AreOthers first.values.worldview others → AreApart others → AreApart (first ∷ others)
apart_front first others differ apart zero zero d below there same = refl
apart_front first others differ apart zero (suc k) d below there same = absurd (differ k d (omega (arith, there)) (sym same))
apart_front first others differ apart (suc k) zero d below there same = absurd (differ k d (omega (arith, below)) same)
apart_front first others differ apart (suc k) (suc l) d below there same =
    ap (λ n. suc n) (apart k l d (omega (arith, below)) (omega (arith, there)) same)

-- ---- the place of a worldview

module _ {X : Type 0} (p : X → Bool) (xs : List X) where
  -- the first that passes comes not after one that does
  first_before : (k : ℕ) (d : X) → p (get_or xs k d) ≡ true → position_or_len p xs ≤ k
  first_before k d passes = elim (cases_Bool (nat_lt k (position_or_len p xs))) [
    | inl before ↦ absurd (both_ways (p (get_or xs k d)) (fails_before_first p xs k d (ltb-true k (position_or_len p xs) before)) passes)
    | inr not ↦ ltb-false k (position_or_len p xs) not
  ]

  position_first : position_or_len p xs < length xs → position p xs ≡ Some (position_or_len p xs)
  position_first there = ap (λ t. cond t (Some (position_or_len p xs)) None) (lt-ltb (position_or_len p xs) (length xs) there)

-- if none is found, each is of another one
pub none_of : (w : Premises) (snapshots : List Snapshot) → position (is_of w) snapshots ≡ None → AreOthers w snapshots
none_of w snapshots none k d below same =
    let first = first_before (is_of w) snapshots k d ((same_numbers_equal (worldview_at snapshots k d) w).1 same) in
    none-some (position_or_len (is_of w) snapshots) (sym none ∙ position_first (is_of w) snapshots (omega (arith, first, below)))

-- the snapshot of this worldview is the one that is found
pub apart_place : (w : Premises) (snapshots : List Snapshot) (place : ℕ) (d : Snapshot) → place < length snapshots →
    is_of w (get_or snapshots place d) ≡ true → AreApart snapshots → position (is_of w) snapshots ≡ Some place
apart_place w snapshots place d there own apart =
    let first = first_before (is_of w) snapshots place d own in
    let within : position_or_len (is_of w) snapshots < length snapshots = omega (arith, first, there) in
    let found = passes_at_first (is_of w) snapshots d within in
    let same = (same_numbers_equal (worldview_at snapshots (position_or_len (is_of w) snapshots) d) w).0 found
    ∙ sym ((same_numbers_equal (worldview_at snapshots place d) w).0 own) in
    position_first (is_of w) snapshots within
    ∙ ap (λ n. Some n) (apart (position_or_len (is_of w) snapshots) place d within there same)
