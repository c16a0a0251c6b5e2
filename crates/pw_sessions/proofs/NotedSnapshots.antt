-- Each snapshot, one after another, notes that something came.
use Rattle.std.proofs.Common.{◌≡◌, ◌≢◌, ℕ, ◌+◌, ◌<◌, ◌≤◌, List, length, map, get_or, set, sym, ap, ◌∙◌, subst, arith, get_or-set_other, get_or-set_same, refl, [], ◌∷◌}
use Rattle.std.proofs.Math.ListN.{get_or-map}
use Rattle.std.proofs.lemmas.List.{ext_get_or, get_or_default, length-map}
use Rattle.pw_settle.proofs.KeptFacts.{by_cell}
use Rattle.pw_sessions.specs.Snapshot.{EachBecomes, Snapshot}

-- those before this place were told, and the others not yet
pub record AreNotedBelow (From : Snapshot → Snapshot → Type 0) (old now : List Snapshot) (count : ℕ) : Type 0 where
  pub done : (k : ℕ) (d : Snapshot) → k < count → From (get_or old k d) (get_or now k d)
  pub rest : (k : ℕ) (d : Snapshot) → count ≤ k → get_or now k d ≡ get_or old k d

-- one more noted it
pub noted_next : (From : Snapshot → Snapshot → Type 0) (old now next : List Snapshot) (place : ℕ) (d is : Snapshot) → AreNotedBelow From old now place →
    place < length now → next ≡ set now place is → From (get_or now place d) is → AreNotedBelow From old next (place + 1)
noted_next From old now next place d is so_far there set_to told = record {
  done = λ k e below.
      by_cell (λ k. k < place + 1 → From (get_or old k e) (get_or next k e)) place
      (λ here. subst (λ (s : Snapshot). From s (get_or next place e)) (sym (own e))
      (subst (From (get_or now place d)) (sym (ap (λ l. get_or l place e) set_to ∙ get_or-set_same now place is e there)) told))
      (λ k other here. subst (From (get_or old k e)) (sym (others k e other)) (so_far.done k e (before k other here))) k below;
  rest = λ k e past. others k e (λ same. is_past k same past) ∙ so_far.rest k e (omega (arith, past));
} where
  own : (e : Snapshot) → get_or old place e ≡ get_or now place d
  own e = sym (so_far.rest place e (omega arith)) ∙ get_or_default now place e d there

  others : (k : ℕ) (e : Snapshot) → k ≢ place → get_or next k e ≡ get_or now k e
  others k e other = ap (λ l. get_or l k e) set_to ∙ get_or-set_other now place k is e other

  before : (k : ℕ) → k ≢ place → k < place + 1 → k < place
  before k other here = omega (arith, other, here)

  is_past : (k : ℕ) → k ≡ place → place + 1 ≤ k → ⊥
  is_past k same past = omega (arith, same, past)

-- after all were told: what a function makes of each
pub noted_all : (f : Snapshot → Snapshot) (old now : List Snapshot) (count : ℕ) → length now ≡ length old → length old ≤ count →
    AreNotedBelow (λ x y. y ≡ f x) old now count → now ≡ map f old
noted_all f old now count many all noted = by now old many all noted
  where
    by : (now old : List Snapshot) → length now ≡ length old → length old ≤ count → AreNotedBelow (λ x y. y ≡ f x) old now count → now ≡ map f old
    by [] [] many all noted = refl
    by [] (x ∷ old) many all noted = absurd (omega (arith, many))
    by (y ∷ now) [] many all noted = absurd (omega (arith, many))
    by (y ∷ now) (x ∷ old) many all noted =
        ext_get_or (f x) (y ∷ now) (map f (x ∷ old)) (many ∙ sym (length-map (x ∷ old) f))
        (λ k below. get_or_default (y ∷ now) k (f x) x below ∙ noted.done k x (omega (arith, below, many, all)) ∙ sym (get_or-map f (x ∷ old) k x))

-- what came of each
pub all_become : (From : Snapshot → Snapshot → Type 0) (old now : List Snapshot) (count : ℕ) → length now ≡ length old → length old ≤ count →
    AreNotedBelow From old now count → EachBecomes From old now
all_become From old now count many all noted = record { many = many; each = λ place d there. noted.done place d (omega (arith, there, all)) }
