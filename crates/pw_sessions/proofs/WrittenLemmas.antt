-- Whether a visible instance writes a cell, tested one writer after another.
use Rattle.std.proofs.Common.{◌≡◌, ℕ, zero, suc, ◌+◌, ◌-◌, ◌<◌, inl, inr, Bool, true, false, ◌&&◌, ◌||◌, cond, eqb, eq-eqb, List, [], ◌∷◌, All, length, map, get_or, refl, sym, ap, subst, ◌∙◌, arith}
use Rattle.std.specs.Prelude.{filter, nat_eq}
use Rattle.std.specs.List.{list_any, range_with_len}
use Rattle.std.specs.FinSet.{is_subset}
use Rattle.std.proofs.lemmas.Bool.{ne_eqb}
use Rattle.std.proofs.lemmas.Bool.Decides.{eqb_tells}
use Rattle.std.proofs.lemmas.List.{get_or-map, length-map}
use Rattle.std.proofs.lemmas.List.Elements.{All-filter, All-head, All-tail}
use Rattle.pw_premises.specs.Premises.{Premises}
use Rattle.pw_decl.proofs.FlatKept.{range_below}
use Rattle.pw_network.specs.declared.instance.Instance.{Instance}
use Rattle.pw_network.specs.inside.Held.{attachment}
use Rattle.pw_network.specs.Network.{Attached}
use Rattle.pw_network.specs.Writers.{writers_in, writes}
use Rattle.pw_sessions.specs.inside.Steps.{is_written}

-- ---- a test of numbers in a row

any_cond : (b : Bool) (test : ℕ → Bool) (a : ℕ) (rest : List ℕ) (later : Bool) → list_any test rest ≡ later →
    list_any test (cond b (a ∷ rest) rest) ≡ ((b && test a) || later)
any_cond true test a rest later same = ap (λ l. test a || l) same
any_cond false test a rest later same = same

-- of those that pass another test
any_passing : (passes test : ℕ → Bool) (a n : ℕ) →
    list_any test (filter passes (range_with_len a n)) ≡ list_any (λ k. passes k && test k) (range_with_len a n)
any_passing passes test a zero = refl
any_passing passes test a (suc n) =
    any_cond (passes a) test a (filter passes (range_with_len (a + 1) n)) (list_any (λ k. passes k && test k) (range_with_len (a + 1) n))
    (any_passing passes test (a + 1) n)

-- of numbers of elements
any_in_row : {X : Type 0} (test : ℕ → Bool) (f : X → Bool) (a : ℕ) (xs : List X) →
    ((k : ℕ) (d : X) → k < length xs → test (a + k) ≡ f (get_or xs k d)) → list_any test (range_with_len a (length xs)) ≡ list_any f xs
any_in_row test f a [] same = refl
any_in_row test f a (x ∷ xs) same =
    let first : test a ≡ f x = ap test (let e : a ≡ a + 0 = omega arith in e) ∙ same 0 x (omega arith) in
    let rest = any_in_row test f (a + 1) xs
    (λ k d within. ap test (let e : (a + 1) + k ≡ a + suc k = omega arith in e) ∙ same (suc k) d (omega arith)) in
    λ i. first i || rest i

-- ---- the writers of a cell

eqb_turned : (a b : ℕ) → eqb a b ≡ eqb b a
eqb_turned a b =
    elim (eqb_tells a b) [
      | inl is ↦ is.0 ∙ sym (eq-eqb b a (sym is.1))
      | inr other ↦ other.0 ∙ sym (ne_eqb b a (λ same. other.1 (sym same)))
    ]

-- the instance of this number is visible
abbrev pub sees : List Attached → Premises → ℕ → Bool
sees attached worldview number = get_or (map (λ (a : Attached). is_subset a.support worldview) attached) number false

-- a writer is visible exactly if an instance is that writes the cell
written_by : (attached : List Attached) (cell : ℕ) (worldview : Premises) →
    list_any (sees attached worldview) (writers_in attached cell) ≡ is_written attached cell worldview
written_by attached cell worldview =
    let writing : ℕ → Bool = λ k. get_or (map (writes cell) attached) k false in
    let both : ℕ → Bool = λ k. writing k && sees attached worldview k in
    let all : length attached - 0 ≡ length attached = omega arith in
    any_passing writing (sees attached worldview) 0 (length attached - 0)
    ∙ ap (λ n. list_any both (range_with_len 0 n)) all
    ∙ any_in_row both (λ a. nat_eq a.instance.output cell && is_subset a.support worldview) 0 attached
    (λ k d within. ap both (let e : 0 + k ≡ k = omega arith in e)
    ∙ (λ i. (get_or-map (writes cell) attached k d false within ∙ eqb_turned cell (get_or attached k d).instance.output) i
    && get_or-map (λ (a : Attached). is_subset a.support worldview) attached k d false within i))

-- no instance writes it if there is none
pub none_attached : (attached : List Attached) (cell : ℕ) (worldview : Premises) → length attached ≡ 0 → false ≡ is_written attached cell worldview
none_attached [] cell worldview none = refl
none_attached (a ∷ attached) cell worldview none = absurd (omega (arith, none))

-- ---- one writer after another

-- a writer among those left is visible exactly if a visible instance writes the cell
pub record AreLeft (attached : List Attached) (cell : ℕ) (worldview : Premises) (left : List ℕ) : Type 0 where
  pub same : list_any (sees attached worldview) left ≡ is_written attached cell worldview
  pub below : All (λ n. n < length attached) left

-- at first all writers are left
pub all_left : (attached : List Attached) (cell : ℕ) (worldview : Premises) (left : List ℕ) → left ≡ writers_in attached cell → AreLeft attached cell worldview left
all_left attached cell worldview left all = record {
  same = ap (list_any (sees attached worldview)) all ∙ written_by attached cell worldview;
  below = subst (All (λ n. n < length attached)) (sym all)
      (All-filter (λ n. get_or (map (writes cell) attached) n false) (λ n. n < length attached) _
      (range_below (length attached - 0) (length attached) (omega arith)));
}

module _ (attached : List Attached) (cell : ℕ) (worldview : Premises) (left : List ℕ) (are : AreLeft attached cell worldview left) where
  -- none is left
  pub none_written : left ≡ [] → false ≡ is_written attached cell worldview
  none_written none = sym (ap (list_any (sees attached worldview)) none) ∙ are.same

  module _ (number : ℕ) (rest : List ℕ) (next : left ≡ number ∷ rest) where
    below : All (λ n. n < length attached) (number ∷ rest)
    below = subst (All (λ n. n < length attached)) next are.below

    pub next_below : number < length attached
    next_below = All-head (λ n. n < length attached) number rest below

    stepped : (sees attached worldview number || list_any (sees attached worldview) rest) ≡ is_written attached cell worldview
    stepped = sym (ap (list_any (sees attached worldview)) next) ∙ are.same

    -- the code tests the instance of the next number
    module _ (instances : List Instance) (d : Instance) (same : map attachment instances ≡ attached) (seen : Bool)
        (tells : seen ≡ is_subset (attachment (get_or instances number d)).support worldview) where
      abbrev see : Attached → Bool
      see a = is_subset a.support worldview

      sees_next : seen ≡ sees attached worldview number
      sees_next =
          let l = length-map instances attachment in
          let m = ap length same in
          tells
          ∙ sym (get_or-map see (map attachment instances) number (attachment d) false (omega (arith, next_below, m))
          ∙ ap see (get_or-map attachment instances number d (attachment d) (omega (arith, next_below, l, m))))
          ∙ ap (λ xs. sees xs worldview number) same

      -- it is not visible
      pub passed_one : seen ≡ false → AreLeft attached cell worldview rest
      passed_one hidden = record {
        same = ap (λ b. b || list_any (sees attached worldview) rest) (sym hidden ∙ sees_next) ∙ stepped;
        below = All-tail (λ n. n < length attached) number rest below;
      }

      -- it is visible
      pub found_one : seen ≡ true → true ≡ is_written attached cell worldview
      found_one visible = ap (λ b. b || list_any (sees attached worldview) rest) (sym visible ∙ sees_next) ∙ stepped
