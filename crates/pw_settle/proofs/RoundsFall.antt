-- Rounds end: each that changes one of the cells that are informed lowers the sum of their ranks.
use Rattle.std.proofs.Common.{◌≡◌, ℕ, zero, suc, ◌<◌, ◌≤◌, List, [], ◌∷◌, ◌⊎◌, inl, inr, All, Contains, sum_by, refl, sym, ◌∙◌, ap, subst, arith}
use Rattle.std.proofs.Math.Path.{fun_ext}
use Rattle.std.proofs.lemmas.List.Elements.{All-cons, All-contains, All-nil}
use Rattle.std.proofs.lemmas.List.Sums.{sum_by-cons, sum_by-le-sum_by}
use Rattle.std.specs.Fn.{iterate}
use Rattle.pw_info.specs.declared.info.Info.{Info}
use Rattle.pw_info.specs.Information.{Implies}
use Rattle.pw_info.specs.Rank.{rank_of}
use Rattle.pw_info.proofs.Ranks.{rank_gain}
use Rattle.pw_settle.specs.Sources.{Cells, Source, cell_of, AreOfTheirKinds, Fits, IsImplied}
use Rattle.pw_settle.specs.Fixpoint.{AreOver, round}
use Rattle.pw_settle.proofs.Membership.{each_member}
use Rattle.pw_settle.proofs.RoundLemmas.{kind-round, left_implied, round_below, round_gains, round_stays}

-- if for each thing a property holds or one number is below another, and never above it, then the
-- property holds for all of a list, or the sum of the ones is below the sum of the others
pub all_or_falls : {X : Type 0} (P : X → Type 0) (f g : X → ℕ) → ((x : X) → P x ⊎ (f x < g x)) → ((x : X) → f x ≤ g x) →
    (xs : List X) → All P xs ⊎ (sum_by f xs < sum_by g xs)
all_or_falls P f g either most [] = inl (All-nil P)
all_or_falls P f g either most (x ∷ xs) =
    let left = sum_by-cons f x xs in
    let right = sum_by-cons g x xs in
    let rest = sum_by-le-sum_by f g xs most in
    let here = most x in
    elim (either x) [
      | inr falls ↦ inr (omega arith)
      | inl holds ↦
          elim (all_or_falls P f g either most xs) [
            | inl all ↦ inl (All-cons P x xs holds all)
            | inr falls ↦ inr (omega arith)
          ]
    ]

module _ {C : Type 0} (cells : Cells C) (sources : List (Source C)) where
  -- rounds keep the kinds
  pub kind-rounds : (n : ℕ) (known : C → Info) → AreOfTheirKinds cells known → AreOfTheirKinds cells (iterate (round cells sources) n known)
  kind-rounds zero known kinds = kinds
  kind-rounds (suc n) known kinds = kind-rounds n (round cells sources known) (λ c. kind-round cells sources known c ∙ kinds c)

  -- what one round leaves unchanged, rounds leave unchanged
  pub rounds_stay : (known : C → Info) → ((c : C) → round cells sources known c ≡ known c) → (n : ℕ) → iterate (round cells sources) n known ≡ known
  rounds_stay known stays zero = refl
  rounds_stay known stays (suc n) = ap (iterate (round cells sources) n) (fun_ext stays) ∙ rounds_stay known stays n

  module _ (fit : All (Fits cells) sources) where
    -- anything that implies the sources, and what is known, implies what is known after rounds
    pub rounds_below : (last : C → Info) → AreOfTheirKinds cells last → All (IsImplied last) sources → (n : ℕ) (known : C → Info) →
        AreOfTheirKinds cells known → ((c : C) → Implies (last c) (known c)) → (c : C) → Implies (last c) (iterate (round cells sources) n known c)
    rounds_below last last_kinds implied zero known kinds more = more
    rounds_below last last_kinds implied (suc n) known kinds more =
        rounds_below last last_kinds implied n (round cells sources known) (λ c. kind-round cells sources known c ∙ kinds c)
        (round_below cells sources fit known kinds last last_kinds implied more)

    -- a round leaves a cell unchanged, or lowers its rank
    left_or_lower : (known : C → Info) → AreOfTheirKinds cells known → (c : C) →
        (round cells sources known c ≡ known c) ⊎ (rank_of (round cells sources known c) < rank_of (known c))
    left_or_lower known kinds c =
        rank_gain (round cells sources known c) (known c) (kind-round cells sources known c) (round_gains cells sources fit known kinds c)

    -- so a round never raises a rank
    never_higher : (known : C → Info) → AreOfTheirKinds cells known → (c : C) → rank_of (round cells sources known c) ≤ rank_of (known c)
    never_higher known kinds c = elim (left_or_lower known kinds c) [
      | inl left ↦ let same : rank_of (round cells sources known c) ≡ rank_of (known c) = ap rank_of left in omega arith
      | inr lower ↦ omega arith
    ]

  module _ (over : List C) (are : AreOver cells over sources) where
    -- what is known implies the sources, or a round lowers the sum of the ranks of the cells that
    -- they inform
    implied_or_falls : (known : C → Info) → AreOfTheirKinds cells known →
        All (IsImplied known) sources ⊎ (sum_by (λ c. rank_of (round cells sources known c)) over < sum_by (λ c. rank_of (known c)) over)
    implied_or_falls known kinds =
        elim (all_or_falls (λ c. round cells sources known c ≡ known c) (λ c. rank_of (round cells sources known c)) (λ c. rank_of (known c))
        (left_or_lower are.fit known kinds) (never_higher are.fit known kinds) over) [
          | inl left ↦
              inl (each_member (IsImplied known) sources (λ source is.
              left_implied cells sources are.fit known kinds source is
              (All-contains (λ c. round cells sources known c ≡ known c) over (cell_of source) left
              (All-contains (λ s. Contains over (cell_of s)) sources source are.within is))))
          | inr falls ↦ inr falls
        ]

    -- after as many rounds as the sum of the ranks what is known implies the sources
    pub rounds_imply : (n : ℕ) (known : C → Info) → AreOfTheirKinds cells known → sum_by (λ c. rank_of (known c)) over ≤ n →
        All (IsImplied (iterate (round cells sources) n known)) sources
    rounds_imply zero known kinds most = elim (implied_or_falls known kinds) [ inl implied ↦ implied | inr falls ↦ absurd (omega arith) ]
    rounds_imply (suc n) known kinds most = elim (implied_or_falls known kinds) [
      | inl implied ↦
          subst (λ (last : C → Info). All (IsImplied last) sources)
          (sym (rounds_stay known (round_stays cells sources are.fit known kinds implied) (suc n))) implied
      | inr falls ↦ rounds_imply n (round cells sources known) (λ c. kind-round cells sources known c ∙ kinds c) (omega arith)
    ]
