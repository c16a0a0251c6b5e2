-- The premises of an instance joined with those at hand of its inputs.
use Rattle.std.proofs.Common.{◌≡◌, ◌⊎◌, ℕ, true, List, [], ◌∷◌, All, Contains, sym, ◌∙◌, inl, inr}
use Rattle.std.specs.Cmp.{nat_cmp_total}
use Rattle.std.specs.FinSet.{contains, contains-union, is_subset, union}
use Rattle.std.proofs.lemmas.Bool.{or_cases}
use Rattle.std.proofs.lemmas.List.Elements.{All-cons, All-nil}
use Rattle.pw_premises.specs.Premises.{Premises}
use Rattle.pw_premises.specs.PremiseSubsets.{is_subset_trans, is_subset_union_left, is_subset_union_right, union_is_subset}
use Rattle.pw_settle.specs.inside.Known.{joined}
use Rattle.pw_settle.specs.Settled.{support_at}
use Rattle.pw_settle.proofs.Membership.{contains_first, contains_more}

module _ (supports : List Premises) where
  -- if each part is in a worldview, so are they joined
  pub joined_within : (w support : Premises) (inputs : List ℕ) → is_subset support w ≡ true → ((cell : ℕ) → is_subset (support_at supports cell) w ≡ true) →
      is_subset (joined supports support inputs) w ≡ true
  joined_within w support [] own each = own
  joined_within w support (input ∷ inputs) own each =
      joined_within w (union support (support_at supports input)) inputs (union_is_subset support (support_at supports input) w own (each input)) each

  -- if they are in a worldview joined, so is each part
  pub joined_parts : (w support : Premises) (inputs : List ℕ) → is_subset (joined supports support inputs) w ≡ true →
      (is_subset support w ≡ true) × All (λ cell. is_subset (support_at supports cell) w ≡ true) inputs
  joined_parts w support [] all = (all, All-nil (λ cell. is_subset (support_at supports cell) w ≡ true))
  joined_parts w support (input ∷ inputs) all =
      let rest = joined_parts w (union support (support_at supports input)) inputs all in (
        is_subset_trans support (union support (support_at supports input)) w (is_subset_union_left support (support_at supports input)) rest.0,
        All-cons (λ cell. is_subset (support_at supports cell) w ≡ true) input inputs
            (is_subset_trans (support_at supports input) (union support (support_at supports input)) w
            (is_subset_union_right support (support_at supports input)) rest.0) rest.1,
      )

  -- each premise of theirs is one of a part
  pub joined_from : (support : Premises) (inputs : List ℕ) (p : ℕ) → contains (joined supports support inputs) p ≡ true →
      (contains support p ≡ true) ⊎ ((cell : ℕ) × Contains inputs cell × (contains (support_at supports cell) p ≡ true))
  joined_from support [] p has = inl has
  joined_from support (input ∷ inputs) p has =
      elim (joined_from (union support (support_at supports input)) inputs p has) [
        | inl both ↦ elim (or_cases (contains support p) (contains (support_at supports input) p)
            (sym (contains-union nat_cmp_total support (support_at supports input) p) ∙ both)) [
              | inl own ↦ inl own
              | inr its ↦ inr (input, contains_first input inputs, its)
            ]
        | inr (cell, among, its) ↦ inr (cell, contains_more input cell inputs among, its)
      ]
