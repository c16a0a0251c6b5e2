use Rattle.std.proofs.Common.{◌≡◌, ◌<◌, ℕ, zero, suc, ℤ, pos, ◌&&◌, Bool, true, false, List, [], ◌∷◌, arith, refl, sym, ◌∙◌, ap}
use Rattle.std.specs.Int.Signed.{le_z}
use Rattle.std.specs.List.{list_any}
use Rattle.std.specs.Ordering.{int_eq}
use Rattle.pw_kinds.specs.Places.{IsSize}
use Rattle.pw_kinds.specs.Members as members
use Rattle.pw_kinds.proofs.MemberSets.{allows-full, size_of-closest}
use Rattle.pw_kinds.proofs.MemberExamples.{meet_of_closest, same_closest}
use Rattle.pw_kinds.proofs.laws.members_examples.Goals as goal

two : IsSize 2
two = (omega arith, omega arith)

three : IsSize 3
three = (omega arith, omega arith)

abbrev is_at : List ℕ → ℤ → Bool
is_at places v = list_any (λ place. int_eq (pos place) v) places

every : (k : ℕ) → k < 3 → true ≡ is_at (0 ∷ 1 ∷ 2 ∷ []) (pos k)
every zero h = refl
every (suc zero) h = refl
every (suc (suc zero)) h = refl
every (suc (suc (suc k))) h = absurd (omega arith)

low : (k : ℕ) → k < 3 → le_z (pos k) (pos 1) ≡ is_at (0 ∷ 1 ∷ []) (pos k)
low zero h = refl
low (suc zero) h = refl
low (suc (suc zero)) h = refl
low (suc (suc (suc k))) h = absurd (omega arith)

turned : (k : ℕ) → k < 3 → is_at (2 ∷ 0 ∷ []) (pos k) ≡ is_at (0 ∷ 2 ∷ []) (pos k)
turned zero h = refl
turned (suc zero) h = refl
turned (suc (suc zero)) h = refl
turned (suc (suc (suc k))) h = absurd (omega arith)

middle : (k : ℕ) → k < 3 → (is_at (0 ∷ 1 ∷ []) (pos k) && is_at (1 ∷ 2 ∷ []) (pos k)) ≡ is_at (1 ∷ []) (pos k)
middle zero h = refl
middle (suc zero) h = refl
middle (suc (suc zero)) h = refl
middle (suc (suc (suc k))) h = absurd (omega arith)

neither : (k : ℕ) → k < 3 → (is_at (0 ∷ []) (pos k) && is_at (1 ∷ 2 ∷ []) (pos k)) ≡ false
neither zero h = refl
neither (suc zero) h = refl
neither (suc (suc zero)) h = refl
neither (suc (suc (suc k))) h = absurd (omega arith)

pub returns : goal.returns
returns c = record {
  full = same_closest 3 (λ v. true) (is_at (0 ∷ 1 ∷ 2 ∷ [])) three every;
  past = allows-full 3 three (pos 3) ∙ refl;
  below = refl;
  closest = same_closest 3 (λ v. le_z v (pos 1)) (is_at (0 ∷ 1 ∷ [])) three low;
  in_any_order = same_closest 3 (is_at (2 ∷ 0 ∷ [])) (is_at (0 ∷ 2 ∷ [])) three turned;
  meet = meet_of_closest 3 (is_at (0 ∷ 1 ∷ [])) (is_at (1 ∷ 2 ∷ [])) (is_at (1 ∷ [])) three middle;
  apart = meet_of_closest 3 (is_at (0 ∷ [])) (is_at (1 ∷ 2 ∷ [])) (λ v. false) three neither;
  sizes = λ e.
      let same : 2 ≡ 3 = sym (size_of-closest 2 (λ v. true) two) ∙ ap members.size_of e ∙ size_of-closest 3 (λ v. true) three in
      omega arith;
}
