-- A list of snapshots in which one was changed, and then brought to the front.
use Rattle.std.proofs.Common.{◌≡◌, ℕ, ◌<◌, zero, suc, List, [], ◌∷◌, length, set, refl, ap, ◌∙◌, subst, get_or-set_same}
use Rattle.std.specs.Prelude.{remove, slice_index_or}
use Rattle.pw_premises.specs.Premises.{Premises}
use Rattle.pw_sessions.specs.inside.Steps.{IsBroughtFirst, OnlySpares}
use Rattle.pw_sessions.specs.Snapshot.{Snapshot}

-- without the element that was replaced, a list is the same
remove-set : {X : Type 0} (xs : List X) (i : ℕ) (y : X) → remove (set xs i y) i ≡ remove xs i
remove-set [] i y = refl
remove-set (x ∷ xs) zero y = refl
remove-set (x ∷ xs) (suc i) y = ap (λ l. x ∷ l) (remove-set xs i y)

module _ (beliefs read : List Premises) (same : read ≡ beliefs) (old changed new : List Snapshot) (place : ℕ) (snapshot : Snapshot)
    (there : place < length old) (is : changed ≡ set old place snapshot) (brought : IsBroughtFirst read place changed new) where
  -- the changed one is the first
  pub first_brought : new ≡ snapshot ∷ brought.left
  first_brought =
      brought.first snapshot
      ∙ ap (λ (s : Snapshot). s ∷ brought.left)
      (ap (λ (l : List Snapshot). slice_index_or l place snapshot) is ∙ get_or-set_same old place snapshot snapshot there)

  -- and the others are among those that were there
  pub others_brought : OnlySpares beliefs (remove old place) brought.left
  others_brought =
      subst (λ (bs : List Premises). OnlySpares bs (remove old place) brought.left) same
      (subst (λ (l : List Snapshot). OnlySpares read l brought.left)
      (ap (λ (l : List Snapshot). remove l place) is ∙ remove-set old place snapshot) brought.spares)
