-- How a question ended that settled for its user.
use Rattle.std.proofs.Common.{◌≡◌, ℕ, true, List, length, get_or, Some, sym, ap, ◌∙◌, subst, inr, refl, arith}
use Rattle.pw_premises.specs.Premises.{Premises}
use Rattle.pw_cells.specs.Cells.{Store}
use Rattle.pw_network.specs.Network.{Network}
use Rattle.pw_settle.specs.Growth.{KeepsMore, StaysUpstream}
use Rattle.pw_settle.specs.Settled.{IsSettled}
use Rattle.pw_settle.proofs.Growing.{settled_still}
use Rattle.pw_reasons.specs.Nogood.{AreNogoods}
use Rattle.pw_sessions.specs.Freshness.{IsAsked, IsFresh, IsSettledFor}
use Rattle.pw_sessions.specs.Reply.{Reply}
use Rattle.pw_sessions.specs.Snapshot.{Snapshot, snapshot_in}
use Rattle.pw_sessions.specs.inside.Steps.{CanAnswer, HasSettled, IsAfterSettling, OnlyKeepsMore}
use Rattle.pw_sessions.specs.Workbench.{Workbench, beliefs_in}
use Rattle.pw_sessions.proofs.AfterSettling.{due_for_still}
use Rattle.pw_sessions.proofs.FreshUsers.{fresh_keeping}
use Rattle.pw_sessions.proofs.LastValues.{beliefs_kept, fits_after, only_notes}

module _ (old : Workbench) (user place : ℕ) (found : Workbench) where
  -- ---- the values that were settled

  -- the snapshot at this place has them
  place_values : (d at : Snapshot) (has : HasSettled old user place found) → at ≡ get_or found.snapshots place d → at.values ≡ has.values
  place_values d at has is = ap (λ (s : Snapshot). s.values) (is ∙ has.has d)

  -- so it has what settles under what the user believes
  pub place_settled : (d at : Snapshot) → HasSettled old user place found → at ≡ get_or found.snapshots place d → IsSettledFor old user at.values
  place_settled d at has is = subst (IsSettledFor old user) (sym (place_values d at has is)) has.settled

  -- and it still settles, though more is kept
  pub place_settled_still : (d at : Snapshot) → HasSettled old user place found → OnlyKeepsMore old user found → at ≡ get_or found.snapshots place d →
      IsSettled found.network found.store at.values.worldview at.values
  place_settled_still d at has keeps is =
      subst (λ (n : Network). IsSettled n found.store at.values.worldview at.values) (sym keeps.network)
      (settled_still old.network old.store found.store (beliefs_in old user) at.values keeps.grows (place_settled d at has is))

  -- ---- the user

  -- is fresh, once it settled
  fresh_settled : CanAnswer old user → HasSettled old user place found → OnlyKeepsMore old user found → IsFresh found user
  fresh_settled can has keeps = record {
    exists = omega (arith, can.exists, ap length keeps.beliefs);
    snapshot = now;
    has = subst (λ (w : Premises). snapshot_in found.snapshots w ≡ Some now) (sym (beliefs_kept old user found keeps)) has.found;
    current = has.current;
  } where
    now : Snapshot
    now = record { values = has.values; is_current = true }

  -- ---- the question

  module _ (Settling : Type 0) (settling : Settling) (after : IsAfterSettling old user found) where
    -- it settled; this holds of each answer
    pub asked_settled : (answer : Reply) → CanAnswer old user → HasSettled old user place found → IsAsked old user Settling found answer
    asked_settled answer can has = record {
      becomes = λ so. inr (fresh_settled can has after.grows);
      stays = λ is. fresh_settled can has after.grows;
      fresh = after.fresh;
      due = λ so. inr has.due;
      none = λ not. absurd (not settling);
    }

    -- it settled, and then more was kept and noted
    pub asked_noted : (store : Store) (nogoods : List Premises) (answer : Reply) → CanAnswer old user → HasSettled old user place found →
        KeepsMore found.network found.store store → StaysUpstream found.network found.store store → AreNogoods found.network found.store nogoods →
        IsAsked old user Settling (record found { store = store; nogoods = nogoods }) answer
    asked_noted store nogoods answer can has grows upstream are = record {
      becomes = λ so. inr fresh;
      stays = λ is. fresh;
      fresh = after.fresh;
      due = λ so. inr (due_for_still old found new user after.grows.network grows refl has.due);
      none = λ not. absurd (not settling);
    } where
      new : Workbench
      new = record found { store = store; nogoods = nogoods }

      fresh : IsFresh new user
      fresh =
          fresh_keeping found user new (fits_after old user found after.grows can.fits) (only_notes found user store nogoods grows upstream (λ noted. are)) refl
          user (fresh_settled can has after.grows)
