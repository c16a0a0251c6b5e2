-- The result of a settling that goes on from a snapshot, or starts anew.
use Rattle.std.proofs.Common.{◌≡◌, ℕ, ◌+◌, ◌≤◌, Bool, true, List, Option, Some, None, Result, Ok, Err, IsErr, sym, ◌∙◌, subst, arith}
use Rattle.std.specs.Prelude.{IfOk, OnOk}
use Rattle.std.specs.FinSet.{is_subset}
use Rattle.std.proofs.lemmas.Option.{none-some, same_Some}
use Rattle.pw_premises.specs.Premises.{Premises}
use Rattle.pw_cells.specs.Cells.{Store, kept_in, kinds_of}
use Rattle.pw_network.specs.Network.{Network, IsWellNetwork}
use Rattle.pw_settle.specs.Calls.{tally}
use Rattle.pw_settle.specs.Calls.{gains, visible_count}
use Rattle.pw_settle.specs.Due.{AreDue}
use Rattle.pw_settle.specs.Growth.{CanContinue, HasValues, KeepsMore, RestOnUpstream}
use Rattle.pw_settle.specs.Settled.{IsSettled, Settled}
use Rattle.pw_settle.specs.Sound.{IsSound}
use Rattle.pw_settle.specs.Values.{kinds_in, value_in}
use Rattle.pw_settle.proofs.GrowingGains.{gains_more}
use Rattle.pw_sessions.specs.Freshness.{AreCalls, CallsDue, CallsDueFor}
use Rattle.pw_sessions.specs.inside.Steps.{IsAfterSettling, RestOnUpstreamOf, SettlesFor}
use Rattle.pw_sessions.specs.Snapshot.{IsCurrent, Snapshot, start_for}
use Rattle.pw_sessions.specs.Workbench.{Workbench, beliefs_in}
use Rattle.pw_sessions.proofs.CurrentValues.{current_settled}
use Rattle.pw_sessions.proofs.SnapshotLists.{starts_within}

module _ (network : Network) (well : IsWellNetwork network) (old new : Store) (w : Premises) (same : kinds_of old ≡ kinds_in network)
    (sound : IsSound network old) where
  -- what is kept after it is done
  abbrev Kept : Type 0
  Kept = IsSound network old → (cell : ℕ) → kept_in new cell w ≡ value_in network old w cell

  -- its values are current
  pub current_after : {E : Type 0} (r : Result Settled E) → KeepsMore network old new →
      IfOk r (HasValues network old new w) → OnOk r Kept → IfOk r (λ settled. IsCurrent network new settled)
  current_after (Ok settled) grows has kept =
      current_settled network well old new w settled same grows (has.settled sound) has.fits has.instances (kept sound)
  current_after (Err e) grows has kept = has

  -- its values are those in the worldview
  pub values_after : {E : Type 0} (r : Result Settled E) → IfOk r (HasValues network old new w) →
      IfOk r (λ settled. IsSettled network old w settled)
  values_after (Ok settled) has = has.settled sound
  values_after (Err e) has = has

  -- a later settling can continue from them
  pub continues_after : {E : Type 0} (r : Result Settled E) → IfOk r (HasValues network old new w) → IfOk r (CanContinue new)
  continues_after (Ok settled) has = has.continues
  continues_after (Err e) has = has

  -- they rest on premises upstream, if all that there was does, whether or not earlier values do
  pub lie_after : {E : Type 0} (r : Result Settled E) (snapshots : List Snapshot) → IfOk r (λ settled. RestOnUpstream network old settled.supports) →
      IfOk r (RestOnUpstreamOf network old snapshots)
  lie_after (Ok settled) snapshots lie = λ given rests. lie given rests.kept
  lie_after (Err e) snapshots lie = lie

  -- ---- the number of calls, anew

  pub due_anew : {E : Type 0} (r : Result Settled E) (last : Option Snapshot) → last ≡ None →
      IfOk r (λ settled. visible_count network w ≤ settled.calls) →
      IfOk r (λ settled. settled.calls ≤ visible_count network w + gains network old new w) →
      IfOk r (λ settled. CallsDue network old new w last settled.calls)
  due_anew (Ok settled) last none least most = record {
    anew = λ so. record { least = least; most = most };
    further = λ snapshot has. absurd (none-some snapshot (sym none ∙ has));
  }
  due_anew (Err e) last none least most = least

  -- ---- the number of calls from earlier values

  module _ (before : Snapshot) (snapshots : List Snapshot) (starts : start_for snapshots w ≡ Some before) where
    -- at least once for each instance that is due, and at most as many times more as is gained
    abbrev Due : Settled → Type 0
    Due settled = is_subset before.values.worldview w ≡ true → (due : List Bool)
        × AreDue network old w before.values due × (tally due ≤ settled.calls) × (settled.calls ≤ tally due + gains network old new w)

    its : (snapshot : Snapshot) → start_for snapshots w ≡ Some snapshot → before ≡ snapshot
    its snapshot has = same_Some before snapshot (sym starts ∙ has)

    pub due_again : {E : Type 0} (r : Result Settled E) → IfOk r Due →
        IfOk r (λ settled. CallsDue network old new w (start_for snapshots w) settled.calls)
    due_again (Ok settled) due = record {
      anew = λ none. absurd (none-some before (sym none ∙ starts));
      further = λ snapshot has.
          let (flags, are, first, up) = due (starts_within snapshots w before starts) in
          (flags, subst (λ (s : Snapshot). AreDue network old w s.values flags) (its snapshot has) are, record { least = first; most = up });
    }
    due_again (Err e) due = due

-- so it is if still more is kept afterwards
pub due_still : (network : Network) (old found new : Store) (w : Premises) (last : Option Snapshot) (calls : ℕ) → KeepsMore network found new →
    CallsDue network old found w last calls → CallsDue network old new w last calls
due_still network old found new w last calls more due = record {
  anew = λ none. wider (due.anew none);
  further = λ snapshot has.
      let (flags, are, count) = due.further snapshot has in
      (flags, are, wider count);
} where
  wider : {first : ℕ} → AreCalls first (gains network old found w) calls → AreCalls first (gains network old new w) calls
  wider count = let grown = gains_more network old found new w more in record { least = count.least; most = omega (arith, count.most, grown) }

-- the same for a user, where the network and the calls stay
pub due_for_still : (old found new : Workbench) (user : ℕ) → found.network ≡ old.network → KeepsMore found.network found.store new.store →
    new.calls ≡ found.calls → CallsDueFor old user found → CallsDueFor old user new
due_for_still old found new user network more calls due =
    subst (CallsDue old.network old.store new.store (beliefs_in old user) (start_for old.snapshots (beliefs_in old user))) (sym calls)
    (due_still old.network old.store found.store new.store (beliefs_in old user) (start_for old.snapshots (beliefs_in old user)) found.calls
    (subst (λ (n : Network). KeepsMore n found.store new.store) network more) due)

-- where a settling of the user was refused
pub settles_refused : {E : Type 0} (old : Workbench) (user : ℕ) (new : Workbench) (r : Result ℕ E) → IsErr r → IsAfterSettling old user new →
    new.calls ≡ 0 → SettlesFor old user new r
settles_refused old user new (Ok place) fails after none = absurd (cc)
settles_refused old user new (Err e) fails after none = record {
  settled = tt;
  after = after;
  refused = none;
}
