-- A settling that changes the values of a snapshot in place: the snapshot after it, and the workbench.
use Rattle.std.proofs.Common.{◌≡◌, ◌≢◌, ℕ, ◌<◌, ◌≤◌, Bool, true, false, List, ◌∷◌, All, length, get_or, set, Result, Ok, Err, Some, refl, sym, ap, ◌∙◌, subst, inl, inr, arith, get_or-set_other, get_or-set_same}
use Rattle.std.specs.Prelude.{OnErr, OnOk, position, remove}
use Rattle.std.specs.Result.{is_ok}
use Rattle.std.proofs.lemmas.Bool.{both_ways, cases_Bool}
use Rattle.std.proofs.lemmas.List.{length-set}
use Rattle.std.proofs.lemmas.List.Folds.{find_past}
use Rattle.std.proofs.lemmas.Option.{none-some, same_Some}
use Rattle.pw_premises.specs.Premises.{Premises}
use Rattle.pw_premises.specs.PremiseSubsets.{is_subset_refl, same_numbers_equal}
use Rattle.pw_cells.specs.Cells.{Store, kinds_of}
use Rattle.pw_network.specs.Network.{Network, IsWellNetwork}
use Rattle.pw_settle.specs.Calls.{gains, tally}
use Rattle.pw_settle.specs.Growth.{HasValues, IsInterrupted, KeepsIfSound, KeepsMore, RestOnUpstreamAfter, StaysUpstreamAfter}
use Rattle.pw_settle.specs.Due.{AreDue, CallsWhatIsDue}
use Rattle.pw_settle.specs.Settled.{IsSettled, Settled}
use Rattle.pw_settle.specs.Sound.{IsSound}
use Rattle.pw_settle.specs.Values.{kinds_in}
use Rattle.pw_settle.proofs.KeptFacts.{by_cell}
use Rattle.pw_reasons.proofs.NogoodLemmas.{nogoods_same}
use Rattle.pw_sessions.specs.Freshness.{AreCalls, CallsDue, CallsNoneIfFresh}
use Rattle.pw_sessions.specs.inside.Steps.{CallsDueAgain, CanAnswer, HasSettled, IsAfterSettling, IsRemembered, OnlyKeepsMore, OnlySpares, RestOnUpstreamOf, StaysUpstreamOf, place_in}
use Rattle.pw_sessions.specs.Snapshot.{IsCurrent, IsSnapshotOf, Snapshot, is_of, snapshot_in, start_for}
use Rattle.pw_sessions.specs.Workbench.{Workbench, beliefs_in}
use Rattle.pw_sessions.proofs.CurrentValues.{current_keeping, current_settled}
use Rattle.pw_sessions.proofs.FewCalls.{due_none, no_gains}
use Rattle.pw_sessions.proofs.FreshUsers.{calls_none, calls_none_if_fresh, fresh_remembered}
use Rattle.pw_sessions.proofs.LastValues.{only_remembers, only_settles, snapshots_keeping}
use Rattle.pw_sessions.proofs.SnapshotLists.{first_there, its_worldview, latest_after, own_there, position_within, set_there, starts_there}
use Rattle.pw_sessions.proofs.UpstreamSnapshots.{Rests}

-- ---- the snapshot

module _ (network : Network) (well : IsWellNetwork network) (old new : Store) (same : kinds_of old ≡ kinds_in network) (sound : IsSound network old)
    (before values : Settled) where
  -- its values are current, if they were found
  pub current_again : {E : Type 0} (r : Result (Unit {0}) E) → KeepsMore network old new → OnOk r (HasValues network old new before.worldview values) →
      OnOk r (KeepsIfSound network old new before.worldview) → OnOk r (IsCurrent network new values)
  current_again (Ok u) grows has kept =
      current_settled network well old new before.worldview values same grows (has.settled sound) has.fits has.instances (kept sound)
  current_again (Err e) grows has kept = has

  -- the number of calls
  pub calls_again : {E : Type 0} (r : Result (Unit {0}) E) → OnOk r (CallsWhatIsDue network old new before.worldview before values) →
      OnOk r (CallsDueAgain network old new before values)
  calls_again (Ok u) due =
      let (flags, are, least, most) = due (is_subset_refl before.worldview) in
      (flags, are, record { least = least; most = most })
  calls_again (Err e) due = due

  -- none, if the values were current
  pub no_calls_again : {E : Type 0} (r : Result (Unit {0}) E) → OnOk r (KeepsIfSound network old new before.worldview) →
      OnOk r (CallsWhatIsDue network old new before.worldview before values) → OnOk r (IsCurrent network old before → values.calls ≡ 0)
  no_calls_again (Ok u) kept due = λ current.
      let (flags, are, least, most) = due (is_subset_refl before.worldview) in
      let none = no_gains network old new before.worldview current.kept (kept sound) in
      let zero = due_none network old before.worldview before flags refl current are in
      omega (arith, most, zero, none)
  no_calls_again (Err e) kept due = due

  -- it fits, found or not
  pub fits_again : {E : Type 0} (r : Result (Unit {0}) E) (known : Bool) → known ≡ is_ok r →
      OnOk r (HasValues network old new before.worldview values) → OnErr r (IsInterrupted network old new before values) →
      OnOk r (IsCurrent network new values) → length network.declared.cells ≤ length before.infos →
      IsSnapshotOf network new (record { values = values; is_current = known })
  fits_again (Ok u) known is has refused current declared = record {
    fits = has.fits;
    continues = has.continues;
    declared = omega (arith, has.cells);
    current = λ so. current;
  }
  fits_again (Err e) known is has refused current declared = record {
    fits = refused.fits;
    continues = refused.continues;
    declared = omega (arith, declared, refused.cells);
    current = λ so. absurd (both_ways known is so);
  }

-- ---- the workbench

module _ (old : Workbench) (user place : ℕ) (d before after : Snapshot) (store : Store) (can : CanAnswer old user)
    (at : place_in old user ≡ Some place) (read : before ≡ get_or old.snapshots place d) (worldview : after.values.worldview ≡ before.values.worldview)
    (grows : KeepsMore old.network old.store store) (upstream : StaysUpstreamAfter old.network before.values.supports old.store store)
    (lie : RestOnUpstreamAfter old.network before.values.supports old.store after.values.supports) (fits : IsSnapshotOf old.network store after) where
  abbrev w : Premises
  w = beliefs_in old user

  there : place < length old.snapshots
  there = position_within (is_of w) old.snapshots place at

  has : snapshot_in old.snapshots w ≡ Some before
  has = own_there old.snapshots w place d before at read

  own : before.values.worldview ≡ w
  own = its_worldview old.snapshots w before has

  -- what holds of all holds of this one
  of_all : (P : Snapshot → Type 0) → All P old.snapshots → P before
  of_all P all = subst P (sym read) (all place d there)

  stays : StaysUpstreamOf old.network old.store old.snapshots store
  stays given rests = upstream given rests.kept (of_all (Rests old.network given) rests.snapshots)

  lies : RestOnUpstreamOf old.network old.store old.snapshots after.values
  lies given rests = lie given rests.kept (of_all (Rests old.network given) rests.snapshots)

  -- the user's snapshot is of the same worldview as before
  still_own : after.values.worldview ≡ w
  still_own = worldview ∙ own

  -- ---- what was counted

  starts : start_for old.snapshots w ≡ Some before
  starts = starts_there old.snapshots w before has

  module _ (calls : ℕ) (counted : calls ≡ after.values.calls) where
    -- the calls are those that were due
    due_again : CallsDueAgain old.network old.store store before.values after.values →
        CallsDue old.network old.store store w (start_for old.snapshots w) calls
    due_again due = record {
      anew = λ no. absurd (none-some before (sym no ∙ starts));
      further = λ snapshot begins.
          let (flags, are, count) = due in (
            flags,
            subst (λ (s : Snapshot). AreDue old.network old.store w s.values flags) (same_Some before snapshot (sym starts ∙ begins))
                (subst (λ (u : Premises). AreDue old.network old.store u before.values flags) own are),
            subst (AreCalls (tally flags) (gains old.network old.store store w)) (sym counted)
                (subst (λ (u : Premises). AreCalls (tally flags) (gains old.network old.store store u) after.values.calls) own count),
          );
    }

    -- none where the user was fresh
    none_again : (IsCurrent old.network old.store before.values → after.values.calls ≡ 0) → CallsNoneIfFresh old user calls
    none_again none =
        calls_none_if_fresh old user calls can.exists
        (λ snapshot begins was. counted
        ∙ none (subst (λ (s : Snapshot). IsCurrent old.network old.store s.values) (same_Some snapshot before (sym begins ∙ has)) was))

  -- ---- the snapshot has grown, and is the first one

  module _ (list others : List Snapshot) (calls : ℕ) (listed : list ≡ after ∷ others)
      (spares : OnlySpares old.beliefs (remove old.snapshots place) others) (counted : calls ≡ after.values.calls)
      (known : after.is_current ≡ true) (current : IsCurrent old.network store after.values) where
    abbrev found : Workbench
    found = record old { store = store; calls = calls }

    abbrev brought : Workbench
    brought = record old { store = store; snapshots = list; calls = calls }

    abbrev now : Snapshot
    now = record { values = after.values; is_current = true }

    is_now : after ≡ now
    is_now = ap {B = Snapshot} (λ b. record { values = after.values; is_current = b }) known

    first : list ≡ now ∷ others
    first = listed ∙ ap (λ (s : Snapshot). s ∷ others) is_now

    remembered : IsRemembered found after.values brought
    remembered = record {
      latest = latest_after old.beliefs old.snapshots (remove old.snapshots place) others list after.values
          (inr (place, ap (λ (u : Premises). position (is_of u) old.snapshots) still_own ∙ at, refl))
          spares first;
      rest = refl;
    }

    pub settled_first : IsSettled old.network old.store before.values.worldview after.values →
        CallsDueAgain old.network old.store store before.values after.values → HasSettled old user 0 brought
    settled_first is due = record {
      values = after.values;
      there = omega (arith, ap length first);
      has = λ d. ap (λ (l : List Snapshot). get_or l 0 d) first;
      found = first_there list others w now first still_own;
      settled = subst (λ (u : Premises). IsSettled old.network old.store u after.values) own is;
      current = current;
      due = due_again calls counted due;
    }

    pub after_first : (IsCurrent old.network old.store before.values → after.values.calls ≡ 0) → IsAfterSettling old user brought
    after_first none = record {
      grows = only_remembers old user found after.values brought (only_settles old user store calls grows stays) lies remembered
          still_own (subst (IsSnapshotOf old.network store) is_now fits);
      fresh = none_again calls counted none;
      stays = λ fresh. fresh_remembered found user after.values brought remembered can.exists still_own current;
      same = refl;
    }

  -- ---- the snapshot stays at its place

  abbrev kept : List Snapshot
  kept = set old.snapshots place after

  found_in_place : snapshot_in kept w ≡ Some after
  found_in_place = set_there old.snapshots w place after at still_own

  -- what held of all, and holds of the snapshot, holds of all
  all_with : (P : Snapshot → Type 0) → P after → All P old.snapshots → All P kept
  all_with P this all k e below =
      by_cell (λ k. k < length kept → P (get_or kept k e)) place (λ in_list. subst P (sym (get_or-set_same old.snapshots place after e there)) this)
      (λ k other in_list. subst P (sym (get_or-set_other old.snapshots place k after e other))
      (all k e (omega (arith, in_list, length-set old.snapshots place after)))) k below

  apart : (other : ℕ) → beliefs_in old other ≢ w → (s : Snapshot) → s.values.worldview ≡ w → is_of (beliefs_in old other) s ≡ false
  apart other differs s of = elim (cases_Bool (is_of (beliefs_in old other) s)) [
    | inl same ↦ absurd (differs (sym ((same_numbers_equal s.values.worldview (beliefs_in old other)).0 same) ∙ of))
    | inr not ↦ not
  ]

  module _ (calls : ℕ) where
    abbrev left : Workbench
    left = record old { store = store; snapshots = kept; calls = calls }

    keeps : OnlyKeepsMore old user left
    keeps = record {
      network = refl;
      beliefs = refl;
      others = λ other exists differs.
          find_past (is_of (beliefs_in old other)) old.snapshots place after d
          (ap (is_of (beliefs_in old other)) (sym read) ∙ apart other differs before own) (apart other differs after still_own);
      snapshots = λ fit.
          all_with (IsSnapshotOf old.network store) fits
          (snapshots_keeping old.network old.store store old.snapshots fit.sound.kinds fit.sound.sound grows fit.snapshots);
      nogoods = λ are. nogoods_same old.network old.store store grows.told old.nogoods are;
      grows = grows;
      upstream = λ given rests. record {
        kept = stays given rests;
        snapshots = all_with (Rests old.network given) (lies given rests) rests.snapshots;
      };
    }

    -- it is current if it was
    after_kept : (IsCurrent old.network old.store before.values → IsCurrent old.network store after.values) → CallsNoneIfFresh old user calls →
        IsAfterSettling old user left
    after_kept still none = record {
      grows = keeps;
      fresh = none;
      stays = λ fresh. record {
        exists = can.exists;
        snapshot = after;
        has = found_in_place;
        current = still
            (subst (λ (s : Snapshot). IsCurrent old.network old.store s.values) (same_Some fresh.snapshot before (sym fresh.has ∙ has)) fresh.current);
      };
      same = refl;
    }

  -- the settling was done, and this is how code reads the list
  module _ (list : List Snapshot) (calls : ℕ) (listed : list ≡ kept) (counted : calls ≡ after.values.calls)
      (current : IsCurrent old.network store after.values) where
    abbrev new : List Snapshot → Workbench
    new l = record old { store = store; snapshots = l; calls = calls }

    pub settled_in_place : after.is_current ≡ true → IsSettled old.network old.store before.values.worldview after.values →
        CallsDueAgain old.network old.store store before.values after.values → HasSettled old user place (new list)
    settled_in_place known is due = subst (λ (l : List Snapshot). HasSettled old user place (new l)) (sym listed) (record {
      values = after.values;
      there = omega (arith, there, length-set old.snapshots place after);
      has = λ e. get_or-set_same old.snapshots place after e there ∙ is_now;
      found = found_in_place ∙ ap (λ (s : Snapshot). Some s) is_now;
      settled = subst (λ (u : Premises). IsSettled old.network old.store u after.values) own is;
      current = current;
      due = due_again calls counted due;
    }) where
      is_now : after ≡ record { values = after.values; is_current = true }
      is_now = ap {B = Snapshot} (λ b. record { values = after.values; is_current = b }) known

    pub after_in_place : (IsCurrent old.network old.store before.values → after.values.calls ≡ 0) → IsAfterSettling old user (new list)
    after_in_place none =
        subst (λ (l : List Snapshot). IsAfterSettling old user (new l)) (sym listed) (after_kept calls (λ was. current) (none_again calls counted none))

  -- it was refused
  pub after_refused_again : (IsCurrent old.network old.store before.values → after.values ≡ before.values) → old.calls ≡ 0 →
      IsAfterSettling old user (left old.calls)
  after_refused_again unchanged uncounted =
      after_kept old.calls
      (λ is. subst (IsCurrent old.network store) (sym (unchanged is))
      (current_keeping old.network old.store store before.values can.fits.sound.kinds can.fits.sound.sound grows is))
      (calls_none old user old.calls uncounted)
