-- A settling in a worldview of which there is no snapshot: the workbench after it.
use Rattle.std.proofs.Common.{◌≡◌, ℕ, true, List, length, get_or, None, refl, sym, ap, ◌∙◌, subst, arith}
use Rattle.std.proofs.lemmas.Option.{none-some}
use Rattle.pw_premises.specs.Premises.{Premises}
use Rattle.pw_cells.specs.Cells.{Store}
use Rattle.pw_network.specs.Network.{IsWellNetwork, Network}
use Rattle.pw_settle.specs.Growth.{CanContinue, KeepsMore}
use Rattle.pw_settle.specs.Settled.{Settled}
use Rattle.pw_sessions.specs.Freshness.{CallsDue, IsSettledFor}
use Rattle.pw_sessions.specs.inside.Steps.{CanAnswer, HasSettled, IsAfterSettling, IsLatest, IsRemembered, RestOnUpstreamOf, StaysUpstreamOf, place_in}
use Rattle.pw_sessions.specs.Snapshot.{IsCurrent, Snapshot, is_of, start_for}
use Rattle.pw_sessions.specs.Workbench.{Workbench, beliefs_in}
use Rattle.pw_sessions.proofs.FreshUsers.{calls_none, calls_none_if_fresh, fresh_keeping, fresh_remembered}
use Rattle.pw_sessions.proofs.LastValues.{fitting_snapshot, only_remembers, only_settles}
use Rattle.pw_sessions.proofs.SnapshotLists.{first_there, found_none}

module _ (old : Workbench) (user : ℕ) (store : Store) (can : CanAnswer old user) (grows : KeepsMore old.network old.store store)
    (upstream : StaysUpstreamOf old.network old.store old.snapshots store) where
  -- it was refused, and the snapshots stay
  pub after_refused_anew : (snapshots : List Snapshot) → snapshots ≡ old.snapshots → old.calls ≡ 0 →
      IsAfterSettling old user (record old { store = store; snapshots = snapshots })
  after_refused_anew snapshots stay uncounted =
      subst (λ (l : List Snapshot). IsAfterSettling old user (record old { store = store; snapshots = l })) (sym stay) (record {
        grows = only_settles old user store old.calls grows upstream;
        fresh = calls_none old user old.calls uncounted;
        stays = fresh_keeping old user (record old { store = store }) can.fits (only_settles old user store old.calls grows upstream) refl user;
        same = refl;
      })

  -- it was done, and its values are remembered
  module _ (snapshots : List Snapshot) (calls : ℕ) (values : Settled) (latest : IsLatest old.beliefs old.snapshots values snapshots)
      (settled : IsSettledFor old user values) (current : IsCurrent old.network store values) where
    abbrev found : Workbench
    found = record old { store = store; calls = calls }

    abbrev new : Workbench
    new = record old { store = store; snapshots = snapshots; calls = calls }

    remembered : IsRemembered found values new
    remembered = record { latest = latest; rest = refl }

    pub settled_anew : CallsDue old.network old.store store (beliefs_in old user) (start_for old.snapshots (beliefs_in old user)) calls →
        HasSettled old user 0 new
    settled_anew due = record {
      values = values;
      there = omega (arith, ap length latest.latest);
      has = λ d. ap (λ (l : List Snapshot). get_or l 0 d) latest.latest;
      found =
          first_there snapshots latest.earlier (beliefs_in old user) (record { values = values; is_current = true }) latest.latest
          settled.worldview_is;
      settled = settled;
      current = current;
      due = due;
    }

    pub after_settled_anew : IsWellNetwork old.network → place_in old user ≡ None → CanContinue store values →
        RestOnUpstreamOf old.network old.store old.snapshots values → IsAfterSettling old user new
    after_settled_anew well none continues lie = record {
      grows = only_remembers old user found values new (only_settles old user store calls grows upstream) lie remembered settled.worldview_is
          (fitting_snapshot old user found values well (only_settles old user store calls grows upstream) settled continues current);
      fresh = calls_none_if_fresh old user calls can.exists
          (λ snapshot has was. absurd (none-some snapshot (sym (found_none (is_of (beliefs_in old user)) old.snapshots none) ∙ has)));
      stays = λ fresh. fresh_remembered found user values new remembered can.exists settled.worldview_is current;
      same = refl;
    }

-- the number of calls, as code reads the worldview, the snapshots and the count
pub due_read : (old new : Store) (network : Network) (w believed : Premises) (read snapshots : List Snapshot) (calls count : ℕ) → w ≡ believed →
    read ≡ snapshots → count ≡ calls → CallsDue network old new w (start_for read w) calls →
    CallsDue network old new believed (start_for snapshots believed) count
due_read old new network w believed read snapshots calls count worldview list counted due =
    subst (λ (u : Premises). CallsDue network old new u (start_for snapshots u) count) worldview
    (subst (λ (l : List Snapshot). CallsDue network old new w (start_for l w) count) list
    (subst (CallsDue network old new w (start_for read w)) (sym counted) due))
