-- How far a settling has come, and what waits on its agenda.
use Rattle.std.specs.Prelude.{◌≡◌, ◌≢◌, ℕ, ◌≤◌, Bool, true, false, List, All, AllPairs, length}
use Rattle.std.specs.Prelude.{◌*◌, ◌<◌, [], ◌∷◌, ◌+◌, OnErr, OnOk, Result}
use Rattle.pw_info.specs.declared.info.Info.{Info}
use Rattle.pw_info.specs.Information.{Implies}
use Rattle.pw_info.specs.Rank.{rank_of}
use Rattle.pw_premises.specs.Premises.{Premises}
use Rattle.pw_facts.specs.declared.fact.Fact.{Fact}
use Rattle.pw_cells.specs.Cells.{Store, kept_in, kinds_of}
use Rattle.pw_network.specs.Network.{Attached, Network}
use Rattle.pw_settle.specs.Calls.{is_instance_visible, is_set, reader_count, sum_below, tally, visible_at}
use Rattle.pw_settle.specs.Growth.{KeepsMore}
use Rattle.pw_settle.specs.inside.Known.{AreKept, StayUpstream, WereKept, joined}
use Rattle.pw_settle.specs.Settled.{info_at}
use Rattle.pw_settle.specs.Sources.{said_by}
use Rattle.pw_settle.specs.Values.{propagators_of, IsSatisfied, attached_no, kinds_in}

-- no flag is set
abbrev pub IsIdle : List Bool → Type 0
IsIdle flags = (number : ℕ) → is_set flags number ≡ false

-- the queue has each number once whose flag is set, and there is room for all. (Each number in it
-- is flagged, and there are as many as flags; so none is missing.)
pub record IsQueue (flags : List Bool) (queue : List ℕ) (capacity : ℕ) : Type 0 where
  pub flagged : All (λ number. is_set flags number ≡ true) queue
  pub once : AllPairs (λ m n. m ≢ n) queue
  pub count : length queue ≡ tally flags
  pub room : length flags ≤ capacity

-- each instance that is visible and not queued is satisfied
abbrev pub AreSatisfied : Network → Premises → (ℕ → Info) → List Bool → Type 0
AreSatisfied network w known queued =
    (number : ℕ) (d : Attached) → number < length network.attached →
    is_instance_visible w (attached_no network number d) ≡ true →
    is_set queued number ≡ false → IsSatisfied network known (attached_no network number d)

-- each of them but this one is satisfied
abbrev pub AreOthersSatisfied : Network → Premises → (ℕ → Info) → List Bool → ℕ → Type 0
AreOthersSatisfied network w known queued one =
    (number : ℕ) (d : Attached) → number < length network.attached → number ≢ one →
    is_instance_visible w (attached_no network number d) ≡ true →
    is_set queued number ≡ false → IsSatisfied network known (attached_no network number d)

-- a fact about the output of an instance that its procedure makes of what is at hand for the
-- inputs, and which says more than what is at hand for the output
pub record IsNews (network : Network) (infos : List Info) (supports : List Premises) (a : Attached)
    (cell : ℕ) (fact : Fact) : Type 0 where
  pub output : cell ≡ a.instance.output
  pub says : All (λ source. said_by (info_at infos) source
      ≡ fact.info) (propagators_of network.declared.procedures (a.instance ∷ []))
  pub rests : fact.support ≡ joined supports a.support a.instance.inputs
  pub new : Implies (info_at infos cell) fact.info → ⊥

-- what may still be gained: the sum over the cells of the rank of what is kept, times the visible
-- readers
abbrev pub weight : Network → Store → Premises → ℕ
weight network store w = sum_below (length store.cells) (λ cell.
    rank_of (kept_in store cell w) * reader_count network w cell)

-- only visible instances are queued
abbrev pub AreQueuedVisible : Network → Premises → List Bool → Type 0
AreQueuedVisible network w queued = (number : ℕ) → is_set queued number ≡ true →
    visible_at network w number ≡ true

-- each instance that is visible and is not queued is satisfied by what is kept
abbrev pub AreMet : Network → Store → Premises → List Bool → Type 0
AreMet network store w queued = AreSatisfied network w (λ cell. kept_in store cell w) queued

-- what waits and what may still be gained come to no more than before
abbrev pub LeavesNoMore : Network → Premises → Store → List Bool → Store → List Bool → Type 0
LeavesNoMore network w old queued_before new queued_now =
    tally queued_now + weight network new w ≤ tally queued_before + weight network old w

-- so do the calls that were made and what may still be gained
abbrev pub CallsNoMore : Network → Premises → Store → List Bool → Store → ℕ → Type 0
CallsNoMore network w old queued_before new calls =
    calls + weight network new w ≤ tally queued_before + weight network old w

-- a settling is underway: the store has the cells of the network, what is at hand is what it keeps,
-- only visible instances are queued, and each other visible one is satisfied
pub record IsUnderway (network : Network) (store : Store) (w : Premises) (infos : List Info)
    (supports : List Premises) (queued : List Bool) : Type 0 where
  pub kinds : kinds_of store ≡ kinds_in network
  pub kept : AreKept store w infos supports
  pub flags : length queued ≡ length network.attached
  pub seen : AreQueuedVisible network w queued
  pub satisfied : AreMet network store w queued

-- it has come further, and is still underway: no less is kept, and all rests on premises upstream, if
-- it did. If memory was refused, what is at hand was kept at some point
pub record IsFurther {A E : Type 0} (result : Result A E) (network : Network) (w : Premises)
    (old : Store) (supports : List Premises) (new : Store) (new_infos : List Info)
    (new_supports : List Premises) (queued : List Bool) : Type 0 where
  pub grows : KeepsMore network old new
  pub upstream : StayUpstream network old supports new new_supports
  pub underway : OnOk result (IsUnderway network new w new_infos new_supports queued)
  pub between : OnErr result (WereKept network old new w new_infos new_supports)
