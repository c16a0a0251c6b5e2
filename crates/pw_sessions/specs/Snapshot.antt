-- What questions settled, by worldview, and when it is still the current result.
use Rattle.std.specs.Prelude.{refl, ◌≡◌, ◌⊎◌, ℕ, ◌<◌, ◌≤◌, Bool, true, false, ◌&&◌, not, List, All}
use Rattle.std.specs.Prelude.{length, Option, find, slice_index_or}
use Rattle.std.specs.Option.{option_or}
use Rattle.std.specs.FinSet.{is_subset}
use Rattle.pw_info.specs.declared.kind.Kind.{Kind}
use Rattle.pw_info.specs.Information.{Implies, kind_of}
use Rattle.pw_premises.specs.Premises.{Premises}
use Rattle.pw_premises.specs.PremiseSubsets.{has_same_numbers}
use Rattle.pw_facts.specs.declared.fact.Fact.{Fact}
use Rattle.pw_facts.specs.Facts.{shows}
use Rattle.pw_cells.specs.Cells.{Store, kept_in}
use Rattle.pw_network.specs.Network.{Network}
use Rattle.pw_settle.specs.Calls.{visible_at}
use Rattle.pw_settle.specs.Growth.{CanContinue, IsFitting, said_of}
use Rattle.pw_settle.specs.Sound.{LieUpstream, RestsUpstream}
use Rattle.pw_settle.specs.Settled.{Settled, info_at}
use Rattle.pw_settle.specs.Values.{value_in}
use Rattle.std.specs.Coded.{Coded, code_by, coded×, coded_bool}

-- the values of one worldview, and whether they are known to be current
pub record Snapshot : Type 0 where
  pub values : Settled
  pub is_current : Bool

-- for each cell, the information kept in the worldview is the one that follows there
abbrev pub KeepsValues : Network → Store → Premises → Type 0
KeepsValues network store w = (cell : ℕ) → kept_in store cell w ≡ value_in network store w cell

-- settled values are current: they fit; no instance came since that is visible in their worldview;
-- and at each cell they say what follows there now, and this is kept
pub record IsCurrent (network : Network) (store : Store) (settled : Settled) : Type 0 where
  pub fits : IsFitting network store settled
  pub none_newer : (number : ℕ) → settled.instances ≤ number →
      visible_at network settled.worldview number ≡ false
  pub said : (cell : ℕ) → said_of network settled cell
      ≡ value_in network store settled.worldview cell
  pub kept : KeepsValues network store settled.worldview

-- a snapshot fits a network and a store: its values do, and a settling can continue from them; each
-- declared cell has a value; and they are current if that is known
pub record IsSnapshotOf (network : Network) (store : Store) (snapshot : Snapshot) : Type 0 where
  pub fits : IsFitting network store snapshot.values
  pub continues : CanContinue store snapshot.values
  pub declared : length network.declared.cells ≤ length snapshot.values.infos
  pub current : snapshot.is_current ≡ true → IsCurrent network store snapshot.values

-- the kept facts and the values of the snapshots rest only on premises upstream
pub record AllRestUpstream (network : Network) (given : ℕ → ℕ → Bool) (store : Store)
    (list : List Snapshot) : Type 0 where
  pub kept : RestsUpstream network given store
  pub snapshots : All (λ snapshot. LieUpstream network given snapshot.values.supports) list

-- the snapshot after something was attached under these premises: if that is visible in the
-- worldview of its values, they are no longer known to be current
abbrev pub after_entry : Premises → Snapshot → Snapshot
after_entry support snapshot = record {
  values = snapshot.values;
  is_current = snapshot.is_current && not (is_subset support snapshot.values.worldview);
}

-- the values already say what a fact shows about the cell in their worldview: nothing, if it is not
-- visible there
abbrev pub SayAlready : ℕ → Fact → Settled → Type 0
SayAlready cell fact values = Implies (info_at values.infos cell) (shows values.worldview fact)

-- the snapshot after a fact was told about the cell: its values are unchanged. If they already say
-- what the fact shows, they are known to be current as before; if they do not, they are no longer
-- known to be current
pub record IsAfterTell (cell : ℕ) (fact : Fact) (old new : Snapshot) : Type 0 where
  pub values : new.values ≡ old.values
  pub current : (SayAlready cell fact old.values × (new.is_current ≡ old.is_current))
      ⊎ ((SayAlready cell fact old.values → ⊥) × (new.is_current ≡ false))

-- each snapshot has a value of the cell, which is of this kind
abbrev pub HaveValues : ℕ → Kind → List Snapshot → Type 0
HaveValues cell kind snapshots =
    All (λ snapshot. (cell < length snapshot.values.infos)
    × (kind_of (info_at snapshot.values.infos cell) ≡ kind)) snapshots

-- each snapshot came from the one at its place
pub record EachBecomes (From : Snapshot → Snapshot → Type 0) (old new : List Snapshot) : Type 0
  where
    pub many : length new ≡ length old
    pub each : (place : ℕ) (d : Snapshot) → place < length old →
        From (slice_index_or old place d) (slice_index_or new place d)

-- no two of the snapshots are of the same worldview
abbrev pub AreApart : List Snapshot → Type 0
AreApart snapshots =
    (one other : ℕ) (d : Snapshot) → one < length snapshots → other < length snapshots →
    (slice_index_or snapshots one d).values.worldview
    ≡ (slice_index_or snapshots other d).values.worldview → one ≡ other

-- ---- which snapshot is used; they are listed in the order in which they were made, or have grown,
-- the latest first

-- the snapshot has the values of exactly this worldview
abbrev pub is_of : Premises → Snapshot → Bool
is_of w snapshot = has_same_numbers snapshot.values.worldview w

-- it has the values of a worldview within this one
abbrev pub is_within : Premises → Snapshot → Bool
is_within w snapshot = is_subset snapshot.values.worldview w

-- the snapshot of this worldview, if there is one; of several, the first
abbrev pub snapshot_in : List Snapshot → Premises → Option Snapshot
snapshot_in snapshots w = find (is_of w) snapshots

-- the snapshot from which a settling in this worldview goes on: the one of the same worldview, or
-- else the first within it
abbrev pub start_for : List Snapshot → Premises → Option Snapshot
start_for snapshots w = option_or (snapshot_in snapshots w) (find (is_within w) snapshots)

-- it is stored as its values and the flag
abbrev pub snapshot_code : Coded Settled → Coded Snapshot
snapshot_code settled =
    code_by _ (coded× settled coded_bool) (λ s. (s.values, s.is_current)) (λ p.
    record { values = p.0; is_current = p.1 }) (λ _. refl)
