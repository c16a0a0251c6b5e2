-- The conditions that the steps of a command put on a workbench, and their results.
use Rattle.std.specs.Prelude.{◌≡◌, ◌≢◌, ◌⊎◌, ℕ, ◌+◌, ◌<◌, ◌≤◌, Bool, true, ◌&&◌, List, ◌∷◌, ◌++◌, length}
use Rattle.std.specs.Prelude.{map, nat_eq, All, Contains, None, Option, Some, false, position}
use Rattle.std.specs.Prelude.{IfOk, OnErr, Result, remove, slice_index_or, slice_set}
use Rattle.std.specs.List.{list_any}
use Rattle.std.specs.FinSet.{is_subset}
use Rattle.pw_network.specs.Network.{Network}
use Rattle.pw_premises.specs.Premises.{Premises, most_premises}
use Rattle.pw_premises.specs.PremiseSubsets.{has_same_numbers}
use Rattle.pw_facts.specs.declared.fact.Fact.{Fact}
use Rattle.pw_cells.specs.Cells.{Store, kinds_of, new_cell}
use Rattle.pw_cells.specs.Arrivals.{Continues, Remembers}
use Rattle.pw_cells.specs.Changes.{AssimilatesAt, GainsKept, GainsTold, LeavesOthers}
use Rattle.pw_decl.specs.declared.step.Callable.{Callable}
use Rattle.pw_decl.specs.Declaration.{Declared}
use Rattle.pw_decl.specs.Expansion.{inner_kinds_of}
use Rattle.pw_network.specs.Network.{last_attachment_line}
use Rattle.pw_network.specs.Network.{Attached, with_attached}
use Rattle.pw_settle.specs.Calls.{gains, tally}
use Rattle.pw_settle.specs.Growth.{KeepsMore}
use Rattle.pw_settle.specs.Due.{AreDue}
use Rattle.pw_settle.specs.Sound.{LieUpstream, RestsUpstream}
use Rattle.pw_settle.specs.Values.{value_in}
use Rattle.pw_reasons.specs.Choice.{IsFirstConsistent}
use Rattle.pw_reasons.specs.Combinations.{worldview_of, worldviews_of}
use Rattle.pw_reasons.specs.Conflicts.{Conflicts, AreConflicts}
use Rattle.pw_reasons.specs.Nogood.{AreNogoods}
use Rattle.pw_reasons.specs.Reason.{reason_of}
use Rattle.pw_sessions.specs.declared.command.Command.{Command}
use Rattle.pw_sessions.specs.Reply.{Reply}
use Rattle.pw_sessions.specs.Reply as reply
use Rattle.pw_sessions.specs.declared.reply.Refusal.TheVariants as refusal
use Rattle.pw_sessions.specs.Reply.{LineReading, Says}
use Rattle.pw_sessions.specs.Command.{IsDeclared}
use Rattle.pw_sessions.specs.Snapshot.{EachBecomes, IsAfterTell, Snapshot, after_entry, snapshot_in}
use Rattle.pw_sessions.specs.Freshness.{AreCalls, CallsDueFor, CallsNoneIfFresh, IsFresh, IsSettledFor}
use Rattle.pw_sessions.specs.Snapshot.{AllRestUpstream, AreApart, IsCurrent, is_of}
use Rattle.pw_sessions.specs.Workbench.{Workbench, IsLeftBy, IsSetUpFor, IsCarriedOut, SnapshotsFit, StoreFits}
use Rattle.pw_sessions.specs.Workbench.{beliefs_in}
use Rattle.pw_settle.specs.Settled.{Settled}

-- the workbench can carry out the command: what it names is declared, and the line comes after
-- those of all attachments
pub record CanCarryOut (workbench : Workbench) (line : ℕ) (command : Command) : Type 0 where
  pub set_up : IsSetUpFor workbench.network.declared workbench
  pub declared : IsDeclared workbench.network.declared (Says command)
  pub next : workbench.network.last_line < line
  pub most : line ≤ last_attachment_line

-- for every declaration and all readings of the earlier lines, of which this is the next: the
-- command was carried out
abbrev pub CarriesOutNext : Workbench → ℕ → Command → Workbench → Reply → Type 0
CarriesOutNext old line command new reply =
    (d : Declared) (before : List LineReading) → IsLeftBy d before old → length before + 1 ≡ line →
    IsDeclared d (Says command)
    → IsCarriedOut d before command new reply

-- a question of this user can be answered: the store and the snapshots fit, and the user has beliefs
pub record CanAnswer (workbench : Workbench) (user : ℕ) : Type 0 where
  pub fits : StoreFits workbench
  pub exists : user < length workbench.beliefs

-- an instance that is visible in the worldview writes the cell
abbrev pub is_written : List Attached → ℕ → Premises → Bool
is_written attached cell worldview =
    list_any (λ (a : Attached). nat_eq a.instance.output cell
    && is_subset a.support worldview) attached

-- the store took a fact that was told about the cell
pub record TakesFact (cell : ℕ) (fact : Fact) (old new : Store) : Type 0 where
  pub told : GainsTold cell fact old new
  pub kept : GainsKept cell fact old new
  pub assimilates : AssimilatesAt cell fact old new
  pub others : LeavesOthers cell old new
  pub kinds : kinds_of new ≡ kinds_of old
  pub remembers : Remembers cell fact old new
  pub continues : Continues old new

-- a fact was told about the cell: the store took it, and each snapshot knows whether it is news
pub record IsTold (old : Workbench) (cell : ℕ) (fact : Fact) (new : Workbench) : Type 0 where
  pub network : new.network ≡ old.network
  pub store : TakesFact cell fact old.store new.store
  pub nogoods : new.nogoods ≡ old.nogoods
  pub beliefs : new.beliefs ≡ old.beliefs
  pub snapshots : EachBecomes (IsAfterTell cell fact) old.snapshots new.snapshots
  pub calls : new.calls ≡ old.calls

-- a callable was attached, and its inner cells added, about which nothing was told; and snapshots
-- know that it came
pub record IsAttached (old : Workbench) (line : ℕ) (callable : Callable) (cells : List ℕ)
    (support : Premises) (new : Workbench) : Type 0 where
  pub network : new.network ≡ with_attached old.network line callable cells support
  pub cells_are : new.store.cells ≡ old.store.cells
      ++ map new_cell (inner_kinds_of old.network.declared.compounds callable)
  pub arrivals : new.store.arrivals ≡ old.store.arrivals
  pub continues : Continues old.store new.store
  pub nogoods : new.nogoods ≡ old.nogoods
  pub beliefs : new.beliefs ≡ old.beliefs
  pub snapshots : new.snapshots ≡ map (after_entry support) old.snapshots

-- the same network, facts, nogoods, beliefs and snapshots; only the room for cells and the number of
-- procedure calls may differ
pub record IsAsBefore (old new : Workbench) : Type 0 where
  pub network : new.network ≡ old.network
  pub cells_are : new.store.cells ≡ old.store.cells
  pub arrivals : new.store.arrivals ≡ old.store.arrivals
  pub continues : Continues old.store new.store
  pub nogoods : new.nogoods ≡ old.nogoods
  pub beliefs : new.beliefs ≡ old.beliefs
  pub snapshots : new.snapshots ≡ old.snapshots

-- the same network, beliefs and told facts; more may be kept, other sets may be noted, which
-- contradict themselves as before, and there may be other snapshots, which fit; but the snapshots of
-- what other users believe stay
pub record OnlyKeepsMore (old : Workbench) (user : ℕ) (new : Workbench) : Type 0 where
  pub network : new.network ≡ old.network
  pub beliefs : new.beliefs ≡ old.beliefs
  pub others : (other : ℕ) → other < length old.beliefs →
      beliefs_in old other ≢ beliefs_in old user →
      snapshot_in new.snapshots (beliefs_in old other)
      ≡ snapshot_in old.snapshots (beliefs_in old other)
  pub snapshots : StoreFits old → SnapshotsFit old.network new.store new.snapshots
  pub nogoods : AreNogoods old.network old.store old.nogoods →
      AreNogoods old.network new.store new.nogoods
  pub grows : KeepsMore old.network old.store new.store
  pub upstream : (given : ℕ → ℕ → Bool) →
      AllRestUpstream old.network given old.store old.snapshots →
      AllRestUpstream old.network given new.store new.snapshots

-- if what was kept, and what the snapshots say, rested only on premises upstream, what is kept now
-- does
abbrev pub StaysUpstreamOf : Network → Store → List Snapshot → Store → Type 0
StaysUpstreamOf network old snapshots new =
    (given : ℕ → ℕ → Bool) → AllRestUpstream network given old snapshots →
    RestsUpstream network given new

-- and so do the settled values
abbrev pub RestOnUpstreamOf : Network → Store → List Snapshot → Settled → Type 0
RestOnUpstreamOf network old snapshots settled =
    (given : ℕ → ℕ → Bool) → AllRestUpstream network given old snapshots →
    LieUpstream network given settled.supports

-- one of the beliefs is exactly this worldview
abbrev pub is_believed : List Premises → Premises → Bool
is_believed beliefs w = list_any (has_same_numbers w) beliefs

-- the snapshot at this place is of a worldview that is none of these beliefs
abbrev pub CanBeSpared : List Premises → List Snapshot → ℕ → Type 0
CanBeSpared beliefs snapshots place =
    (place < length snapshots) × ((d : Snapshot) →
    is_believed beliefs (slice_index_or snapshots place d).values.worldview ≡ false)

-- each of these snapshots is one of the others
abbrev pub AreAmong : List Snapshot → List Snapshot → Type 0
AreAmong snapshots others =
    (snapshot : Snapshot) → Contains snapshots snapshot → Contains others snapshot

-- some snapshots were given up, but none of these beliefs; if no two were of the same worldview, no
-- two are
pub record OnlySpares (beliefs : List Premises) (old new : List Snapshot) : Type 0 where
  pub among : AreAmong new old
  pub stay : (w : Premises) → is_believed beliefs w ≡ true → snapshot_in new w ≡ snapshot_in old w
  pub apart : AreApart old → AreApart new

-- the snapshot at this place is the first one, and of the others some were given up, but none of
-- these beliefs; if no two were of the same worldview, no two are
pub record IsBroughtFirst (beliefs : List Premises) (place : ℕ) (old new : List Snapshot) : Type 0
  where
    pub left : List Snapshot
    pub first : (d : Snapshot) → new ≡ slice_index_or old place d ∷ left
    pub spares : OnlySpares beliefs (remove old place) left
    pub apart : AreApart old → AreApart new

-- these values are the latest snapshot, and current; of the earlier ones some were given up, but
-- none of another worldview that is one of these beliefs; if no two were of the same worldview, no
-- two are
pub record IsLatest (beliefs : List Premises) (old : List Snapshot) (values : Settled)
    (new : List Snapshot) : Type 0 where
  pub earlier : List Snapshot
  pub latest : new ≡ record { values = values; is_current = true } ∷ earlier
  pub among : AreAmong earlier old
  pub stay : (w : Premises) → is_believed beliefs w ≡ true → w ≢ values.worldview →
      snapshot_in earlier w ≡ snapshot_in old w
  pub apart : AreApart old → AreApart new

-- the same in a workbench, of which only the snapshots are other ones
pub record IsRemembered (old : Workbench) (values : Settled) (new : Workbench) : Type 0 where
  pub latest : IsLatest old.beliefs old.snapshots values new.snapshots
  pub rest : new ≡ record old { snapshots = new.snapshots }

-- the place of the snapshot of what the user believes, if there is one; of several, the first
abbrev pub place_in : Workbench → ℕ → Option ℕ
place_in workbench user = position (is_of (beliefs_in workbench user)) workbench.snapshots

-- the number of procedure calls of a settling that continued from earlier values in their worldview:
-- one for each instance that was due, and at most as many more as the kept information about cells
-- gained, for each visible reader
abbrev pub CallsDueAgain : Network → Store → Store → Settled → Settled → Type 0
CallsDueAgain network old new before values =
    (due : List Bool) × AreDue network old before.worldview before due
    × AreCalls (tally due) (gains network old new before.worldview) values.calls

-- a settling of the user was done: the snapshot at this place, which is the one of the user's beliefs,
-- has what settles under them, and is current; and the calls are those of this settling
pub record HasSettled (old : Workbench) (user place : ℕ) (new : Workbench) : Type 0 where
  pub values : Settled
  pub there : place < length new.snapshots
  pub has : (d : Snapshot) → slice_index_or new.snapshots place d
      ≡ record { values = values; is_current = true }
  pub found : snapshot_in new.snapshots (beliefs_in old user)
      ≡ Some (record { values = values; is_current = true })
  pub settled : IsSettledFor old user values
  pub current : IsCurrent new.network new.store values
  pub due : CallsDueFor old user new

-- a settling of the user ended, done or refused: what the user believes, the network and the nogoods
-- stay, and a user who was fresh still is
pub record IsAfterSettling (old : Workbench) (user : ℕ) (new : Workbench) : Type 0 where
  pub grows : OnlyKeepsMore old user new
  pub fresh : CallsNoneIfFresh old user new.calls
  pub stays : IsFresh old user → IsFresh new user
  pub same : new ≡ record old { store = new.store; snapshots = new.snapshots; calls = new.calls }

-- the user was settled, and the snapshot at the answered place has the values; or that was refused, and
-- no call counts
pub record SettlesFor {E : Type 0} (old : Workbench) (user : ℕ) (new : Workbench)
    (result : Result ℕ E) : Type 0 where
  pub settled : IfOk result (λ place. HasSettled old user place new)
  pub after : IsAfterSettling old user new
  pub refused : OnErr result (new.calls ≡ 0)

-- an ask of the cell by the user was answered: with what settles in the network under the user's
-- beliefs; or, if a visible instance writes the cell, with out of memory
abbrev pub AnswersAsk : Workbench → ℕ → ℕ → Reply → Type 0
AnswersAsk workbench user cell answer =
    (answer ≡ reply.Value (value_in workbench.network workbench.store (beliefs_in workbench user)
    cell))
    ⊎ ((answer ≡ reply.Refused refusal.Memory)
    × (is_written workbench.network.attached cell (beliefs_in workbench user) ≡ true))

-- a why of the cell by the user was answered: with what settles in the network under the user's
-- beliefs, and its reason; or with out of memory
abbrev pub AnswersWhy : Workbench → ℕ → ℕ → Reply → Type 0
AnswersWhy workbench user cell answer =
    (answer ≡ reply.Because (value_in workbench.network workbench.store (beliefs_in workbench user)
    cell)
    (reason_of (λ w. value_in workbench.network workbench.store w cell)
    (beliefs_in workbench user)))
    ⊎ (answer ≡ reply.Refused refusal.Memory)

-- a question for conflicts by the user was answered: with the conflicts of what settles in the
-- network under the user's beliefs; or with out of memory
abbrev pub AnswersConflicts : Workbench → ℕ → Reply → Type 0
AnswersConflicts workbench user answer =
    ((conflicts : Conflicts) × (answer ≡ reply.Listed conflicts)
    × AreConflicts workbench.network (value_in workbench.network workbench.store
    (beliefs_in workbench user)) conflicts)
    ⊎ (answer ≡ reply.Refused refusal.Memory)

-- after all lines that leave the workbench, the answer is that of `ask`
abbrev pub AnswersAskIfLeft : Workbench → ℕ → ℕ → Reply → Type 0
AnswersAskIfLeft workbench user cell answer =
    (d : Declared) (before : List LineReading) → IsLeftBy d before workbench →
    AnswersAsk workbench user cell answer

-- an instance that the user sees writes the cell
abbrev pub SeesWriter : Workbench → ℕ → ℕ → Type 0
SeesWriter workbench user cell = is_written workbench.network.attached cell
    (beliefs_in workbench user) ≡ true

-- the workbench where the user believes these premises
abbrev pub believing : Workbench → ℕ → Premises → Workbench
believing workbench user premises = record workbench {
  beliefs =
      slice_set workbench.beliefs user premises;
}

-- the groups are of premises that a set can contain
abbrev pub AreOfPremises : List (List ℕ) → Type 0
AreOfPremises groups = All (All (λ premise. premise < most_premises)) groups

-- these are the user's first premises of the groups under which nothing is contradictory
abbrev pub IsFirstChoice : Workbench → ℕ → List (List ℕ) → List ℕ → Type 0
IsFirstChoice workbench user groups taken =
    IsFirstConsistent workbench.network workbench.store (beliefs_in workbench user) groups taken

-- for the user something is contradictory under each combination of the groups
abbrev pub AllContradict : Workbench → ℕ → List (List ℕ) → Type 0
AllContradict workbench user groups =
    AreNogoods workbench.network workbench.store (worldviews_of (beliefs_in workbench user) groups)

-- a choice by the user among the groups was answered, once this was found: with the first premises
-- under which nothing is contradictory, which the user believes from then on in the place of all
-- others of the groups; with none, if something is contradictory under each combination; or with
-- out of memory
abbrev pub AnswersChoose : Workbench → ℕ → List (List ℕ) → Workbench → Workbench → Reply → Type 0
AnswersChoose old user groups found new answer =
    ((taken : List ℕ) × (answer ≡ reply.Chose (Some taken)) × IsFirstChoice old user groups taken
    × (new ≡ believing found user (worldview_of (beliefs_in old user) groups taken)))
    ⊎ (((answer ≡ reply.Chose None) × AllContradict old user groups × (new ≡ found))
    ⊎ ((answer ≡ reply.Refused refusal.Memory) × (new ≡ found)))

-- the user chose among the groups: more may be kept and noted, and all snapshots stay; and the
-- choice was answered
pub record IsChosen (old : Workbench) (user : ℕ) (groups : List (List ℕ)) (new : Workbench)
    (answer : Reply) : Type 0 where
  pub found : Workbench
  pub grows : OnlyKeepsMore old user found
  pub snapshots : found.snapshots ≡ old.snapshots
  pub calls : found.calls ≡ old.calls
  pub answers : AnswersChoose old user groups found new answer
