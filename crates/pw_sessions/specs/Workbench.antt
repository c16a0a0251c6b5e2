-- The state between two lines: the network, the told and the kept information about each of its
-- cells, the premises that were found to contradict themselves, the current beliefs of each user, the
-- snapshots of what questions settled, and the number of procedure calls of the last command.
use Rattle.std.specs.Prelude.{◌≡◌, ℕ, ◌<◌, Bool, false, ◌&&◌, List, [], ◌∷◌, ◌++◌, All, fold}
use Rattle.std.specs.Prelude.{length, nat_eq, Some, slice_index_or}
use Rattle.std.specs.FinSet.{contains, empty}
use Rattle.std.specs.List.{list_any}
use Rattle.pw_premises.specs.Premises.{Premises}
use Rattle.pw_cells.specs.Cells.{Store, told_in}
use Rattle.pw_decl.specs.Declaration.{Declared}
use Rattle.pw_network.specs.Wiring.{name_in}
use Rattle.pw_network.specs.Network.{Network, bare, cells_in, with_attached}
use Rattle.pw_settle.specs.Fixpoint.{told_alone}
use Rattle.pw_settle.specs.Sound.{IsSoundFor}
use Rattle.pw_reasons.specs.Nogood.{AreNogoods}
use Rattle.pw_sessions.specs.declared.command.Command.{Command}
use Rattle.pw_sessions.specs.Reply.{Reply}
use Rattle.pw_sessions.specs.Answer.{reply_to}
use Rattle.pw_sessions.specs.Values.{sources_after, visible_in}
use Rattle.pw_sessions.specs.Beliefs.{beliefs_at}
use Rattle.pw_sessions.specs.CellNames.{named_cells}
use Rattle.pw_sessions.specs.Entries.{Entry, Told, Attached, FitsDeclared, entries_before}
use Rattle.pw_sessions.specs.Reply.{LineReading}
use Rattle.pw_sessions.specs.Snapshot.{AllRestUpstream, IsSnapshotOf, Snapshot}
use Rattle.pw_sessions.specs.Command.{MayBecome}

-- the state between two lines
pub record Workbench : Type 0 where
  pub network : Network
  -- the told facts, and the kept facts
  pub store : Store
  -- sets of premises that contradict themselves, for all users
  pub nogoods : List Premises
  -- the beliefs of each user, by number
  pub beliefs : List Premises
  -- what questions settled, by worldview, for all users; the latest made, or grown, first
  pub snapshots : List Snapshot
  -- the procedure calls made by the settling of the last command; none if it did not settle
  pub calls : ℕ

-- each snapshot fits the network and the store
abbrev pub SnapshotsFit : Network → Store → List Snapshot → Type 0
SnapshotsFit network store snapshots = All (IsSnapshotOf network store) snapshots

-- the current beliefs of the user
abbrev pub beliefs_in : Workbench → ℕ → Premises
beliefs_in workbench user = slice_index_or workbench.beliefs user empty

-- the network with what an entry attaches
abbrev pub with_entry : Network → Entry → Network
with_entry network (Told line cell fact) = network
with_entry network (Attached line callable cells support) =
    with_attached network line callable cells support

-- the network that entries make: the declared cells, and what the entries attach, in order
abbrev pub network_after : Declared → List Entry → Network
network_after d entries = fold with_entry (bare d) entries

-- the store was told what the entries tell: about each cell, in every worldview, what the entries
-- that are visible there tell about it by its name
abbrev pub WasTold : Declared → List Entry → Network → Store → Type 0
WasTold d entries network store =
    (cell : ℕ) (w : Premises) → cell < cells_in network →
    told_in store cell w ≡ told_alone (named_cells d entries)
    (sources_after d (visible_in entries w)) (name_in network cell)

-- a fact that an entry told about the cell rests on the premise
abbrev pub tells_on : ℕ → ℕ → Entry → Bool
tells_on cell premise (Told line at fact) = nat_eq at cell && contains fact.support premise
tells_on cell premise (Attached line callable cells support) = false

-- a fact that one of the entries told about the cell rests on the premise
abbrev pub is_told_on : List Entry → ℕ → ℕ → Bool
is_told_on entries cell premise = list_any (tells_on cell premise) entries

-- the store has the cells of the network and is sound; the noted sets contradict themselves; and each
-- snapshot fits
pub record StoreFits (workbench : Workbench) : Type 0 where
  pub sound : IsSoundFor workbench.network workbench.store
  pub nogoods : AreNogoods workbench.network workbench.store workbench.nogoods
  pub snapshots : SnapshotsFit workbench.network workbench.store workbench.snapshots

-- it is set up for the declaration: it has the declared cells, each user has beliefs, and the store
-- and the snapshots fit
pub record IsSetUpFor (d : Declared) (workbench : Workbench) : Type 0 where
  pub users : length workbench.beliefs ≡ length d.users
  pub declared : workbench.network.declared ≡ d
  pub fits : StoreFits workbench

-- it is what lines with these readings leave: the network is what their entries attach, the store
-- was told what they tell, and each user's beliefs are those that the user's own lines made
pub record IsLeftBy (d : Declared) (readings : List LineReading) (workbench : Workbench)
    : Type 0 where
  pub set_up : IsSetUpFor d workbench
  pub fit : All (FitsDeclared d) (entries_before readings)
  pub network : workbench.network ≡ network_after d (entries_before readings)
  pub told : WasTold d (entries_before readings) workbench.network workbench.store
  -- what is kept, and what snapshots say, rests only on premises of tells and attachments upstream
  pub upstream : AllRestUpstream workbench.network (is_told_on (entries_before readings))
      workbench.store workbench.snapshots
  pub beliefs : (user : ℕ) → user < length d.users → beliefs_in workbench user
      ≡ beliefs_at d user readings

-- after lines with these readings, the command was carried out: its line got a reading, this is the
-- reply that a line of this reading gets from scratch, and the new workbench is what the lines
-- leave with it
pub record IsCarriedOut (d : Declared) (before : List LineReading) (command : Command)
    (new : Workbench) (reply : Reply) : Type 0 where
  pub reading : LineReading
  pub became : MayBecome d before command reading
  pub left : IsLeftBy d (before ++ reading ∷ []) new
  pub replied : reply_to d before reading ≡ Some reply
