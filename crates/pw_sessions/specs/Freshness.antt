-- When a user's next question is answered from the results of an earlier one, and how many
-- procedure calls it takes.
use Rattle.std.specs.Prelude.{◌≡◌, ◌≢◌, ◌⊎◌, ℕ, ◌+◌, ◌<◌, ◌≤◌, Bool, true, List, length, Option}
use Rattle.std.specs.Prelude.{None, Some}
use Rattle.std.specs.FinSet.{is_subset}
use Rattle.pw_info.specs.Information.{Implies}
use Rattle.pw_premises.specs.Premises.{Premises}
use Rattle.pw_facts.specs.Facts.{shows}
use Rattle.pw_cells.specs.Cells.{Store}
use Rattle.pw_decl.specs.Declaration.{Declared}
use Rattle.pw_network.specs.Network.{Network}
use Rattle.pw_settle.specs.Calls.{tally}
use Rattle.pw_settle.specs.Calls.{gains, visible_count}
use Rattle.pw_settle.specs.Due.{AreDue}
use Rattle.pw_settle.specs.Values.{value_in}
use Rattle.pw_sessions.specs.declared.command.Command.{Command}
use Rattle.pw_sessions.specs.declared.command.Command.TheVariants as commands
use Rattle.pw_sessions.specs.declared.reply.Refusal.TheVariants as refusal
use Rattle.pw_sessions.specs.Answer.{user_of}
use Rattle.pw_sessions.specs.Values.{IsWritten, visible_in}
use Rattle.pw_sessions.specs.Beliefs.{beliefs_at}
use Rattle.pw_sessions.specs.Entries.{entries_before}
use Rattle.pw_sessions.specs.Reply.{LineReading}
use Rattle.pw_sessions.specs.Reply.{Reply}
use Rattle.pw_sessions.specs.Reply as reply
use Rattle.pw_sessions.specs.Snapshot.{Snapshot, IsCurrent, snapshot_in, start_for}
use Rattle.pw_sessions.specs.Workbench.{Workbench, IsLeftBy, beliefs_in}
use Rattle.pw_settle.specs.Settled.{Settled, IsSettled}
use Rattle.pw_info.specs.declared.info.Info.{Info}

-- a user is fresh: there is a snapshot of the user's current beliefs, and its values are current
pub record IsFresh (workbench : Workbench) (user : ℕ) : Type 0 where
  pub exists : user < length workbench.beliefs
  pub snapshot : Snapshot
  pub has : snapshot_in workbench.snapshots (beliefs_in workbench user) ≡ Some snapshot
  pub current : IsCurrent workbench.network workbench.store snapshot.values

-- after lines with these readings, the command settles: it asks why or for conflicts, or for a cell
-- that a visible instance writes. What a choice settles is not kept, and is not counted
abbrev pub Settles : Declared → List LineReading → Command → Type 0
Settles d before (commands.Ask user cell) = IsWritten d
    (visible_in (entries_before before) (beliefs_at d user before)) cell
Settles d before (commands.Why user cell) = Unit {0}
Settles d before (commands.Conflicts user) = Unit {0}
Settles d before command = ⊥

-- the command attaches under premises that the user believes, or tells something that does not
-- follow under the user's beliefs
abbrev pub IsNewsToUser : Workbench → ℕ → Command → Type 0
IsNewsToUser workbench user (commands.Tell own cell fact) =
    Implies (value_in workbench.network workbench.store (beliefs_in workbench user) cell)
    (shows (beliefs_in workbench user) fact) → ⊥
IsNewsToUser workbench user (commands.Attach own callable cells support) =
    is_subset support (beliefs_in workbench user) ≡ true
IsNewsToUser workbench user command = ⊥

-- the line may end the freshness of the user: the user believes something else after it, or it is
-- the user's own and was refused, or it told or attached something that is news to the user
abbrev pub MayEndFreshness : Workbench → ℕ → Command → Workbench → Reply → Type 0
MayEndFreshness old user command new answer =
    (beliefs_in new user ≢ beliefs_in old user)
    ⊎ (((user_of command ≡ user) × (answer ≡ reply.Refused refusal.Memory))
    ⊎ ((answer ≡ reply.Done) × IsNewsToUser old user command))

-- after a question that settled, its user is fresh; and every user who was fresh is still fresh,
-- except after lines that may end it
pub record KeepsFresh (old : Workbench) (command : Command) (new : Workbench) (answer : Reply)
    : Type 0 where
  pub becomes : (d : Declared) (before : List LineReading) → IsLeftBy d before old →
      Settles d before command →
      (answer ≡ reply.Refused refusal.Memory) ⊎ IsFresh new (user_of command)
  pub stays : (user : ℕ) → IsFresh old user → MayEndFreshness old user command new answer
      ⊎ IsFresh new user

-- the number of procedure calls of a settling of the user: none if some user of the same beliefs was fresh
abbrev pub CallsNoneIfFresh : Workbench → ℕ → ℕ → Type 0
CallsNoneIfFresh old user calls =
    (other : ℕ) → IsFresh old other → beliefs_in old other ≡ beliefs_in old user → calls ≡ 0

-- procedures were called at least `first` times, and at most `gained` times more
pub record AreCalls (first gained calls : ℕ) : Type 0 where
  pub least : first ≤ calls
  pub most : calls ≤ first + gained

-- the number of procedure calls of a settling in the worldview that goes on from this snapshot, if
-- there is one: one for each instance that is due; or, if there is none, one for each visible
-- instance; and at most as many more as the kept information about cells gained, for each visible
-- reader
pub record CallsDue (network : Network) (old new : Store) (w : Premises) (start : Option Snapshot)
    (calls : ℕ) : Type 0 where
  pub anew : start ≡ None → AreCalls (visible_count network w) (gains network old new w) calls
  pub further : (snapshot : Snapshot) → start ≡ Some snapshot →
      (due : List Bool) × AreDue network old w snapshot.values due
      × AreCalls (tally due) (gains network old new w) calls

-- the same for a user, from one workbench to another
abbrev pub CallsDueFor : Workbench → ℕ → Workbench → Type 0
CallsDueFor old user new = CallsDue old.network old.store new.store (beliefs_in old user)
    (start_for old.snapshots (beliefs_in old user)) new.calls

-- a question was refused before it had settled, and no call is counted; or it settled, and this is
-- the number of its calls
abbrev pub CountsSettling : Workbench → ℕ → Workbench → Reply → Type 0
CountsSettling old user new answer =
    ((answer ≡ reply.Refused refusal.Memory) × (new.calls ≡ 0)) ⊎ CallsDueFor old user new

-- a question of the user was answered, which settles if this holds: then its user is fresh after
-- it, unless it was refused; and a user who was fresh still is
pub record IsAsked (old : Workbench) (user : ℕ) (Settling : Type 0) (new : Workbench)
    (answer : Reply) : Type 0 where
  pub becomes : Settling → (answer ≡ reply.Refused refusal.Memory) ⊎ IsFresh new user
  pub stays : IsFresh old user → IsFresh new user
  pub fresh : CallsNoneIfFresh old user new.calls
  pub due : Settling → CountsSettling old user new answer
  pub none : (Settling → ⊥) → new.calls ≡ 0

-- the same for the command; a command that does not settle makes no calls
pub record CountsCalls (old : Workbench) (command : Command) (new : Workbench) (answer : Reply)
    : Type 0 where
  pub fresh : CallsNoneIfFresh old (user_of command) new.calls
  pub due : (d : Declared) (before : List LineReading) → IsLeftBy d before old →
      Settles d before command →
      CountsSettling old (user_of command) new answer
  pub none : (d : Declared) (before : List LineReading) → IsLeftBy d before old →
      (Settles d before command → ⊥) → new.calls ≡ 0

-- the value of a cell under what the user believes
abbrev pub value_for : Workbench → ℕ → ℕ → Info
value_for workbench user cell = value_in workbench.network workbench.store
    (beliefs_in workbench user) cell

-- what is settled under what the user believes
abbrev pub IsSettledFor : Workbench → ℕ → Settled → Type 0
IsSettledFor workbench user settled =
    IsSettled workbench.network workbench.store (beliefs_in workbench user) settled
