-- A workbench of which the calls of the last command are forgotten.
use Rattle.std.proofs.Common.{ℕ, List, refl}
use Rattle.pw_decl.specs.Declaration.{Declared}
use Rattle.pw_network.specs.Network.{IsWellNetwork}
use Rattle.pw_sessions.specs.declared.command.Command.{Command}
use Rattle.pw_sessions.specs.Answer.{user_of}
use Rattle.pw_sessions.specs.Carrying.{CanBeCarriedOut, ShowsNoChange}
use Rattle.pw_sessions.specs.Freshness.{CountsCalls, IsFresh, KeepsFresh}
use Rattle.pw_sessions.specs.Reply.{LineReading}
use Rattle.pw_sessions.specs.Reply.{Reply}
use Rattle.pw_sessions.specs.Workbench.{IsLeftBy, Workbench}
use Rattle.pw_sessions.proofs.AskedCells.{well_left}
use Rattle.pw_sessions.proofs.WorkbenchLemmas.{left_as_before}

abbrev pub uncounted : Workbench → Workbench
uncounted bench = record bench { calls = 0 }

-- it is what the same lines left
pub left_uncounted : (d : Declared) (before : List LineReading) (bench : Workbench) → IsWellNetwork bench.network → IsLeftBy d before bench →
    IsLeftBy d before (uncounted bench)
left_uncounted d before bench network left =
    left_as_before d (well_left d before bench network left).kinds before bench (uncounted bench)
    (record {
      network = refl;
      cells_are = refl;
      arrivals = refl;
      continues = λ mark w count known was. was;
      nogoods = refl;
      beliefs = refl;
      snapshots = refl;
    }) left

pub can_uncounted : (bench : Workbench) → IsWellNetwork bench.network → (line : ℕ) (command : Command) → CanBeCarriedOut bench line command →
    CanBeCarriedOut (uncounted bench) line command
can_uncounted bench network line command can = record {
  declared = can.declared;
  before = can.before;
  left = left_uncounted can.declared can.before bench network can.left;
  next = can.next;
  most = can.most;
  names = can.names;
}

-- a fresh user is fresh without the count too
fresh_uncounted : (bench : Workbench) (user : ℕ) → IsFresh bench user → IsFresh (uncounted bench) user
fresh_uncounted bench user is = record { exists = is.exists; snapshot = is.snapshot; has = is.has; current = is.current }

pub fresh_from_uncounted : (bench : Workbench) → IsWellNetwork bench.network → (command : Command) (new : Workbench) (answer : Reply) →
    KeepsFresh (uncounted bench) command new answer → KeepsFresh bench command new answer
fresh_from_uncounted bench network command new answer keeps = record {
  becomes = λ d before left. keeps.becomes d before (left_uncounted d before bench network left);
  stays = λ user is. keeps.stays user (fresh_uncounted bench user is);
}

pub counts_from_uncounted : (bench : Workbench) → IsWellNetwork bench.network → (command : Command) (new : Workbench) (answer : Reply) →
    CountsCalls (uncounted bench) command new answer → CountsCalls bench command new answer
counts_from_uncounted bench network command new answer counts = record {
  fresh = λ other is. counts.fresh other (fresh_uncounted bench other is);
  due = λ d before left. counts.due d before (left_uncounted d before bench network left);
  none = λ d before left. counts.none d before (left_uncounted d before bench network left);
}

pub unchanged_from_uncounted : (bench : Workbench) → IsWellNetwork bench.network → (new : Workbench) → ShowsNoChange (uncounted bench) new →
    ShowsNoChange bench new
unchanged_from_uncounted bench network new still = record {
  network = still.network;
  told = still.told;
  beliefs = still.beliefs;
  left = λ d before left. still.left d before (left_uncounted d before bench network left);
}
