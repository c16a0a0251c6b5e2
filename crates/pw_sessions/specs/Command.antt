-- What a command names, and whether all of it is declared; and which commands may be refused when
-- memory runs out.
use Rattle.std.specs.Prelude.{◌≡◌, ◌<◌, All, length, ◌⊎◌, List}
use Rattle.pw_info.specs.Information.{kind_of}
use Rattle.pw_procs.specs.Registry.{cells_of}
use Rattle.pw_decl.specs.Compound.{kinds_at}
use Rattle.pw_reasons.specs.Combinations.{groups_of}
use Rattle.pw_decl.specs.Declaration.{Declared, Takes, kind_at}
use Rattle.pw_sessions.specs.declared.command.Command.{Command}
use Rattle.pw_sessions.specs.Answer.{user_of}
use Rattle.pw_sessions.specs.Values.{IsWritten, visible_in}
use Rattle.pw_sessions.specs.Reply.{LineReading, Says, Refused}
use Rattle.pw_sessions.specs.Beliefs.{beliefs_at}
use Rattle.pw_sessions.specs.Entries.{entries_before}
use Rattle.pw_sessions.specs.declared.command.Command.TheVariants as commands
use Rattle.pw_sessions.specs.declared.reply.Refusal.TheVariants as refusal

-- the cells that a command names are declared, the information that it tells is of the cell's kind,
-- the callable that it attaches takes the cells, and the premises that it chooses from are declared
abbrev pub NamesDeclared : Declared → Command → Type 0
NamesDeclared d (commands.Tell user cell fact) = (cell < length d.cells)
    × (kind_of fact.info ≡ kind_at d cell)
NamesDeclared d (commands.Attach user callable cells support) =
    All (λ cell. cell < length d.cells) (cells_of cells)
    × Takes d callable (kinds_at d.kinds (cells_of cells))
NamesDeclared d (commands.Ask user cell) = cell < length d.cells
NamesDeclared d (commands.Why user cell) = cell < length d.cells
NamesDeclared d (commands.Choose user groups) =
    All (All (λ premise. premise < length d.premises)) (groups_of groups)
NamesDeclared d command = Unit {0}

-- if the line says a command, its user and what it names are declared
abbrev pub IsDeclared : Declared → LineReading → Type 0
IsDeclared d (Says command) = (user_of command < length d.users) × NamesDeclared d command
IsDeclared d reading = Unit {0}

-- after lines with these readings, the command takes memory: it tells a fact, attaches a callable,
-- asks for a cell that a visible instance writes, asks why or for conflicts, or chooses. The other
-- commands never do
abbrev pub TakesMemory : Declared → List LineReading → Command → Type 0
TakesMemory d before (commands.Tell user cell fact) = Unit {0}
TakesMemory d before (commands.Attach user callable cells support) = Unit {0}
TakesMemory d before (commands.Ask user cell) =
    IsWritten d (visible_in (entries_before before) (beliefs_at d user before)) cell
TakesMemory d before (commands.Why user cell) = Unit {0}
TakesMemory d before (commands.Conflicts user) = Unit {0}
TakesMemory d before (commands.Choose user groups) = Unit {0}
TakesMemory d before command = ⊥

-- the reading of a line that says the command, after lines with these readings: it says the
-- command; or it is refused because memory ran out
abbrev pub MayBecome : Declared → List LineReading → Command → LineReading → Type 0
MayBecome d before command reading =
    (reading ≡ Says command) ⊎ ((reading ≡ Refused refusal.Memory) × TakesMemory d before command)
