-- The entries of the network: what accepted lines added to it.
use Rattle.std.specs.Prelude.{◌≡◌, ℕ, ◌+◌, ◌<◌, List, [], ◌∷◌, ◌++◌, All, length}
use Rattle.pw_info.specs.Information.{kind_of}
use Rattle.pw_premises.specs.Premises.{Premises}
use Rattle.pw_procs.specs.Registry.{cells_of}
use Rattle.pw_facts.specs.declared.fact.Fact.{Fact}
use Rattle.pw_decl.specs.declared.step.Callable.{Callable}
use Rattle.pw_decl.specs.Compound.{kinds_at}
use Rattle.pw_decl.specs.Declaration.{Declared, Takes, kind_at}
use Rattle.pw_sessions.specs.declared.command.Command.TheVariants as commands
use Rattle.pw_sessions.specs.Reply.{LineReading, Says}

-- what an accepted line added to the network: a fact told about a cell; or a callable attached to
-- cells under premises. Each has the number of its line
pub data Entry : Type 0 where
  Told : (line cell : ℕ) (fact : Fact) → Entry
  Attached : (line : ℕ) (callable : Callable) (cells : List ℕ) (support : Premises) → Entry

-- the premises that it rests on
abbrev pub support_of : Entry → Premises
support_of (Told line cell fact) = fact.support
support_of (Attached line callable cells support) = support

-- the line that added it
abbrev pub line_of : Entry → ℕ
line_of (Told line cell fact) = line
line_of (Attached line callable cells support) = line

-- what a line with this number adds
abbrev pub entries_of : ℕ → LineReading → List Entry
entries_of number (Says (commands.Tell user cell fact)) = Told number cell fact ∷ []
entries_of number (Says (commands.Attach user callable cells support)) =
    Attached number callable (cells_of cells) support ∷ []
entries_of number reading = []

-- the entries of lines, of which the first has this number
abbrev pub entries_from : ℕ → List LineReading → List Entry
entries_from number [] = []
entries_from number (reading ∷ readings) = entries_of number reading
    ++ entries_from (number + 1) readings

-- the entries of the lines of a transcript so far
abbrev pub entries_before : List LineReading → List Entry
entries_before readings = entries_from 1 readings

-- ---- properties of entries

-- the entry fits what is declared: a fact is of the kind of its cell; a callable takes its cells;
-- the cells are declared
abbrev pub FitsDeclared : Declared → Entry → Type 0
FitsDeclared d (Told line cell fact) = (cell < length d.cells)
    × (kind_of fact.info ≡ kind_at d cell)
FitsDeclared d (Attached line callable cells support) =
    All (λ cell. cell < length d.cells) cells × Takes d callable (kinds_at d.kinds cells)

-- the lines of entries rise, from above this one
abbrev pub RiseFrom : ℕ → List Entry → Type 0
RiseFrom line [] = Unit {0}
RiseFrom line (entry ∷ entries) = (line < line_of entry) × RiseFrom (line_of entry) entries
