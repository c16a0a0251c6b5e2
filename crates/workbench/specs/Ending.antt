-- Why the program stops at an error of the command line, and what `check` reports of the text of a
-- declaration.
use Rattle.std.specs.Prelude.{ℕ, List, ◌≡◌, ◌≢◌}
use Rattle.pw_procs.specs.Procedure.{Procedure}
use Rattle.pw_decl.specs.Declaration.{Declared}
use Rattle.pw_decl.specs.Faults.{SpellsDeclaration, IsReported}
use Rattle.workbench.specs.declared.fault.Fault.{Fault}
use Rattle.clap.specs.Values.{kind_of}
use Rattle.clap.specs.declared.error.Error.{Error}
use Rattle.workbench.specs.declared.ending.Stop.{Stop}
use Rattle.workbench.specs.declared.fault.Fault.TheVariants as faults
use Rattle.clap.specs.declared.error.kind.ErrorKind.TheVariants as kind
use Rattle.workbench.specs.declared.ending.Stop.TheVariants as stop

-- over the procedures the text spells a declaration
abbrev pub IsDeclaration : List Procedure → List ℕ → Type 0
IsDeclaration procedures text = (d : Declared) × SpellsDeclaration procedures text d

-- a fault that is reported for the text: its own, or out of memory for the line about a declaration
-- without fault
abbrev pub IsToldOfText : List Procedure → List ℕ → Fault → Type 0
IsToldOfText procedures text (faults.Declaration fault) = IsReported procedures text fault
IsToldOfText procedures text faults.Memory = IsDeclaration procedures text
IsToldOfText procedures text _ = ⊥

-- neither help nor the version is asked for, so the command line is bad
abbrev pub IsMistake : Error → Type 0
IsMistake error = (kind_of error ≢ kind.DisplayHelp) × (kind_of error ≢ kind.DisplayVersion)

-- out of memory is a fault, and not a bad command line; any other error stays what it is
pub record IsStopAt (error : Error) (why : Stop) : Type 0 where
  pub memory : kind_of error ≡ kind.OutOfMemory → why ≡ stop.Fault faults.Memory
  pub other : kind_of error ≢ kind.OutOfMemory → why ≡ stop.CommandLine error
