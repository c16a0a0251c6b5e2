-- What a task answers to which the standard procedures are lent, or a declaration over them; and the
-- fault of a text that is no declaration over them.
use Rattle.std.specs.Prelude.{◌≡◌, ◌⊎◌, ℕ, List, Result, MatchResult}
use Rattle.pw_procs.specs.Procedure.{Procedure}
use Rattle.pw_decl.specs.BuiltIn.{HasPrelude}
use Rattle.pw_decl.specs.Declaration.{Declared}
use Rattle.pw_decl.specs.Faults.{SpellsDeclaration, IsFirstFault}
use Rattle.pw_decl.specs.declared.decl_fault.DeclFault.{DeclFault}
use Rattle.pw_decl.specs.declared.decl_fault.DeclFaultKind.TheVariants.{Memory}
use Rattle.pw_standard.specs.Procedures.{AreStandard}

-- over some standard procedures, the answer is as promised
pub record IsOverStandard {Answer : Type 0} (promise : List Procedure → Answer → Type 0)
    (answer : Answer) : Type 0 where
  pub procedures : List Procedure
  pub standard : AreStandard procedures
  pub kept : promise procedures answer

-- over some standard procedures the text spells a declaration, and over that the answer is as
-- promised
pub record IsOverText {Answer : Type 0} (promise : Declared → Answer → Type 0) (text : List ℕ)
    (answer : Answer) : Type 0 where
  pub declared : Declared
  pub standard : AreStandard declared.procedures
  pub spells : SpellsDeclaration declared.procedures text declared
  pub prelude : HasPrelude declared
  pub kept : promise declared answer

-- the fault is the first of the text over some standard procedures, or out of memory
abbrev pub IsFaultOverStandard : List ℕ → DeclFault → Type 0
IsFaultOverStandard text fault =
    (fault.why ≡ Memory)
    ⊎ ((procedures : List Procedure) × AreStandard procedures
    × IsFirstFault procedures text fault.line fault.why)

-- the text was read over some standard procedures: it spells a declaration, over which the answer is
-- as promised, or it has this fault
abbrev pub IsReadOver : {Answer : Type 0} → (Declared → Answer → Type 0) → List ℕ →
    Result Answer DeclFault → Type 0
IsReadOver promise text read =
    MatchResult read (IsOverText promise text) (IsFaultOverStandard text)
