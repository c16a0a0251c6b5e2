-- What a text spells over the standard procedures, and what comes of a task over it.
use Rattle.std.proofs.Common.{◌≡◌, ℕ, List, sym, ◌∙◌, subst, inl, inr}
use Rattle.pw_info.specs.Lines.{lines_of}
use Rattle.pw_procs.specs.Procedure.{Procedure}
use Rattle.pw_decl.specs.BuiltIn.{HasPrelude}
use Rattle.pw_decl.specs.Declaration.{Declared, BeforeHeader, Outside, nothing_declared}
use Rattle.pw_decl.specs.Faults.{SpellsDeclaration, IsReported}
use Rattle.pw_decl.specs.Prelude.{prelude_text}
use Rattle.pw_decl.specs.declared.decl_fault.DeclFault.{DeclFault}
use Rattle.pw_decl.proofs.CompoundsKept.{lines_add}
use Rattle.pw_standard.specs.Lending.{IsOverText, IsFaultOverStandard}
use Rattle.pw_standard.specs.Procedures.{AreStandard}

module _ (procedures : List Procedure) (text : List ℕ) (d : Declared) (standard : AreStandard procedures) (spells : SpellsDeclaration procedures text d) where
  -- the procedures of a declaration are those over which its text was read
  same_procedures : procedures ≡ d.procedures
  same_procedures =
      let added = lines_add (BeforeHeader spells.known) (lines_of text) (Outside d) spells.leads in
      let first = lines_add (Outside (nothing_declared procedures)) (lines_of prelude_text) (Outside spells.known) spells.prelude in
      sym (added.procedures ∙ first.procedures)

  pub standard_in : AreStandard d.procedures
  standard_in = subst AreStandard same_procedures standard

  -- an answer over the declaration is one over the text
  pub over_declaration : {Answer : Type 0} (promise : Declared → Answer → Type 0) (answer : Answer) → HasPrelude d → promise d answer → IsOverText promise text answer
  over_declaration promise answer prelude kept =
      record {
        declared = d;
        standard = standard_in;
        spells = subst (λ (list : List Procedure). SpellsDeclaration list text d) same_procedures spells;
        prelude = prelude;
        kept = kept;
      }

-- a fault that is reported over standard procedures
pub reported : (procedures : List Procedure) (text : List ℕ) (fault : DeclFault) → AreStandard procedures → IsReported procedures text fault → IsFaultOverStandard text fault
reported procedures text fault standard (inl memory) = inl memory
reported procedures text fault standard (inr first) = inr (procedures, standard, first)
