-- The laws of this crate that are longer than a line: each is the contract of a function in
-- `src/laws.rt`.
use Rattle.std.specs.Prelude.{◌≡◌, ◌↔◌, ◌⊎◌, ◌<◌, ℕ, List, [], Some, Bool, IsTrue, All, map, length}
use Rattle.pw_info.specs.declared.kind.Kind.{Kind as KindOfCell}
use Rattle.pw_procs.specs.Procedure.{Procedure}
use Rattle.pw_decl.specs.declared.step.Callable.{Callable}
use Rattle.pw_decl.specs.declared.decl_fault.DeclFaultKind.{DeclFaultKind as FaultKind}
use Rattle.pw_decl.specs.BuiltIn.{HasPrelude}
use Rattle.pw_decl.specs.Compound.{Compound, AreCompoundsAfter, size_of_callable, sizes_of}
use Rattle.pw_decl.specs.Expansion.{expansion_of, inner_kinds_of, renamed, at_place, on_places}
use Rattle.pw_decl.specs.Expansion.{SpeaksOf, FitsCells, IsOfInnerKinds, HasSize}
use Rattle.pw_decl.specs.Declaration.{Declared, Takes, SoFar, DeclarationSentence, IsSentenceAt}
use Rattle.pw_decl.specs.inside.Forms.{sentence_at}
use Rattle.pw_decl.specs.Faults.{HasAFault, LeadsOn, Declares, SpellsDeclaration, IsFirstFault}
use Rattle.pw_decl.specs.WellDeclared.{IsWellDeclared, IsWellSoFar}

-- words are one sentence at most, the one that the function gives
abbrev pub OneDeclarationSentence : Type 0
OneDeclarationSentence =
    (so_far : SoFar) (words : List (List ℕ)) (s : DeclarationSentence) →
    IsSentenceAt so_far words s ↔ (sentence_at so_far words ≡ Some s)

-- a text spells one declaration at most
abbrev pub OneDeclaration : Type 0
OneDeclaration =
    (ps : List Procedure) (text : List ℕ) (a b : Declared) → SpellsDeclaration ps text a →
    SpellsDeclaration ps text b → a ≡ b

-- a text has one first fault at most
abbrev pub OneFirstFault : Type 0
OneFirstFault =
    (ps : List Procedure) (text : List ℕ) (m n : ℕ) (why because : FaultKind) →
    IsFirstFault ps text m why → IsFirstFault ps text n because → (m ≡ n) × (why ≡ because)

-- a text that has a fault spells no declaration
abbrev pub FaultOrDeclaration : Type 0
FaultOrDeclaration =
    (ps : List Procedure) (text : List ℕ) (n : ℕ) (why : FaultKind) (d : Declared) →
    IsFirstFault ps text n why → SpellsDeclaration ps text d → ⊥

-- each line, after what was declared so far, has a fault or leads on
abbrev pub EveryLine : Type 0
EveryLine =
    (so_far : SoFar) (line : List ℕ) → IsWellSoFar so_far →
    HasAFault so_far line ⊎ LeadsOn so_far line

-- a line that declares keeps what holds of everything that is declared
abbrev pub WellDeclaredLine : Type 0
WellDeclaredLine =
    (so_far after : SoFar) (line : List ℕ) → IsWellSoFar so_far →
    Declares so_far line after → IsWellSoFar after

-- so it holds of what a text spells
abbrev pub WellDeclaredText : Type 0
WellDeclaredText =
    (ps : List Procedure) (text : List ℕ) (d : Declared) →
    SpellsDeclaration ps text d → IsWellDeclared d

-- and the compounds of what a text spells begin with those of the prelude
abbrev pub WellDeclaredPrelude : Type 0
WellDeclaredPrelude =
    (ps : List Procedure) (text : List ℕ) (d : Declared) →
    SpellsDeclaration ps text d → HasPrelude d

-- other names of cells change nothing but the names
abbrev pub ExpansionUnderOtherNames : Type 0 → Type 0 → Type 0
ExpansionUnderOtherNames C D =
    (name : C → D) (compounds : List Compound) (callable : Callable) (cells : List C)
    (inner : ℕ → C) (others : ℕ → D) →
    ((j : ℕ) → j < length (inner_kinds_of compounds callable) → others j ≡ name (inner j)) →
    expansion_of compounds callable (map name cells) others
    ≡ map (renamed name) (expansion_of compounds callable cells inner)

-- what a callable becomes on cells is what it becomes on places, with the cells in them
abbrev pub ExpansionOnPlaces : Type 0 → Type 0
ExpansionOnPlaces C =
    (compounds : List Compound) (callable : Callable) (cells : List C) (inner : ℕ → C) →
    expansion_of compounds callable cells inner ≡ map (renamed (at_place cells inner))
    (on_places (expansion_of compounds callable) (length cells))

-- instances read and write only the cells that the callable is on, and its inner cells
abbrev pub ExpansionStaysOnItsCells : Type 0 → Type 0
ExpansionStaysOnItsCells C =
    (here : C → Bool) (compounds : List Compound) (callable : Callable) (cells : List C)
    (inner : ℕ → C) → All (λ cell. IsTrue (here cell)) cells →
    ((j : ℕ) → j < length (inner_kinds_of compounds callable) → IsTrue (here (inner j))) →
    All (SpeaksOf (λ cell. IsTrue (here cell)))
    (expansion_of compounds callable cells inner)

-- the instances of a callable accept the kinds of their cells
abbrev pub ExpansionFits : Type 0 → Type 0
ExpansionFits C =
    (d : Declared) (kind : C → KindOfCell) (callable : Callable) (cells : List C)
    (inner : ℕ → C) → AreCompoundsAfter d.procedures [] d.compounds →
    Takes d callable (map kind cells) →
    IsOfInnerKinds kind inner (inner_kinds_of d.compounds callable) →
    All (FitsCells d.procedures kind) (expansion_of d.compounds callable cells inner)

-- there are as many instances and inner cells as the size of the callable says
abbrev pub ExpansionHasItsSize : Type 0 → Type 0
ExpansionHasItsSize C =
    (d : Declared) (kind : C → KindOfCell) (callable : Callable) (cells : List C)
    (inner : ℕ → C) → AreCompoundsAfter d.procedures [] d.compounds →
    Takes d callable (map kind cells) → HasSize (size_of_callable (sizes_of d.compounds) callable)
    (expansion_of d.compounds callable cells inner) (inner_kinds_of d.compounds callable)
