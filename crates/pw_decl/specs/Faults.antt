-- The texts that spell a declaration, and the first fault of those that do not.
use Rattle.std.specs.Prelude.{◌≡◌, ℕ, ◌+◌, ◌<◌, ◌≤◌, Bool, true, false, List, [], ◌∷◌, ◌++◌, length}
use Rattle.std.specs.Prelude.{Some, None, is_some, IsSome, ◌⊎◌, Result, MatchResult, IsErrAnd}
use Rattle.std.specs.List.{list_all, IsDistinct}
use Rattle.std.specs.Str.{bytes_eq}
use Rattle.pw_info.specs.declared.kind.Kind.{Kind}
use Rattle.pw_kinds.specs.Places.{fewest_members}
use Rattle.pw_procs.specs.Registering.{place_of_name}
use Rattle.pw_decl.specs.declared.decl_fault.DeclFault.{DeclFault}
use Rattle.pw_decl.specs.declared.declaration.Declaration.{Declaration}
use Rattle.pw_decl.specs.inside.Fields.{declared}
use Rattle.pw_decl.specs.declared.decl_fault.DeclFaultKind.{DeclFaultKind}
use Rattle.pw_decl.specs.declared.decl_fault.DeclFaultKind.TheVariants.{Syntax, DuplicateName}
use Rattle.pw_decl.specs.declared.decl_fault.DeclFaultKind.TheVariants.{UnknownName, WrongArguments}
use Rattle.pw_decl.specs.declared.decl_fault.DeclFaultKind.TheVariants.{Limit, MissingEnd, Memory}
use Rattle.pw_info.specs.Words.{words_of, is_idle, is_allowed}
use Rattle.pw_info.specs.Lines.{lines_of}
use Rattle.pw_info.specs.Lines.{IsFirstIn, HoldsOfNone}
use Rattle.pw_procs.specs.Procedure.{Procedure}
use Rattle.pw_decl.specs.declared.step.Callable.{Callable}
use Rattle.pw_decl.specs.Compound.{kinds_at, cell_kinds, Size, sum_of_sizes, size_of_local}
use Rattle.pw_decl.specs.Compound.{size_of_callable, size_of_steps, sizes_of, IsTooLarge}
use Rattle.pw_decl.specs.Prelude.{prelude_compounds, prelude_text}
use Rattle.pw_decl.specs.Declaration.{Declared, nothing_declared, OpenCompound, SoFar, BeforeHeader}
use Rattle.pw_decl.specs.Declaration.{Outside, Inside, DeclarationSentence, User, Premise}
use Rattle.pw_decl.specs.Declaration.{PremiseOf, Set, Cell, Begin, Local, Call, IsSentenceAt}
use Rattle.pw_decl.specs.Declaration.{parameter_names, parameter_kinds, kind_names, NamesKind}
use Rattle.pw_decl.specs.Declaration.{NameKinds, callable_named, Takes, places_of, Makes}
use Rattle.pw_decl.specs.Limits.{most_users, most_cells, most_sets, most_compounds, most_parameters}
use Rattle.pw_decl.specs.Limits.{most_line_bytes, most_text_bytes}
use Rattle.pw_decl.specs.Versions.{most_premises_under, most_members_under}

-- at its place, the line says the sentence
pub record SaysInPlace (so_far : SoFar) (line : List ℕ) (sentence : DeclarationSentence)
    : Type 0 where
  pub spoken : is_idle line ≡ false
  pub allowed : list_all is_allowed line ≡ true
  pub words : IsSentenceAt so_far (words_of line) sentence

-- the new name exists in its name space already, or a member or a parameter is named twice
abbrev pub HasDuplicate : SoFar → DeclarationSentence → Type 0
HasDuplicate (Outside d) (User name) = IsSome (place_of_name d.users name)
HasDuplicate (Outside d) (Premise name) = IsSome (place_of_name d.premises name)
HasDuplicate (Outside d) (PremiseOf name user) = IsSome (place_of_name d.premises name)
HasDuplicate (Outside d) (Set name members) = IsSome (place_of_name (kind_names d) name)
    ⊎ (IsDistinct bytes_eq members → ⊥)
HasDuplicate (Outside d) (Cell name kind) = IsSome (place_of_name d.cells name)
HasDuplicate (Outside d) (Begin name parameters) =
    IsSome (callable_named d name) ⊎ (IsDistinct bytes_eq (parameter_names parameters) → ⊥)
HasDuplicate (Inside d opened) (Local name kind) = IsSome (place_of_name opened.names name)
HasDuplicate so_far sentence = ⊥

-- the word names a cell of the open compound
abbrev pub is_cell_of : OpenCompound → List ℕ → Bool
is_cell_of opened word = is_some (place_of_name opened.names word)

-- the user, the kind, the callable, or the cell of the compound does not exist
abbrev pub HasUnknown : SoFar → DeclarationSentence → Type 0
HasUnknown (Outside d) (PremiseOf name user) = place_of_name d.users user ≡ None
HasUnknown (Outside d) (Cell name word) = (kind : Kind) → NamesKind d word kind → ⊥
HasUnknown (Outside d) (Begin name parameters) = (kinds : List Kind) →
    NameKinds d (parameter_kinds parameters) kinds → ⊥
HasUnknown (Inside d opened) (Local name word) = (kind : Kind) → NamesKind d word kind → ⊥
HasUnknown (Inside d opened) (Call word arguments) =
    (callable_named d word ≡ None) ⊎ (list_all (is_cell_of opened) arguments ≡ false)
HasUnknown so_far sentence = ⊥

-- a set has too few members, a compound has no parameter, or a callable does not accept the cells
-- of a call
abbrev pub HasWrongArguments : SoFar → DeclarationSentence → Type 0
HasWrongArguments (Outside d) (Set name members) = length members < fewest_members
HasWrongArguments (Outside d) (Begin name parameters) = parameters ≡ []
HasWrongArguments (Inside d opened) (Call word arguments) =
    (callable : Callable) × (callable_named d word ≡ Some callable)
    × (Takes d callable (kinds_at (cell_kinds opened.compound) (places_of opened arguments)) → ⊥)
HasWrongArguments so_far sentence = ⊥

-- with this line, the expansion of the open compound is too large
abbrev pub OutgrowsWith : Declared → OpenCompound → Size → Type 0
OutgrowsWith d opened size = IsTooLarge (sum_of_sizes
    (size_of_steps (sizes_of d.compounds) opened.compound.steps) size)

-- there are already as many users, premises, sets, cells or compounds as the version allows, the set
-- has too many members or the compound too many parameters, or the compound expands to too many
-- instances or inner cells
abbrev pub IsOneTooMany : SoFar → DeclarationSentence → Type 0
IsOneTooMany (Outside d) (User name) = most_users ≤ length d.users
IsOneTooMany (Outside d) (Premise name) = most_premises_under d.version ≤ length d.premises
IsOneTooMany (Outside d) (PremiseOf name user) = most_premises_under d.version ≤ length d.premises
IsOneTooMany (Outside d) (Set name members) = (most_sets ≤ length d.sets)
    ⊎ (most_members_under d.version < length members)
IsOneTooMany (Outside d) (Cell name kind) = most_cells ≤ length d.cells
IsOneTooMany (Outside d) (Begin name parameters) =
    (prelude_compounds + most_compounds ≤ length d.compounds)
    ⊎ (most_parameters < length (parameter_names parameters))
IsOneTooMany (Inside d opened) (Local name word) = OutgrowsWith d opened size_of_local
IsOneTooMany (Inside d opened) (Call word arguments) =
    (callable : Callable) × (callable_named d word ≡ Some callable)
    × OutgrowsWith d opened (size_of_callable (sizes_of d.compounds) callable)
IsOneTooMany so_far sentence = ⊥

-- the faults that a line can have
pub data LineFault : Type 0 where
  TooLong : LineFault
  BadSyntax : LineFault
  Duplicate : LineFault
  Unknown : LineFault
  Wrong : LineFault
  TooMany : LineFault

-- the faults, in the order in which they are reported
abbrev pub line_faults : List LineFault
line_faults = TooLong ∷ BadSyntax ∷ Duplicate ∷ Unknown ∷ Wrong ∷ TooMany ∷ []

abbrev pub kind_of_fault : LineFault → DeclFaultKind
kind_of_fault TooLong = Limit
kind_of_fault BadSyntax = Syntax
kind_of_fault Duplicate = DuplicateName
kind_of_fault Unknown = UnknownName
kind_of_fault Wrong = WrongArguments
kind_of_fault TooMany = Limit

-- the line, after what was declared so far, has the fault, no matter what else is wrong with it
abbrev pub FaultApplies : SoFar → List ℕ → LineFault → Type 0
FaultApplies so_far line TooLong = most_line_bytes < length line
FaultApplies so_far line BadSyntax = (is_idle line ≡ false)
    × ((sentence : DeclarationSentence) → SaysInPlace so_far line sentence → ⊥)
FaultApplies so_far line Duplicate = (sentence : DeclarationSentence)
    × SaysInPlace so_far line sentence × HasDuplicate so_far sentence
FaultApplies so_far line Unknown = (sentence : DeclarationSentence)
    × SaysInPlace so_far line sentence × HasUnknown so_far sentence
FaultApplies so_far line Wrong = (sentence : DeclarationSentence) × SaysInPlace so_far line sentence
    × HasWrongArguments so_far sentence
FaultApplies so_far line TooMany = (sentence : DeclarationSentence)
    × SaysInPlace so_far line sentence × IsOneTooMany so_far sentence

-- the line, after what was declared so far, has no fault
abbrev pub HasNoFault : SoFar → List ℕ → Type 0
HasNoFault so_far line = HoldsOfNone (FaultApplies so_far line) line_faults

-- this is the line's fault: the first of those that it has
abbrev pub IsFirstFaultOf : SoFar → List ℕ → LineFault → Type 0
IsFirstFaultOf so_far line fault = IsFirstIn (FaultApplies so_far line) line_faults fault

-- the line has no fault, and leads to this: an idle line leaves what was declared so far unchanged
abbrev pub Declares : SoFar → List ℕ → SoFar → Type 0
Declares so_far line after =
    HasNoFault so_far line
    × (((is_idle line ≡ true) × (after ≡ so_far))
    ⊎ ((sentence : DeclarationSentence) × SaysInPlace so_far line sentence
    × Makes so_far sentence after))

-- the line has a fault
abbrev pub HasAFault : SoFar → List ℕ → Type 0
HasAFault so_far line = (fault : LineFault) × IsFirstFaultOf so_far line fault

-- the line has no fault, and leads on
abbrev pub LeadsOn : SoFar → List ℕ → Type 0
LeadsOn so_far line = (after : SoFar) × Declares so_far line after

-- the lines lead from what was declared so far to what is declared after them, each without a fault
abbrev pub Leads : SoFar → List (List ℕ) → SoFar → Type 0
Leads so_far [] after = after ≡ so_far
Leads so_far (line ∷ lines) after = (next : SoFar) × Declares so_far line next
    × Leads next lines after

-- over these procedures the prelude declares this
abbrev pub PreludeDeclares : List Procedure → Declared → Type 0
PreludeDeclares procedures known = Leads (Outside (nothing_declared procedures))
    (lines_of prelude_text) (Outside known)

-- over these procedures the text spells the declaration: its lines lead to it from what the prelude
-- declares
pub record SpellsDeclaration (procedures : List Procedure) (text : List ℕ) (d : Declared)
    : Type 0 where
  pub short : length text ≤ most_text_bytes
  pub known : Declared
  pub prelude : PreludeDeclares procedures known
  pub leads : Leads (BeforeHeader known) (lines_of text) (Outside d)

-- the fault after the last line: there was no header, or a compound has not ended
abbrev pub IsUnfinished : SoFar → DeclFaultKind → Type 0
IsUnfinished (BeforeHeader d) why = why ≡ Syntax
IsUnfinished (Outside d) why = ⊥
IsUnfinished (Inside d opened) why = why ≡ MissingEnd

-- the fault of the first of the remaining lines, or after the last of them
abbrev pub IsFaultNext : SoFar → List (List ℕ) → DeclFaultKind → Type 0
IsFaultNext so_far [] why = IsUnfinished so_far why
IsFaultNext so_far (line ∷ lines) why = (fault : LineFault) × IsFirstFaultOf so_far line fault
    × (why ≡ kind_of_fault fault)

-- after what was declared so far, the first fault of the lines is at this one, counted from 1, or
-- after the last
pub record IsFaultAmong (start : SoFar) (lines : List (List ℕ)) (number : ℕ) (why : DeclFaultKind)
    : Type 0 where
  pub before : List (List ℕ)
  pub rest : List (List ℕ)
  pub so_far : SoFar
  pub parts : lines ≡ before ++ rest
  pub count : number ≡ length before + 1
  pub leads : Leads start before so_far
  pub fault : IsFaultNext so_far rest why

-- after what was declared so far, neither the line of this number, from 1, nor any line before it
-- has a fault
pub record IsClearUpTo (start : SoFar) (lines : List (List ℕ)) (number : ℕ) : Type 0 where
  pub before : List (List ℕ)
  pub line : List ℕ
  pub rest : List (List ℕ)
  pub so_far : SoFar
  pub parts : lines ≡ before ++ line ∷ rest
  pub count : number ≡ length before + 1
  pub leads : Leads start before so_far
  pub clear : HasNoFault so_far line

-- the first fault of the text's lines, after the prelude
pub record IsFaultOnLine (procedures : List Procedure) (text : List ℕ) (number : ℕ)
    (why : DeclFaultKind) : Type 0 where
  pub known : Declared
  pub prelude : PreludeDeclares procedures known
  pub among : IsFaultAmong (BeforeHeader known) (lines_of text) number why

-- the first fault of the prelude
abbrev pub IsFaultOfPrelude : List Procedure → DeclFaultKind → Type 0
IsFaultOfPrelude procedures why =
    (number : ℕ) × IsFaultAmong (Outside (nothing_declared procedures)) (lines_of prelude_text)
    number why

-- the first fault of a text that is not too long: a fault of the prelude is reported at line 0, and
-- a fault of the text at its line, from 1
abbrev pub IsFaultInside : List Procedure → List ℕ → ℕ → DeclFaultKind → Type 0
IsFaultInside procedures text number why =
    ((number ≡ 0) × IsFaultOfPrelude procedures why) ⊎ IsFaultOnLine procedures text number why

-- the first fault of a text over these procedures, and the number of its line; a text that is too
-- long is a fault at line 0
abbrev pub IsFirstFault : List Procedure → List ℕ → ℕ → DeclFaultKind → Type 0
IsFirstFault procedures text number why =
    ((most_text_bytes < length text) × (number ≡ 0) × (why ≡ Limit))
    ⊎ ((length text ≤ most_text_bytes) × IsFaultInside procedures text number why)

-- the text spells a declaration
abbrev pub SpellsOne : List Procedure → List ℕ → Type 0
SpellsOne procedures text = (d : Declared) × SpellsDeclaration procedures text d

-- the text has a first fault
abbrev pub HasAFirstFault : List Procedure → List ℕ → Type 0
HasAFirstFault procedures text = (number : ℕ) × (why : DeclFaultKind)
    × IsFirstFault procedures text number why

-- ---- the results of reading

-- after what was declared so far, the fault is the first among the lines, or out of memory
abbrev pub IsReportedAmong : SoFar → List (List ℕ) → DeclFault → Type 0
IsReportedAmong start lines fault = (fault.why ≡ Memory)
    ⊎ IsFaultAmong start lines fault.line fault.why

-- some line of the prelude has no fault, and neither has any line before it
abbrev pub IsClearInPrelude : List Procedure → Type 0
IsClearInPrelude procedures =
    (line : ℕ) × IsClearUpTo (Outside (nothing_declared procedures)) (lines_of prelude_text) line

-- the line of this number, from 1, has no fault, and neither has any line before it, nor the
-- prelude
abbrev pub IsClearInText : List Procedure → List ℕ → ℕ → Type 0
IsClearInText procedures text number =
    (known : Declared) × PreludeDeclares procedures known
    × IsClearUpTo (BeforeHeader known) (lines_of text) number

-- the text is not too long, and up to this line, where 0 means a line of the prelude, no line has a
-- fault
abbrev pub HasNoFaultUpTo : List Procedure → List ℕ → ℕ → Type 0
HasNoFaultUpTo procedures text number =
    (length text ≤ most_text_bytes)
    × (((number ≡ 0) × IsClearInPrelude procedures) ⊎ IsClearInText procedures text number)

-- the fault is the first of the text, or out of memory
abbrev pub IsReported : List Procedure → List ℕ → DeclFault → Type 0
IsReported procedures text fault = (fault.why ≡ Memory)
    ⊎ IsFirstFault procedures text fault.line fault.why

-- the declaration is read, unless memory runs out
abbrev pub IsReadAs : {A : _} {X : Type 0} {F : X → Type 0} {C : _} → Declared →
    Result (Declaration A X F C) DeclFault → Type 0
IsReadAs d read = MatchResult read (λ declaration. declared declaration ≡ d) (λ fault. fault.why
    ≡ Memory)

-- this fault is reported, unless memory runs out
abbrev pub IsFaultAt : {A : _} {X : Type 0} {F : X → Type 0} {C : _} → ℕ → DeclFaultKind →
    Result (Declaration A X F C) DeclFault → Type 0
IsFaultAt number why read = IsErrAnd read (λ fault. (fault.why ≡ Memory)
    ⊎ ((fault.line ≡ number) × (fault.why ≡ why)))
