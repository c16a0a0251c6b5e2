-- The faults that a sentence of a declaration can have, once its words fit their form.
use Rattle.std.specs.Prelude.{◌≡◌, ◌≢◌, ℕ, true, List, [], ◌∷◌, ◌⊎◌}
use Rattle.std.specs.List.{list_all}
use Rattle.pw_info.specs.Name.{is_name}
use Rattle.pw_decl.specs.inside.Forms.{are_parameters}
use Rattle.pw_decl.specs.declared.decl_fault.DeclFaultKind.{DeclFaultKind}
use Rattle.pw_decl.specs.declared.decl_fault.DeclFaultKind.TheVariants.{Memory}
use Rattle.pw_info.specs.Lines.{IsFirstIn, HoldsOfNone}
use Rattle.pw_decl.specs.Declaration.{SoFar, DeclarationSentence, Set, Begin, Call, Makes}
use Rattle.pw_decl.specs.Faults.{LineFault, Duplicate, Unknown, Wrong, TooMany, HasDuplicate}
use Rattle.pw_decl.specs.Faults.{HasUnknown, HasWrongArguments, IsOneTooMany, kind_of_fault}
use Rattle.pw_decl.specs.Faults.{IsFirstFaultOf, HasNoFault}

-- the parts of the sentence fit its form: members are names, parameters alternate between names and
-- kinds, and a call has an argument
abbrev pub HasGoodParts : DeclarationSentence → Type 0
HasGoodParts (Set name members) = list_all is_name members ≡ true
HasGoodParts (Begin name parameters) = are_parameters parameters ≡ true
HasGoodParts (Call callable arguments) = arguments ≢ []
HasGoodParts sentence = Unit {0}

-- the faults of a sentence, in the order in which they are reported
abbrev pub sentence_faults : List LineFault
sentence_faults = Duplicate ∷ Unknown ∷ Wrong ∷ TooMany ∷ []

-- the sentence has the fault
abbrev pub FaultAppliesTo : SoFar → DeclarationSentence → LineFault → Type 0
FaultAppliesTo so_far sentence Duplicate = HasDuplicate so_far sentence
FaultAppliesTo so_far sentence Unknown = HasUnknown so_far sentence
FaultAppliesTo so_far sentence Wrong = HasWrongArguments so_far sentence
FaultAppliesTo so_far sentence TooMany = IsOneTooMany so_far sentence
FaultAppliesTo so_far sentence fault = ⊥

-- the sentence has no fault
abbrev pub IsFaultless : SoFar → DeclarationSentence → Type 0
IsFaultless so_far sentence = HoldsOfNone (FaultAppliesTo so_far sentence) sentence_faults

-- the sentence has no fault, and makes this
pub record DeclaresSentence (so_far : SoFar) (sentence : DeclarationSentence) (after : SoFar)
    : Type 0 where
  pub faultless : IsFaultless so_far sentence
  pub makes : Makes so_far sentence after

-- this is reported for the sentence: its first fault, or, if it has none, out of memory
abbrev pub IsToldOf : SoFar → DeclarationSentence → DeclFaultKind → Type 0
IsToldOf so_far sentence why =
    (IsFaultless so_far sentence × (why ≡ Memory))
    ⊎ ((fault : LineFault) × IsFirstIn (FaultAppliesTo so_far sentence) sentence_faults fault
    × (why ≡ kind_of_fault fault))

-- this is reported for the line: its first fault, or, if it has none, out of memory
abbrev pub IsToldOfLine : SoFar → List ℕ → DeclFaultKind → Type 0
IsToldOfLine so_far line why =
    (HasNoFault so_far line × (why ≡ Memory)) ⊎ ((fault : LineFault)
    × IsFirstFaultOf so_far line fault × (why ≡ kind_of_fault fault))
