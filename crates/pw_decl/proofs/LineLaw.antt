-- Each line has a fault or leads on, and each text has a first fault or spells a declaration.
use Rattle.std.proofs.Common.{◌≡◌, ℕ, zero, suc, ◌+◌, ◌<◌, ◌≤◌, true, false, List, [], ◌∷◌, ◌++◌, length, Option, Some, None, ◌⊎◌, inl, inr, sym, refl, ap, subst, ◌∙◌, arith, append-nil}
use Rattle.std.specs.Prelude.{All}
use Rattle.std.specs.List.{list_all}
use Rattle.std.proofs.lemmas.Bool.{cases_Bool, false≢true}
use Rattle.std.proofs.Math.Nat.{lt_of_not-le}
use Rattle.pw_kinds.specs.Places.{IsSize, fewest_members}
use Rattle.pw_info.specs.declared.kind.Kind.{Kind}
use Rattle.pw_info.specs.declared.kind.Kind.TheVariants as kinds
use Rattle.pw_info.specs.Lines.{lines_of}
use Rattle.pw_info.specs.Words.{words_of, is_idle, is_allowed}
use Rattle.pw_info.specs.SetNames.{IsNamed}
use Rattle.pw_info.proofs.FirstLemmas.{none_is_first}
use Rattle.pw_procs.specs.Registering.{place_of_name}
use Rattle.pw_procs.specs.Procedure.{Procedure}
use Rattle.pw_decl.specs.declared.decl_fault.DeclFaultKind.{DeclFaultKind}
use Rattle.pw_decl.specs.declared.decl_fault.DeclFaultKind.TheVariants.{Syntax, Limit, MissingEnd}
use Rattle.pw_decl.specs.declared.step.Callable.{Callable}
use Rattle.pw_decl.specs.Compound.{AcceptsKinds, kinds_at, cell_kinds, Size, size_of_local, size_of_callable, sizes_of}
use Rattle.pw_decl.specs.Declaration.{Declared, nothing_declared, OpenCompound, SoFar, BeforeHeader, Outside, Inside, kind_names, members_of, NamesKind, NameKinds, parameter_names, parameter_kinds, callable_named, places_of, DeclarationSentence, Header, User, Premise, PremiseOf, Set, Cell, Begin, Local, Call, End, IsSentenceAt, begun, with_version, with_user, with_premise, with_cell, with_set, with_local, with_call, with_compound, Makes}
use Rattle.pw_decl.specs.Faults.{SaysInPlace, HasDuplicate, HasUnknown, is_cell_of, HasWrongArguments, OutgrowsWith, IsOneTooMany, LineFault, TooLong, BadSyntax, Duplicate, Unknown, Wrong, TooMany, line_faults, kind_of_fault, FaultApplies, HasNoFault, IsFirstFaultOf, HasAFault, Declares, LeadsOn, Leads, PreludeDeclares, SpellsDeclaration, SpellsOne, IsFaultAmong, HasAFirstFault}
use Rattle.pw_decl.specs.Limits.{most_users, most_premises, most_cells, most_sets, most_compounds, most_parameters, most_instances, most_inner_cells, most_line_bytes, most_text_bytes}
use Rattle.pw_decl.specs.Prelude.{prelude_compounds, prelude_text}
use Rattle.pw_decl.specs.Versions.{most_premises_under, most_members_under}
use Rattle.pw_decl.specs.WellDeclared.{IsWellDeclared, IsWellSoFar}
use Rattle.pw_decl.specs.inside.Forms.{sentence_at}
use Rattle.pw_decl.proofs.CompoundLaws.{well_begun, well_with_local, well_with_call, places_there}
use Rattle.pw_decl.proofs.CompoundLemmas.{length-named, length-parameters}
use Rattle.pw_decl.proofs.Decided.{Decided, first_or_none, decided_not, decided_or, decided_less, decided_at_most, decided_some, decided_none, decided_distinct, decided_false, decided_nil, decided_there, decided_accepts_kinds}
use Rattle.pw_decl.proofs.DeclaredLemmas.{well_at_first, well_with_version, well_with_user, well_with_premise, well_with_cell, well_with_set, well_with_compound}
use Rattle.pw_decl.proofs.LineFaults.{found, given, one_sentence, one_declared}
use Rattle.pw_decl.proofs.ParameterLemmas.{none_there}
use Rattle.pw_decl.proofs.Places.{place_of_name-lt}
use Rattle.pw_decl.proofs.SetLemmas.{unnamed}
use Rattle.pw_decl.proofs.VersionLemmas.{premises_within, members_within}

-- ---- the kind that a word names

-- each set kind has 2 to 64 members
size_of_set : (d : Declared) (set : ℕ) → All (λ names. IsSize (length names)) d.sets → set < 2 + length d.sets → IsSize (length (members_of d set))
size_of_set d zero sizes there = (omega arith, omega arith)
size_of_set d (suc zero) sizes there = (omega arith, omega arith)
size_of_set d (suc (suc set)) sizes there = sizes set [] (omega arith)

kind_at_place : (d : Declared) (word : List ℕ) → IsWellDeclared d → (o : Option ℕ) → place_of_name (kind_names d) word ≡ o →
    ((kind : Kind) × NamesKind d word kind × IsNamed (members_of d) kind) ⊎ ((kind : Kind) → NamesKind d word kind → ⊥)
kind_at_place d word well None none = inr (unnamed d word none)
kind_at_place d word well (Some zero) at = inl (kinds.Interval, at, tt)
kind_at_place d word well (Some (suc zero)) at = inl (kinds.Exact, at, tt)
kind_at_place d word well (Some (suc (suc set))) at =
    let below : suc (suc set) < length (kind_names d) = place_of_name-lt (kind_names d) word (suc (suc set)) at in
    let alike : length d.set_names ≡ length d.sets = well.set_names in
    let size : IsSize (length (members_of d set)) = size_of_set d set well.sizes (omega arith) in
    let number : suc (suc set) ≡ set + 2 = omega arith in
    inl (kinds.Members (record { number = set; size = length (members_of d set); sized = size }), (at ∙ ap Some number, refl), refl)

-- the word names a kind, which has its names, or none
named_or_not : (d : Declared) (word : List ℕ) → IsWellDeclared d →
    ((kind : Kind) × NamesKind d word kind × IsNamed (members_of d) kind) ⊎ ((kind : Kind) → NamesKind d word kind → ⊥)
named_or_not d word well = kind_at_place d word well (place_of_name (kind_names d) word) refl

first_unnamed : (d : Declared) (word : List ℕ) (words : List (List ℕ)) → ((kind : Kind) → NamesKind d word kind → ⊥) →
    (kinds : List Kind) → NameKinds d (word ∷ words) kinds → ⊥
first_unnamed d word words none [] named = named
first_unnamed d word words none (kind ∷ kinds) (first, named) = none kind first

later_unnamed : (d : Declared) (word : List ℕ) (words : List (List ℕ)) → ((kinds : List Kind) → NameKinds d words kinds → ⊥) →
    (kinds : List Kind) → NameKinds d (word ∷ words) kinds → ⊥
later_unnamed d word words none [] named = named
later_unnamed d word words none (kind ∷ kinds) (first, named) = none kinds named

-- words name kinds, one each, or they do not
named_all_or_not : (d : Declared) (words : List (List ℕ)) → IsWellDeclared d →
    ((kinds : List Kind) × NameKinds d words kinds) ⊎ ((kinds : List Kind) → NameKinds d words kinds → ⊥)
named_all_or_not d [] well = inl ([], tt)
named_all_or_not d (word ∷ words) well =
    elim (named_or_not d word well) [
      | inl first ↦
          elim (named_all_or_not d words well) [
            | inl rest ↦ inl (first.0 ∷ rest.0, (first.1, rest.1))
            | inr none ↦ inr (later_unnamed d word words none)
          ]
      | inr none ↦ inr (first_unnamed d word words none)
    ]

-- ---- what can be wrong with a sentence

decided_duplicate : (so_far : SoFar) (s : DeclarationSentence) → Decided (HasDuplicate so_far s)
decided_duplicate (Outside d) (User name) = decided_some (place_of_name d.users name)
decided_duplicate (Outside d) (Premise name) = decided_some (place_of_name d.premises name)
decided_duplicate (Outside d) (PremiseOf name user) = decided_some (place_of_name d.premises name)
decided_duplicate (Outside d) (Set name members) = decided_or (decided_some (place_of_name (kind_names d) name)) (decided_not (decided_distinct members))
decided_duplicate (Outside d) (Cell name kind) = decided_some (place_of_name d.cells name)
decided_duplicate (Outside d) (Begin name parameters) =
    decided_or (decided_some (callable_named d name)) (decided_not (decided_distinct (parameter_names parameters)))
decided_duplicate (Inside d opened) (Local name kind) = decided_some (place_of_name opened.names name)
decided_duplicate so_far s = inr (λ h. h)

decided_unnamed : (d : Declared) (word : List ℕ) → IsWellDeclared d → Decided ((kind : Kind) → NamesKind d word kind → ⊥)
decided_unnamed d word well = elim (named_or_not d word well) [
  | inl named ↦ inr (λ none. none named.0 named.1)
  | inr none ↦ inl none
]

decided_all_unnamed : (d : Declared) (words : List (List ℕ)) → IsWellDeclared d → Decided ((kinds : List Kind) → NameKinds d words kinds → ⊥)
decided_all_unnamed d words well = elim (named_all_or_not d words well) [
  | inl named ↦ inr (λ none. none named.0 named.1)
  | inr none ↦ inl none
]

decided_unknown : (so_far : SoFar) → IsWellSoFar so_far → (s : DeclarationSentence) → Decided (HasUnknown so_far s)
decided_unknown (Outside d) well (PremiseOf name user) = decided_none (place_of_name d.users user)
decided_unknown (Outside d) well (Cell name word) = decided_unnamed d word well
decided_unknown (Outside d) well (Begin name parameters) = decided_all_unnamed d (parameter_kinds parameters) well
decided_unknown (Inside d opened) well (Local name word) = decided_unnamed d word well.0
decided_unknown (Inside d opened) well (Call word arguments) =
    decided_or (decided_none (callable_named d word)) (decided_false (list_all (is_cell_of opened) arguments))
decided_unknown so_far well s = inr (λ h. h)

decided_wrong : (so_far : SoFar) (s : DeclarationSentence) → Decided (HasWrongArguments so_far s)
decided_wrong (Outside d) (Set name members) = decided_less (length members) fewest_members
decided_wrong (Outside d) (Begin name parameters) = decided_nil parameters
decided_wrong (Inside d opened) (Call word arguments) =
    let given_kinds = kinds_at (cell_kinds opened.compound) (places_of opened arguments) in
    decided_there (callable_named d word) (λ callable. AcceptsKinds d.procedures d.compounds callable given_kinds → ⊥)
    (λ callable. decided_not (decided_accepts_kinds d.procedures d.compounds callable given_kinds))
decided_wrong so_far s = inr (λ h. h)

decided_outgrows : (d : Declared) (opened : OpenCompound) (size : Size) → Decided (OutgrowsWith d opened size)
decided_outgrows d opened size = decided_or (decided_less most_instances _) (decided_less most_inner_cells _)

decided_many : (so_far : SoFar) (s : DeclarationSentence) → Decided (IsOneTooMany so_far s)
decided_many (Outside d) (User name) = decided_at_most most_users (length d.users)
decided_many (Outside d) (Premise name) = decided_at_most (most_premises_under d.version) (length d.premises)
decided_many (Outside d) (PremiseOf name user) = decided_at_most (most_premises_under d.version) (length d.premises)
decided_many (Outside d) (Set name members) = decided_or (decided_at_most most_sets (length d.sets)) (decided_less (most_members_under d.version) (length members))
decided_many (Outside d) (Cell name kind) = decided_at_most most_cells (length d.cells)
decided_many (Outside d) (Begin name parameters) =
    decided_or (decided_at_most (prelude_compounds + most_compounds) (length d.compounds)) (decided_less most_parameters (length (parameter_names parameters)))
decided_many (Inside d opened) (Local name word) = decided_outgrows d opened size_of_local
decided_many (Inside d opened) (Call word arguments) =
    decided_there (callable_named d word) (λ callable. OutgrowsWith d opened (size_of_callable (sizes_of d.compounds) callable))
    (λ callable. decided_outgrows d opened (size_of_callable (sizes_of d.compounds) callable))
decided_many so_far s = inr (λ h. h)

-- ---- what a line says

said_by : (so_far : SoFar) (line : List ℕ) → is_idle line ≡ false → list_all is_allowed line ≡ true → (o : Option DeclarationSentence) → sentence_at so_far (words_of line) ≡ o →
    ((s : DeclarationSentence) × SaysInPlace so_far line s) ⊎ ((s : DeclarationSentence) → SaysInPlace so_far line s → ⊥)
said_by so_far line spoken allowed None none =
    inr (λ s says. let e : None ≡ Some s = sym none ∙ given so_far (words_of line) s says.words in cc)
said_by so_far line spoken allowed (Some s) formed =
    inl (s, record { spoken = spoken; allowed = allowed; words = found so_far (words_of line) s formed })

-- the line says a sentence in its place, or none
said_or_not : (so_far : SoFar) (line : List ℕ) →
    ((s : DeclarationSentence) × SaysInPlace so_far line s) ⊎ ((s : DeclarationSentence) → SaysInPlace so_far line s → ⊥)
said_or_not so_far line =
    elim (cases_Bool (is_idle line)) [
      | inl idle ↦ inr (λ s says. false≢true (sym says.spoken ∙ idle))
      | inr spoken ↦
          elim (cases_Bool (list_all is_allowed line)) [
            | inl allowed ↦ said_by so_far line spoken allowed (sentence_at so_far (words_of line)) refl
            | inr bad ↦ inr (λ s says. false≢true (sym bad ∙ says.allowed))
          ]
    ]

-- whether what is known about each sentence holds of the one that the line says
decided_of_said : (so_far : SoFar) (line : List ℕ) (P : DeclarationSentence → Type 0) → ((s : DeclarationSentence) → Decided (P s)) →
    Decided ((s : DeclarationSentence) × SaysInPlace so_far line s × P s)
decided_of_said so_far line P decide =
    elim (said_or_not so_far line) [
      | inl said ↦
          elim (decide said.0) [
            | inl holds ↦ inl (said.0, said.1, holds)
            | inr fails ↦ inr (λ other. fails (subst P (one_sentence so_far (words_of line) other.0 said.0 other.1.words said.1.words) other.2))
          ]
      | inr unsaid ↦ inr (λ said. unsaid said.0 said.1)
    ]

decided_syntax : (so_far : SoFar) (line : List ℕ) → Decided (FaultApplies so_far line BadSyntax)
decided_syntax so_far line =
    elim (cases_Bool (is_idle line)) [
      | inl idle ↦ inr (λ bad. false≢true (sym bad.0 ∙ idle))
      | inr spoken ↦
          elim (said_or_not so_far line) [
            | inl said ↦ inr (λ bad. bad.1 said.0 said.1)
            | inr unsaid ↦ inl (spoken, unsaid)
          ]
    ]

decided_fault : (so_far : SoFar) (line : List ℕ) → IsWellSoFar so_far → (fault : LineFault) → Decided (FaultApplies so_far line fault)
decided_fault so_far line well TooLong = decided_less most_line_bytes (length line)
decided_fault so_far line well BadSyntax = decided_syntax so_far line
decided_fault so_far line well Duplicate = decided_of_said so_far line (HasDuplicate so_far) (decided_duplicate so_far)
decided_fault so_far line well Unknown = decided_of_said so_far line (HasUnknown so_far) (decided_unknown so_far well)
decided_fault so_far line well Wrong = decided_of_said so_far line (HasWrongArguments so_far) (decided_wrong so_far)
decided_fault so_far line well TooMany = decided_of_said so_far line (IsOneTooMany so_far) (decided_many so_far)

-- ---- where a line leads

-- what a sentence makes, and that it is well
abbrev MakesWell : SoFar → DeclarationSentence → Type 0
MakesWell so_far s = (after : SoFar) × Makes so_far s after × IsWellSoFar after

-- a premise that is not one too many
room_for : (d : Declared) → (most_premises_under d.version ≤ length d.premises → ⊥) → length d.premises < most_premises
room_for d few = omega (arith, premises_within d.version, lt_of_not-le few)

-- a premise of a user that exists
premise_made : (d : Declared) (name user : List ℕ) → IsWellDeclared d → length d.premises < most_premises → (o : Option ℕ) → place_of_name d.users user ≡ o → (o ≡ None → ⊥) →
    MakesWell (Outside d) (PremiseOf name user)
premise_made d name user well room None none there = absurd (there refl)
premise_made d name user well room (Some owner) at there =
    (Outside (with_premise d name (Some owner)), (owner, at, refl), well_with_premise d name (Some owner) well room (place_of_name-lt d.users user owner at))

-- a compound of parameters whose kinds are there
begin_made : (d : Declared) (name : List ℕ) (parameters : List (List ℕ)) → IsWellDeclared d →
    (HasDuplicate (Outside d) (Begin name parameters) → ⊥) → (HasUnknown (Outside d) (Begin name parameters) → ⊥) →
    (IsOneTooMany (Outside d) (Begin name parameters) → ⊥) → MakesWell (Outside d) (Begin name parameters)
begin_made d name parameters well new known few =
    elim (named_all_or_not d (parameter_kinds parameters) well) [
      | inl named ↦
          let names = parameter_names parameters in
          let alike : length names ≡ length named.0 = length-parameters parameters ∙ length-named d (parameter_kinds parameters) named.0 named.1 in
          let room : length d.compounds < prelude_compounds + most_compounds = lt_of_not-le (λ many. few (inl many)) in
          let most : (most_parameters < length names → ⊥) = λ many. few (inr many) in
          let fresh : callable_named d name ≡ None = none_there (callable_named d name) (λ old. new (inl old)) in
          (Inside d (begun name names named.0), (named.0, named.1, refl), (well, well_begun d name names named.0 room fresh alike (omega arith)))
      | inr none ↦ absurd (known none)
    ]

-- a call of a callable that exists
call_made : (d : Declared) (opened : OpenCompound) (word : List ℕ) (arguments : List (List ℕ)) → IsWellSoFar (Inside d opened) →
    (HasWrongArguments (Inside d opened) (Call word arguments) → ⊥) → (IsOneTooMany (Inside d opened) (Call word arguments) → ⊥) →
    (o : Option Callable) → callable_named d word ≡ o → (o ≡ None → ⊥) → MakesWell (Inside d opened) (Call word arguments)
call_made d opened word arguments well right few None none there = absurd (there refl)
call_made d opened word arguments well right few (Some callable) at there =
    let places = places_of opened arguments in
    elim (decided_accepts_kinds d.procedures d.compounds callable (kinds_at (cell_kinds opened.compound) places)) [
      | inl accepts ↦ (
        Inside d (with_call opened callable places),
        (callable, at, refl),
        (well.0, well_with_call d opened callable places well.1 (places_there d opened arguments well.1) accepts (λ more. few (callable, at, more))),
      )
      | inr refuses ↦ absurd (right (callable, at, refuses))
    ]

-- a sentence at its place, with nothing wrong with it, makes something
made : (so_far : SoFar) (words : List (List ℕ)) (s : DeclarationSentence) → IsWellSoFar so_far → IsSentenceAt so_far words s →
    (HasDuplicate so_far s → ⊥) → (HasUnknown so_far s → ⊥) → (HasWrongArguments so_far s → ⊥) → (IsOneTooMany so_far s → ⊥) → MakesWell so_far s
made (BeforeHeader d) words (Header version) well is new known right few = (Outside (with_version d version), refl, well_with_version d version well)
made (BeforeHeader d) words s well is new known right few = absurd is
made (Outside d) words (User name) well is new known right few = (Outside (with_user d name), refl, well_with_user d name well (lt_of_not-le few))
made (Outside d) words (Premise name) well is new known right few =
    (Outside (with_premise d name None), refl, well_with_premise d name None well (room_for d few) tt)
made (Outside d) words (PremiseOf name user) well is new known right few =
    premise_made d name user well (room_for d few) (place_of_name d.users user) refl known
made (Outside d) words (Set name members) well is new known right few =
    let room : length d.sets < most_sets = lt_of_not-le (λ many. few (inl many)) in
    let least : (length members < fewest_members → ⊥) = right in
    let most : (most_members_under d.version < length members → ⊥) = λ many. few (inr many) in
    let within = members_within d.version in
    elim (decided_distinct members) [
      | inl differ ↦ (Outside (with_set d name members), refl, well_with_set d name members well room (omega arith, omega arith) (record { each = is.2; differ = differ }))
      | inr equal ↦ absurd (new (inr equal))
    ]
made (Outside d) words (Cell name word) well is new known right few =
    elim (named_or_not d word well) [
      | inl named ↦ (Outside (with_cell d name named.0), (named.0, named.1, refl), well_with_cell d name named.0 well (lt_of_not-le few) named.2)
      | inr none ↦ absurd (known none)
    ]
made (Outside d) words (Begin name parameters) well is new known right few = begin_made d name parameters well new known few
made (Outside d) words s well is new known right few = absurd is
made (Inside d opened) words (Local name word) well is new known right few =
    elim (named_or_not d word well.0) [
      | inl named ↦ (Inside d (with_local opened name named.0), (named.0, named.1, refl), (well.0, well_with_local d opened name named.0 well.1 few))
      | inr none ↦ absurd (known none)
    ]
made (Inside d opened) words (Call word arguments) well is new known right few =
    call_made d opened word arguments well right few (callable_named d word) refl (λ none. known (inl none))
made (Inside d opened) words End well is new known right few = (
  Outside (with_compound d opened.name opened.compound),
  refl,
  well_with_compound d opened.name opened.compound well.0 well.1.room well.1.parameters well.1.steps well.1.small,
)
made (Inside d opened) words s well is new known right few = absurd is

-- a line without fault leads on, to what is well declared
next_well : (so_far : SoFar) (line : List ℕ) → IsWellSoFar so_far → HasNoFault so_far line →
    (after : SoFar) × Declares so_far line after × IsWellSoFar after
next_well so_far line well none =
    elim (cases_Bool (is_idle line)) [
      | inl idle ↦ (so_far, (none, inl (idle, refl)), well)
      | inr spoken ↦
          elim (said_or_not so_far line) [
            | inl said ↦
                let after =
                made so_far (words_of line) said.0 well said.1.words
                (λ h. none.1.1.0 (said.0, said.1, h)) (λ h. none.1.1.1.0 (said.0, said.1, h)) (λ h. none.1.1.1.1.0 (said.0, said.1, h)) (λ h. none.1.1.1.1.1.0 (said.0, said.1, h)) in
                (after.0, (none, inr (said.0, said.1, after.1)), after.2)
            | inr unsaid ↦ absurd (none.1.0 (spoken, unsaid))
          ]
    ]

-- each line has a fault or leads on, to what is well declared
faulty_or_well : (so_far : SoFar) (line : List ℕ) → IsWellSoFar so_far →
    HasAFault so_far line ⊎ ((after : SoFar) × Declares so_far line after × IsWellSoFar after)
faulty_or_well so_far line well =
    elim (first_or_none (FaultApplies so_far line) (decided_fault so_far line well) line_faults) [
      | inl first ↦ inl first
      | inr none ↦ inr (next_well so_far line well none)
    ]

-- each line has a fault or leads on
pub faulty_or_leads : (so_far : SoFar) (line : List ℕ) → IsWellSoFar so_far → HasAFault so_far line ⊎ LeadsOn so_far line
faulty_or_leads so_far line well =
    elim (faulty_or_well so_far line well) [
      | inl faulty ↦ inl faulty
      | inr next ↦ inr (next.0, next.1)
    ]

-- a line leads to what is well declared
pub kept : (so_far after : SoFar) (line : List ℕ) → IsWellSoFar so_far → Declares so_far line after → IsWellSoFar after
kept so_far after line well declares =
    elim (faulty_or_well so_far line well) [
      | inl faulty ↦ absurd (none_is_first (FaultApplies so_far line) line_faults faulty.0 declares.0 faulty.1)
      | inr next ↦ subst IsWellSoFar (one_declared so_far line next.0 after next.1 declares) next.2
    ]

-- ---- one line after another

-- so do lines
kept_over : (start after : SoFar) (lines : List (List ℕ)) → IsWellSoFar start → Leads start lines after → IsWellSoFar after
kept_over start after [] well leads = subst IsWellSoFar (sym leads) well
kept_over start after (line ∷ lines) well (next, declares, leads) = kept_over next after lines (kept start next line well declares) leads

-- what the prelude declares is well declared
known_well : (ps : List Procedure) (known : Declared) → PreludeDeclares ps known → IsWellDeclared known
known_well ps known leads = kept_over (Outside (nothing_declared ps)) (Outside known) (lines_of prelude_text) (well_at_first ps) leads

-- and so is what a text spells
pub spelled_well : (ps : List Procedure) (text : List ℕ) (d : Declared) → SpellsDeclaration ps text d → IsWellDeclared d
spelled_well ps text d spells =
    kept_over (BeforeHeader spells.known) (Outside d) (lines_of text) (known_well ps spells.known spells.prelude) spells.leads

-- the lines lead on up to one that has a fault
record StopsAt (start : SoFar) (lines : List (List ℕ)) : Type 0 where
  pub before : List (List ℕ)
  pub line : List ℕ
  pub rest : List (List ℕ)
  pub so_far : SoFar
  pub parts : lines ≡ before ++ line ∷ rest
  pub leads : Leads start before so_far
  pub fault : LineFault
  pub first : IsFirstFaultOf so_far line fault

stops_or_leads : (start : SoFar) (lines : List (List ℕ)) → IsWellSoFar start →
    StopsAt start lines ⊎ ((after : SoFar) × Leads start lines after)
stops_or_leads start [] well = inr (start, refl)
stops_or_leads start (line ∷ lines) well =
    elim (faulty_or_well start line well) [
      | inl faulty ↦
          inl (record { before = []; line = line; rest = lines; so_far = start; parts = refl; leads = refl; fault = faulty.0; first = faulty.1 })
      | inr next ↦
          elim (stops_or_leads next.0 lines next.2) [
            | inl stop ↦
                inl (record { before = line ∷ stop.before; line = stop.line; rest = stop.rest; so_far = stop.so_far; parts = ap (λ (x : List (List ℕ)). line ∷ x) stop.parts; leads = (next.0, next.1, stop.leads); fault = stop.fault; first = stop.first })
            | inr led ↦ inr (led.0, (next.0, next.1, led.1))
          ]
    ]

-- the lines lead out of every compound, or have a first fault
abbrev LeadsOut : SoFar → List (List ℕ) → Type 0
LeadsOut start lines = (d : Declared) × Leads start lines (Outside d)

abbrev FaultAmong : SoFar → List (List ℕ) → Type 0
FaultAmong start lines = (number : ℕ) × (why : DeclFaultKind) × IsFaultAmong start lines number why

-- if all lines lead on, they lead out, or there is no header or no end
at_the_end : (start : SoFar) (lines : List (List ℕ)) (after : SoFar) → Leads start lines after → LeadsOut start lines ⊎ FaultAmong start lines
at_the_end start lines (BeforeHeader d) leads =
    inr (
      length lines + 1,
      Syntax,
      record { before = lines; rest = []; so_far = BeforeHeader d; parts = sym (append-nil lines); count = refl; leads = leads; fault = refl },
    )
at_the_end start lines (Outside d) leads = inl (d, leads)
at_the_end start lines (Inside d opened) leads =
    inr (
      length lines + 1,
      MissingEnd,
      record { before = lines; rest = []; so_far = Inside d opened; parts = sym (append-nil lines); count = refl; leads = leads; fault = refl },
    )

out_or_faulty : (start : SoFar) (lines : List (List ℕ)) → IsWellSoFar start → LeadsOut start lines ⊎ FaultAmong start lines
out_or_faulty start lines well =
    elim (stops_or_leads start lines well) [
      | inl stop ↦
          inr (
            length stop.before + 1,
            kind_of_fault stop.fault,
            record {
              before = stop.before;
              rest = stop.line ∷ stop.rest;
              so_far = stop.so_far;
              parts = stop.parts;
              count = refl;
              leads = stop.leads;
              fault = (stop.fault, stop.first, refl);
            },
          )
      | inr led ↦ at_the_end start lines led.0 led.1
    ]

-- each text spells a declaration or has a first fault
pub spelled_or_faulty : (ps : List Procedure) (text : List ℕ) → SpellsOne ps text ⊎ HasAFirstFault ps text
spelled_or_faulty ps text =
    elim (decided_less most_text_bytes (length text)) [
      | inl long ↦ inr (0, Limit, inl (long, refl, refl))
      | inr fits ↦
          let short : length text ≤ most_text_bytes = omega arith in
          elim (out_or_faulty (Outside (nothing_declared ps)) (lines_of prelude_text) (well_at_first ps)) [
            | inl known ↦
                elim (out_or_faulty (BeforeHeader known.0) (lines_of text) (known_well ps known.0 known.1)) [
                  | inl led ↦ inl (led.0, record { short = short; known = known.0; prelude = known.1; leads = led.1 })
                  | inr fault ↦ inr (fault.0, fault.1, inr (short, inr (record { known = known.0; prelude = known.1; among = fault.2 })))
                ]
            | inr fault ↦ inr (0, fault.1, inr (short, inl (refl, (fault.0, fault.2))))
          ]
    ]
