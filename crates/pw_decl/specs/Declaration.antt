-- What a declaration is, and what each of its lines adds.
use Rattle.std.specs.Prelude.{◌≡◌, ◌≢◌, ℕ, ◌+◌, List, [], ◌∷◌, ◌++◌, All, length, map, Option, Some}
use Rattle.std.specs.Prelude.{None, codes, slice_index_or}
use Rattle.std.specs.List.{filter_map}
use Rattle.std.specs.Option.{option_map, option_or}
use Rattle.pw_info.specs.declared.kind.Kind.{Kind}
use Rattle.pw_info.specs.declared.kind.Kind.TheVariants as kinds
use Rattle.pw_info.specs.Name.{IsName}
use Rattle.pw_info.specs.SetNames.{SetNames}
use Rattle.pw_procs.specs.Registering.{place_of_name}
use Rattle.pw_procs.specs.Procedure.{Procedure}
use Rattle.pw_decl.specs.declared.step.Callable.{Callable}
use Rattle.pw_decl.specs.declared.step.Callable.TheVariants as callables
use Rattle.pw_decl.specs.declared.version.Version.{Version}
use Rattle.pw_decl.specs.declared.version.Version.TheVariants as versions
use Rattle.pw_decl.specs.Compound.{Compound, NewCell, CallOn, AcceptsKinds, IsThere, with_step}
use Rattle.pw_decl.specs.Versions.{version_word}

-- the declared things, over the procedures of a registry: the version, which is the first one until
-- the header names it, the names of the users, premises, cells, set kinds and compounds in the order
-- of their lines, for each premise the number of the user that it belongs to, if any, for each cell
-- its kind, for each set kind the names of its members, and each compound
pub record Declared : Type 0 where
  pub procedures : List Procedure
  pub version : Version
  pub users : List (List ℕ)
  pub premises : List (List ℕ)
  pub owners : List (Option ℕ)
  pub cells : List (List ℕ)
  pub kinds : List Kind
  pub set_names : List (List ℕ)
  pub sets : List (List (List ℕ))
  pub compound_names : List (List ℕ)
  pub compounds : List Compound

-- nothing is declared over these procedures
abbrev pub nothing_declared : List Procedure → Declared
nothing_declared procedures = record {
  procedures = procedures;
  version = versions.One;
  users = [];
  premises = [];
  owners = [];
  cells = [];
  kinds = [];
  set_names = [];
  sets = [];
  compound_names = [];
  compounds = [];
}

-- the user that a premise belongs to, if any
abbrev pub owner_of : Declared → ℕ → Option ℕ
owner_of d premise = slice_index_or d.owners premise None

-- the kind of a declared cell
abbrev pub kind_at : Declared → ℕ → Kind
kind_at d cell = slice_index_or d.kinds cell kinds.Interval

-- the members of the set kinds that every declaration has: `bool`, with the number 0, and `sign`,
-- with the number 1
abbrev pub built_in_sets : List (List (List ℕ))
built_in_sets = (codes "false" ∷ codes "true" ∷ []) ∷
    (codes "neg" ∷ codes "zero" ∷ codes "pos" ∷ []) ∷ []

-- the names of the members of one of them, by its number
abbrev pub built_in_members : SetNames
built_in_members set = slice_index_or built_in_sets set []

-- the names of the members of a set kind, by its number: the declared sets follow the built-in ones
abbrev pub members_of : Declared → SetNames
members_of d set = slice_index_or (built_in_sets ++ d.sets) set []

-- the names of the kinds that every declaration has; the last two are sets
abbrev pub built_in_kind_names : List (List ℕ)
built_in_kind_names = codes "interval" ∷ codes "exact" ∷ codes "bool" ∷ codes "sign" ∷ []

-- the names of the kinds: the declared sets follow the built-in kinds
abbrev pub kind_names : Declared → List (List ℕ)
kind_names d = built_in_kind_names ++ d.set_names

-- the word names the kind
abbrev pub NamesKind : Declared → List ℕ → Kind → Type 0
NamesKind d word kinds.Interval = place_of_name (kind_names d) word ≡ Some 0
NamesKind d word kinds.Exact = place_of_name (kind_names d) word ≡ Some 1
NamesKind d word (kinds.Members set) =
    (place_of_name (kind_names d) word ≡ Some (set.number + 2))
    × (length (members_of d set.number) ≡ set.size)

-- the words name these kinds, one each
abbrev pub NameKinds : Declared → List (List ℕ) → List Kind → Type 0
NameKinds d [] [] = Unit {0}
NameKinds d (word ∷ words) (kind ∷ kinds) = NamesKind d word kind × NameKinds d words kinds
NameKinds d words kinds = ⊥

-- the callable of this name, if there is one: a procedure, or a compound that has ended
abbrev pub callable_named : Declared → List ℕ → Option Callable
callable_named d word =
    option_or (option_map callables.Stored (place_of_name (map (λ procedure.
    procedure.name) d.procedures) word))
    (option_map callables.Compound (place_of_name d.compound_names word))

-- the callable exists
abbrev pub IsCallable : Declared → Callable → Type 0
IsCallable d callable = IsThere d.procedures d.compounds callable

-- the callable takes cells of these kinds
abbrev pub Takes : Declared → Callable → List Kind → Type 0
Takes d callable kinds = AcceptsKinds d.procedures d.compounds callable kinds

-- ---- lines

-- what a line of a declaration says, by its words: nothing is looked up yet. A compound begins with
-- alternating names and kinds of its parameters; the last three forms are lines of a compound
pub data DeclarationSentence : Type 0 where
  Header : (version : Version) → DeclarationSentence
  User : (name : List ℕ) → DeclarationSentence
  Premise : (name : List ℕ) → DeclarationSentence
  PremiseOf : (name user : List ℕ) → DeclarationSentence
  Set : (name : List ℕ) (members : List (List ℕ)) → DeclarationSentence
  Cell : (name kind : List ℕ) → DeclarationSentence
  Begin : (name : List ℕ) (parameters : List (List ℕ)) → DeclarationSentence
  Local : (name kind : List ℕ) → DeclarationSentence
  Call : (callable : List ℕ) (arguments : List (List ℕ)) → DeclarationSentence
  End : DeclarationSentence

-- the words alternate between names and kinds, and the names are names
abbrev pub AreParameters : List (List ℕ) → Type 0
AreParameters [] = Unit {0}
AreParameters (name ∷ []) = ⊥
AreParameters (name ∷ kind ∷ words) = IsName name × AreParameters words

-- the names among alternating names and kinds
abbrev pub parameter_names : List (List ℕ) → List (List ℕ)
parameter_names (name ∷ kind ∷ words) = name ∷ parameter_names words
parameter_names words = []

-- the kinds among alternating names and kinds
abbrev pub parameter_kinds : List (List ℕ) → List (List ℕ)
parameter_kinds (name ∷ kind ∷ words) = kind ∷ parameter_kinds words
parameter_kinds words = []

-- outside a compound, the words form the sentence, and its new names are names
abbrev pub IsOuterSentence : List (List ℕ) → DeclarationSentence → Type 0
IsOuterSentence words (User name) = (words ≡ codes "user" ∷ name ∷ []) × IsName name
IsOuterSentence words (Premise name) = (words ≡ codes "premise" ∷ name ∷ []) × IsName name
IsOuterSentence words (PremiseOf name user) = (words
    ≡ codes "premise" ∷ name ∷ codes "of" ∷ user ∷ []) × IsName name
IsOuterSentence words (Set name members) = (words ≡ codes "set" ∷ name ∷ members) × IsName name
    × All IsName members
IsOuterSentence words (Cell name kind) = (words ≡ codes "cell" ∷ name ∷ kind ∷ []) × IsName name
IsOuterSentence words (Begin name parameters) = (words ≡ codes "compound" ∷ name ∷ parameters)
    × IsName name × AreParameters parameters
IsOuterSentence words sentence = ⊥

-- inside a compound: a first word that is neither `local` nor `end` begins a call, which has one or
-- more arguments
abbrev pub IsInnerSentence : List (List ℕ) → DeclarationSentence → Type 0
IsInnerSentence words (Local name kind) = (words ≡ codes "local" ∷ name ∷ kind ∷ []) × IsName name
IsInnerSentence words (Call callable arguments) =
    (words ≡ callable ∷ arguments) × (callable ≢ codes "local") × (callable ≢ codes "end")
    × (arguments ≢ [])
IsInnerSentence words End = words ≡ codes "end" ∷ []
IsInnerSentence words sentence = ⊥

-- ---- what was declared so far

-- a compound that has begun and not ended: its name, the names of its parameters and then of its
-- private cells so far, and the compound so far
pub record OpenCompound : Type 0 where
  pub name : List ℕ
  pub names : List (List ℕ)
  pub compound : Compound

-- what was declared before a line, and the place of the line: before the header, where only the
-- prelude is declared, outside a compound, or inside one
pub data SoFar : Type 0 where
  BeforeHeader : (d : Declared) → SoFar
  Outside : (d : Declared) → SoFar
  Inside : (d : Declared) (opened : OpenCompound) → SoFar

-- at this place, the words form the sentence. The header comes once, before every other line
abbrev pub IsSentenceAt : SoFar → List (List ℕ) → DeclarationSentence → Type 0
IsSentenceAt (BeforeHeader d) words (Header version) = words
    ≡ codes "workbench" ∷ version_word version ∷ []
IsSentenceAt (BeforeHeader d) words sentence = ⊥
IsSentenceAt (Outside d) words sentence = IsOuterSentence words sentence
IsSentenceAt (Inside d opened) words sentence = IsInnerSentence words sentence

-- in this version
abbrev pub with_version : Declared → Version → Declared
with_version d version = record d { version = version }

-- with one more user
abbrev pub with_user : Declared → List ℕ → Declared
with_user d name = record d { users = d.users ++ name ∷ [] }

-- with one more premise, which belongs to a user or to none
abbrev pub with_premise : Declared → List ℕ → Option ℕ → Declared
with_premise d name owner = record d {
  premises = d.premises ++ name ∷ [];
  owners = d.owners
      ++ owner ∷ [];
}

-- with one more cell
abbrev pub with_cell : Declared → List ℕ → Kind → Declared
with_cell d name kind = record d { cells = d.cells ++ name ∷ []; kinds = d.kinds ++ kind ∷ [] }

-- with one more set kind
abbrev pub with_set : Declared → List ℕ → List (List ℕ) → Declared
with_set d name members = record d {
  set_names = d.set_names ++ name ∷ [];
  sets = d.sets
      ++ members ∷ [];
}

-- with one more compound
abbrev pub with_compound : Declared → List ℕ → Compound → Declared
with_compound d name compound =
    record d {
      compound_names = d.compound_names ++ name ∷ [];
      compounds = d.compounds
          ++ compound ∷ [];
    }

-- a compound of this name has begun, with parameters of these names and kinds
abbrev pub begun : List ℕ → List (List ℕ) → List Kind → OpenCompound
begun name names kinds = record {
  name = name;
  names = names;
  compound =
      record { parameters = kinds; steps = [] };
}

-- the open compound with one more private cell
abbrev pub with_local : OpenCompound → List ℕ → Kind → OpenCompound
with_local opened name kind =
    record opened {
      names = opened.names ++ name ∷ [];
      compound =
          with_step opened.compound (NewCell kind);
    }

-- the open compound with one more call
abbrev pub with_call : OpenCompound → Callable → List ℕ → OpenCompound
with_call opened callable places = record opened {
  compound =
      with_step opened.compound (CallOn callable places);
}

-- the places of the cells that the words name
abbrev pub places_of : OpenCompound → List (List ℕ) → List ℕ
places_of opened words = filter_map (place_of_name opened.names) words

-- after what was declared so far, the sentence makes this
abbrev pub Makes : SoFar → DeclarationSentence → SoFar → Type 0
Makes (BeforeHeader d) (Header version) after = after ≡ Outside (with_version d version)
Makes (Outside d) (User name) after = after ≡ Outside (with_user d name)
Makes (Outside d) (Premise name) after = after ≡ Outside (with_premise d name None)
Makes (Outside d) (PremiseOf name user) after =
    (owner : ℕ) × (place_of_name d.users user ≡ Some owner)
    × (after ≡ Outside (with_premise d name (Some owner)))
Makes (Outside d) (Set name members) after = after ≡ Outside (with_set d name members)
Makes (Outside d) (Cell name word) after = (kind : Kind) × NamesKind d word kind
    × (after ≡ Outside (with_cell d name kind))
Makes (Outside d) (Begin name parameters) after =
    (kinds : List Kind) × NameKinds d (parameter_kinds parameters) kinds
    × (after ≡ Inside d (begun name (parameter_names parameters) kinds))
Makes (Inside d opened) (Local name word) after = (kind : Kind) × NamesKind d word kind
    × (after ≡ Inside d (with_local opened name kind))
Makes (Inside d opened) (Call word arguments) after =
    (callable : Callable) × (callable_named d word ≡ Some callable)
    × (after ≡ Inside d (with_call opened callable (places_of opened arguments)))
Makes (Inside d opened) End after = after ≡ Outside (with_compound d opened.name opened.compound)
Makes so_far sentence after = ⊥

-- nothing is declared yet
abbrev pub DeclaresNothing : Declared → Type 0
DeclaresNothing d = d ≡ nothing_declared d.procedures
