-- The reading of a line of a transcript: it is blank, it is refused, or it says a command.
use Rattle.std.specs.Prelude.{◌≡◌, ℕ, ◌<◌, ◌≤◌, ◌==◌, Bool, true, false, List, [], ◌∷◌, length}
use Rattle.std.specs.Prelude.{Option, Some, None, is_some, Result, Ok, Err, All, map}
use Rattle.std.specs.List.{list_all, filter_map}
use Rattle.std.specs.FinSet.{from_list}
use Rattle.pw_info.specs.declared.info.Info.{Info}
use Rattle.pw_info.specs.Spelling.{SpellsInfo}
use Rattle.pw_procs.specs.Registering.{place_of_name}
use Rattle.pw_procs.specs.declared.arguments.Arguments.{Arguments}
use Rattle.pw_procs.specs.Registry.{cells_of}
use Rattle.pw_procs.specs.inside.Shapes.{most_arguments}
use Rattle.pw_decl.specs.declared.step.Callable.{Callable}
use Rattle.pw_decl.specs.Compound.{kinds_at}
use Rattle.pw_reasons.specs.Combinations.{groups_of}
use Rattle.pw_reasons.specs.Groups.{AreGroups, all_of, most_groups, most_in_a_group}
use Rattle.pw_reasons.specs.declared.groups.Groups.{Groups}
use Rattle.pw_sessions.specs.declared.command.Command.{Command}
use Rattle.pw_sessions.specs.declared.command.Command.TheVariants as commands
use Rattle.pw_sessions.specs.declared.reply.Refusal.{Refusal}
use Rattle.pw_sessions.specs.declared.reply.Refusal.TheVariants as refusal
use Rattle.pw_sessions.specs.Reply.{LineReading, Blank, Refused, Says}
use Rattle.pw_premises.specs.Premises.{Premises}
use Rattle.pw_info.specs.Lines.{IsFirstIn, HoldsOfNone}
use Rattle.pw_decl.specs.Declaration.{Declared, Takes, callable_named, owner_of, kind_at}
use Rattle.pw_decl.specs.Declaration.{members_of}
use Rattle.pw_transcript.specs.Limits.{most_command_bytes}
use Rattle.pw_transcript.specs.Sentence.{Said, Tell, Attach, Believe, Doubt, Beliefs, Ask, Why}
use Rattle.pw_transcript.specs.Sentence.{Choose, Conflicts, Other, Sentence, IsSentence}
use Rattle.pw_info.specs.Words.{words_of, is_idle, is_allowed}

-- ---- names in the declaration

-- the word names a premise
abbrev pub is_known : Declared → List ℕ → Bool
is_known d word = is_some (place_of_name d.premises word)

-- the user is this owner, or there is no owner
abbrev pub is_owner : ℕ → Option ℕ → Bool
is_owner user None = true
is_owner user (Some owner) = owner == user

-- the user may use the premise of this place, if there is one: it belongs to no user, or to this one
abbrev pub may_use_at : Declared → ℕ → Option ℕ → Bool
may_use_at d user None = true
may_use_at d user (Some premise) = is_owner user (owner_of d premise)

-- the user may tell or attach under the premise that the word names
abbrev pub may_use : Declared → ℕ → List ℕ → Bool
may_use d user word = may_use_at d user (place_of_name d.premises word)

-- the premises that the words name
abbrev pub premises_of : Declared → List (List ℕ) → Premises
premises_of d words = from_list (filter_map (place_of_name d.premises) words)

-- the word names a cell
abbrev pub is_cell : Declared → List ℕ → Bool
is_cell d word = is_some (place_of_name d.cells word)

-- the cells that the words name
abbrev pub cells_named : Declared → List (List ℕ) → List ℕ
cells_named d words = filter_map (place_of_name d.cells) words

-- the arguments are these cells. The second part, that nine places hold the numbers, is true of all
-- arguments in the code: so no others have the same cells
abbrev pub HoldsCells : Arguments → List ℕ → Type 0
HoldsCells arguments cells = (cells_of arguments ≡ cells) × (length arguments.held ≡ most_arguments)

-- the premises that the names name, in order
abbrev pub premises_named : Declared → List (List ℕ) → List ℕ
premises_named d names = filter_map (place_of_name d.premises) names

-- the same for each group
abbrev pub premise_groups : Declared → List (List (List ℕ)) → List (List ℕ)
premise_groups d groups = map (premises_named d) groups

-- The groups are these. The other parts, that six places hold groups and four places the numbers
-- of each, are true of all groups in the code: so no others are the same groups
abbrev pub HoldsGroups : Groups → List (List ℕ) → Type 0
HoldsGroups held groups =
    (groups_of held ≡ groups) × (length held.held ≡ most_groups)
    × All (λ group. length group.held ≡ most_in_a_group) held.held

-- ---- sentences

-- the words of this user mean the command: each word names what the command has there
abbrev pub MeansFor : Declared → ℕ → Said → Command → Type 0
MeansFor d user (Tell cell_word info_word words) command =
    (cell : ℕ) × (info : Info) × (place_of_name d.cells cell_word ≡ Some cell)
    × SpellsInfo (members_of d) info_word (kind_at d cell) info
    × (command ≡ commands.Tell user cell (record { info = info; support = premises_of d words }))
MeansFor d user (Attach callable_word cell_words words) command =
    (callable : Callable) × (cells : Arguments) × (callable_named d callable_word ≡ Some callable)
    × (list_all (is_cell d) cell_words ≡ true) × HoldsCells cells (cells_named d cell_words)
    × Takes d callable (kinds_at d.kinds (cells_of cells))
    × (command ≡ commands.Attach user callable cells (premises_of d words))
MeansFor d user (Believe words) command = command ≡ commands.Believe user (premises_of d words)
MeansFor d user (Doubt words) command = command ≡ commands.Doubt user (premises_of d words)
MeansFor d user Beliefs command = command ≡ commands.Beliefs user
MeansFor d user (Ask cell_word) command =
    (cell : ℕ) × (place_of_name d.cells cell_word ≡ Some cell) × (command ≡ commands.Ask user cell)
MeansFor d user (Why cell_word) command =
    (cell : ℕ) × (place_of_name d.cells cell_word ≡ Some cell) × (command ≡ commands.Why user cell)
MeansFor d user Conflicts command = command ≡ commands.Conflicts user
MeansFor d user (Choose groups) command =
    (held : Groups) × HoldsGroups held (premise_groups d groups)
    × (command ≡ commands.Choose user held)
MeansFor d user Other command = ⊥

-- the sentence means the command: its first word names the user, and the other words mean the
-- command for this user
abbrev pub Means : Declared → Sentence → Command → Type 0
Means d sentence command = (user : ℕ) × (place_of_name d.users sentence.user ≡ Some user)
    × MeansFor d user sentence.said command

-- the words that name premises
abbrev pub premise_words_of : Said → List (List ℕ)
premise_words_of (Tell cell info premises) = premises
premise_words_of (Attach callable cells premises) = premises
premise_words_of (Believe premises) = premises
premise_words_of (Doubt premises) = premises
premise_words_of (Choose groups) = all_of groups
premise_words_of said = []

-- there is no such command
abbrev pub HasUnknownCommand : Said → Type 0
HasUnknownCommand Other = Unit {0}
HasUnknownCommand said = ⊥

-- a word that stands for a cell names none
abbrev pub HasUnknownCell : Declared → Said → Type 0
HasUnknownCell d (Tell cell info premises) = place_of_name d.cells cell ≡ None
HasUnknownCell d (Attach callable cells premises) = list_all (is_cell d) cells ≡ false
HasUnknownCell d (Ask cell) = place_of_name d.cells cell ≡ None
HasUnknownCell d (Why cell) = place_of_name d.cells cell ≡ None
HasUnknownCell d said = ⊥

-- the word names neither a procedure nor a compound
abbrev pub HasUnknownProcedure : Declared → Said → Type 0
HasUnknownProcedure d (Attach callable cells premises) = callable_named d callable ≡ None
HasUnknownProcedure d said = ⊥

-- the word spells no information of the cell's kind
abbrev pub HasWrongInformation : Declared → Said → Type 0
HasWrongInformation d (Tell cell_word info_word premises) =
    (cell : ℕ) × (place_of_name d.cells cell_word ≡ Some cell)
    × ((info : Info) → SpellsInfo (members_of d) info_word (kind_at d cell) info → ⊥)
HasWrongInformation d said = ⊥

-- the callable does not take cells of these kinds, or this number of cells; or what stands to be
-- chosen from are too many groups, too many names in one, or names of which one stands twice
abbrev pub HasWrongArguments : Declared → Said → Type 0
HasWrongArguments d (Attach callable_word cells premises) =
    (callable : Callable) × (callable_named d callable_word ≡ Some callable)
    × (Takes d callable (kinds_at d.kinds (cells_named d cells)) → ⊥)
HasWrongArguments d (Choose groups) = AreGroups groups → ⊥
HasWrongArguments d said = ⊥

-- a word that stands for a premise names none
abbrev pub HasUnknownPremise : Declared → Said → Type 0
HasUnknownPremise d said = list_all (is_known d) (premise_words_of said) ≡ false

-- a tell or an attach by this user under a premise of another user
abbrev pub HasAnothersPremise : Declared → ℕ → Said → Type 0
HasAnothersPremise d user (Tell cell info premises) = list_all (may_use d user) premises ≡ false
HasAnothersPremise d user (Attach callable cells premises) = list_all (may_use d user) premises
    ≡ false
HasAnothersPremise d user said = ⊥

-- the condition of each refusal on a sentence
abbrev pub RefusalAppliesTo : Declared → Sentence → Refusal → Type 0
RefusalAppliesTo d sentence refusal.UnknownUser = place_of_name d.users sentence.user ≡ None
RefusalAppliesTo d sentence refusal.UnknownCommand = HasUnknownCommand sentence.said
RefusalAppliesTo d sentence refusal.UnknownCell = HasUnknownCell d sentence.said
RefusalAppliesTo d sentence refusal.WrongInformation = HasWrongInformation d sentence.said
RefusalAppliesTo d sentence refusal.UnknownProcedure = HasUnknownProcedure d sentence.said
RefusalAppliesTo d sentence refusal.WrongArguments = HasWrongArguments d sentence.said
RefusalAppliesTo d sentence refusal.UnknownPremise = HasUnknownPremise d sentence.said
RefusalAppliesTo d sentence refusal.NotYourPremise =
    (user : ℕ) × (place_of_name d.users sentence.user ≡ Some user)
    × HasAnothersPremise d user sentence.said
RefusalAppliesTo d sentence refusal.Syntax = ⊥
RefusalAppliesTo d sentence refusal.LineTooLong = ⊥
RefusalAppliesTo d sentence refusal.Memory = ⊥

-- the refusals of a sentence, in the order in which they are tried
abbrev pub sentence_refusals : List Refusal
sentence_refusals =
    refusal.UnknownUser ∷ refusal.UnknownCommand ∷ refusal.UnknownCell ∷ refusal.UnknownProcedure ∷
    refusal.WrongInformation
    ∷ refusal.WrongArguments ∷ refusal.UnknownPremise ∷ refusal.NotYourPremise ∷ []

-- no refusal applies to the sentence
abbrev pub IsUnrefused : Declared → Sentence → Type 0
IsUnrefused d sentence = HoldsOfNone (RefusalAppliesTo d sentence) sentence_refusals

-- this is the first refusal that applies to the sentence
abbrev pub IsRefusedWith : Declared → Sentence → Refusal → Type 0
IsRefusedWith d sentence refusal = IsFirstIn (RefusalAppliesTo d sentence) sentence_refusals refusal

-- ---- lines

-- the line says the sentence
abbrev pub SaysSentence : List ℕ → Sentence → Type 0
SaysSentence line sentence = (is_idle line ≡ false) × (list_all is_allowed line ≡ true)
    × IsSentence (words_of line) sentence

-- the condition of a refusal on what the line says
abbrev pub RefusalAppliesToLine : Declared → List ℕ → Refusal → Type 0
RefusalAppliesToLine d line refusal = (sentence : Sentence) × SaysSentence line sentence
    × RefusalAppliesTo d sentence refusal

-- the condition of each refusal on a line
abbrev pub RefusalApplies : Declared → List ℕ → Refusal → Type 0
RefusalApplies d line refusal.LineTooLong = most_command_bytes < length line
RefusalApplies d line refusal.Syntax = (is_idle line ≡ false)
    × ((sentence : Sentence) → SaysSentence line sentence → ⊥)
RefusalApplies d line refusal = RefusalAppliesToLine d line refusal

-- the refusals of a line, in the order in which they are tried; out of memory is not a refusal of
-- the line itself
abbrev pub line_refusals : List Refusal
line_refusals = refusal.LineTooLong ∷ refusal.Syntax ∷ sentence_refusals

-- blank lines and comments of at most 1,024 bytes are blank; a line to which some refusal applies
-- is refused for the first of them; any other line says what its sentence means
abbrev pub Reads : Declared → List ℕ → LineReading → Type 0
Reads d line Blank = (length line ≤ most_command_bytes) × (is_idle line ≡ true)
Reads d line (Refused refusal) = IsFirstIn (RefusalApplies d line) line_refusals refusal
Reads d line (Says command) =
    HoldsOfNone (RefusalApplies d line) line_refusals
    × ((sentence : Sentence) × SaysSentence line sentence × Means d sentence command)

-- the answer of `read_command`, as a reading
abbrev pub reading_of : Result (Option Command) Refusal → LineReading
reading_of (Ok None) = Blank
reading_of (Ok (Some command)) = Says command
reading_of (Err refusal) = Refused refusal

-- each of the words names a cell
abbrev pub all_cells : Declared → List (List ℕ) → Bool
all_cells d words = list_all (is_cell d) words

-- each of the words names a premise
abbrev pub all_known : Declared → List (List ℕ) → Bool
all_known d words = list_all (is_known d) words
