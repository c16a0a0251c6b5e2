-- The form of a command line: the user, and the words of the command by their roles. No names are
-- looked up.
use Rattle.std.specs.Prelude.{◌≡◌, ◌≢◌, ℕ, ◌<◌, List, [], ◌∷◌, ◌++◌, length, codes, map}
use Rattle.std.specs.List.{AllByRecursion}
use Rattle.pw_transcript.specs.GroupNames.{IsNameGroup, text_of_group}

-- the words of a command, by their roles
pub data Said : Type 0 where
  Tell : (cell info : List ℕ) (premises : List (List ℕ)) → Said
  Attach : (callable : List ℕ) (cells premises : List (List ℕ)) → Said
  Believe : (premises : List (List ℕ)) → Said
  Doubt : (premises : List (List ℕ)) → Said
  Beliefs : Said
  Ask : (cell : List ℕ) → Said
  Why : (cell : List ℕ) → Said
  Conflicts : Said
  Choose : (groups : List (List (List ℕ))) → Said
  Other : Said

-- the content of a line: the user, and the command
pub record Sentence : Type 0 where
  pub user : List ℕ
  pub said : Said

-- the words that name commands
abbrev pub command_names : List (List ℕ)
command_names =
    codes "tell" ∷ codes "attach" ∷ codes "believe" ∷ codes "doubt" ∷ codes "beliefs" ∷ codes "ask"
    ∷ codes "why"
    ∷ codes "conflicts" ∷ codes "choose" ∷ []

-- the word names no command
abbrev pub NamesNoCommand : List ℕ → Type 0
NamesNoCommand word = AllByRecursion (λ name. word ≢ name) command_names

-- the end of a tell or of an attach: nothing if it has no premise, and otherwise the word `under`
-- and the premises
abbrev pub IsUnder : List (List ℕ) → List (List ℕ) → Type 0
IsUnder tail [] = tail ≡ []
IsUnder tail (premise ∷ premises) = tail ≡ codes "under" ∷ premise ∷ premises

-- none of the words is `under`: the first `under` after the callable ends the cells of an attach
abbrev pub AreNoUnder : List (List ℕ) → Type 0
AreNoUnder words = AllByRecursion (λ word. word ≢ codes "under") words

-- the command given by the words after the user; if the first of them names no command it is
-- `Other`, with any words after it. The first `under` after the callable ends the cells of an
-- attach, so none of them is that word
abbrev pub IsSaid : List (List ℕ) → Said → Type 0
IsSaid words (Tell cell info premises) =
    (tail : List (List ℕ)) × (words ≡ codes "tell" ∷ cell ∷ info ∷ tail) × IsUnder tail premises
IsSaid words (Attach callable cells premises) =
    (tail : List (List ℕ)) × (words ≡ codes "attach" ∷ callable ∷ cells ++ tail)
    × (0 < length cells)
    × AllByRecursion (λ word. word ≢ codes "under") cells × IsUnder tail premises
IsSaid words (Believe premises) = (words ≡ codes "believe" ∷ premises) × (0 < length premises)
IsSaid words (Doubt premises) = (words ≡ codes "doubt" ∷ premises) × (0 < length premises)
IsSaid words Beliefs = words ≡ codes "beliefs" ∷ []
IsSaid words (Ask cell) = words ≡ codes "ask" ∷ cell ∷ []
IsSaid words (Why cell) = words ≡ codes "why" ∷ cell ∷ []
IsSaid words Conflicts = words ≡ codes "conflicts" ∷ []
IsSaid words (Choose groups) =
    (words ≡ codes "choose" ∷ map text_of_group groups) × (0 < length groups)
    × AllByRecursion IsNameGroup groups
IsSaid words Other =
    (word : List ℕ) × (rest : List (List ℕ)) × (words ≡ word ∷ rest)
    × AllByRecursion (λ name. word ≢ name) command_names

-- the words are the sentence: first its user, and then the command
abbrev pub IsSentence : List (List ℕ) → Sentence → Type 0
IsSentence words sentence = (rest : List (List ℕ)) × (words ≡ sentence.user ∷ rest)
    × IsSaid rest sentence.said
