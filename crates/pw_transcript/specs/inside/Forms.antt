-- The sentence that the words of a line form, as a function.
use Rattle.std.specs.Prelude.{◌≡◌, ℕ, ◌<◌, List, [], ◌∷◌, length, Option, None, Some, option_map}
use Rattle.std.specs.Prelude.{codes, if◌then◌else◌, map}
use Rattle.std.specs.List.{list_all}
use Rattle.std.specs.Str.{bytes_eq}
use Rattle.pw_info.specs.GroupNames.{names_in}
use Rattle.pw_transcript.specs.declared.sentence.TellWords.{TellWords}
use Rattle.pw_transcript.specs.declared.sentence.AttachWords.{AttachWords}
use Rattle.pw_transcript.specs.Sentence.{Said, Tell, Attach, Believe, Doubt, Beliefs, Ask, Why}
use Rattle.pw_transcript.specs.Sentence.{Choose, Conflicts, Other, Sentence}
use Rattle.pw_transcript.specs.inside.Grouping.{is_group_word}

-- the premises at the end of a tell or of an attach
abbrev pub under_form : List (List ℕ) → Option (List (List ℕ))
under_form [] = Some []
under_form (word ∷ []) = None
under_form (word ∷ premise ∷ premises) = if bytes_eq word (codes "under") then Some
    (premise ∷ premises) else None

-- the words after `tell`
abbrev pub tell_form : List (List ℕ) → Option Said
tell_form (cell ∷ info ∷ tail) = option_map (Tell cell info) (under_form tail)
tell_form rest = None

-- the words before the first `under`
abbrev pub before_under : List (List ℕ) → List (List ℕ)
before_under [] = []
before_under (word ∷ words) = if bytes_eq word (codes "under") then [] else word ∷ before_under
    words

-- the words from the first `under` on
abbrev pub from_under : List (List ℕ) → List (List ℕ)
from_under [] = []
from_under (word ∷ words) = if bytes_eq word (codes "under") then word ∷ words else from_under words

-- the first of the words is a cell of an attach, and these words are left: both the words before
-- the first `under` and the words from it on are found in them
pub record TakesCell (words : List (List ℕ)) (cell : List ℕ) (left : List (List ℕ)) : Type 0 where
  pub first : words ≡ cell ∷ left
  pub cells : before_under words ≡ cell ∷ before_under left
  pub rest : from_under words ≡ from_under left

-- the words after `attach`: at least one cell before the first `under`
abbrev pub attach_form : List (List ℕ) → Option Said
attach_form (callable ∷ cell ∷ rest) =
    if bytes_eq cell (codes "under") then None
    else option_map (Attach callable (cell ∷ before_under rest)) (under_form (from_under rest))
attach_form rest = None

-- the words after `believe` and after `doubt`: at least one premise
abbrev pub premises_form : (List (List ℕ) → Said) → List (List ℕ) → Option Said
premises_form says [] = None
premises_form says (premise ∷ premises) = Some (says (premise ∷ premises))

-- the words after `beliefs` and after `conflicts`: none
abbrev pub bare_form : Said → List (List ℕ) → Option Said
bare_form says [] = Some says
bare_form says rest = None

-- the words after `ask` and after `why`: a cell
abbrev pub cell_form : (List ℕ → Said) → List (List ℕ) → Option Said
cell_form says (cell ∷ []) = Some (says cell)
cell_form says rest = None

-- the words after `choose`: at least one group, and no empty name in a group
abbrev pub choose_form : List (List ℕ) → Option Said
choose_form [] = None
choose_form (word ∷ words) =
    if list_all is_group_word (word ∷ words) then Some (Choose (map names_in (word ∷ words))) else None

-- the command given by a word, and the words after it
abbrev pub said_form : List ℕ → List (List ℕ) → Option Said
said_form name rest =
    if bytes_eq name (codes "tell") then tell_form rest
    else (if bytes_eq name (codes "attach") then attach_form rest
    else (if bytes_eq name (codes "believe") then premises_form Believe rest
    else (if bytes_eq name (codes "doubt") then premises_form Doubt rest
    else (if bytes_eq name (codes "beliefs") then bare_form Beliefs rest
    else (if bytes_eq name (codes "ask") then cell_form Ask rest
    else (if bytes_eq name (codes "why") then cell_form Why rest
    else (if bytes_eq name (codes "conflicts") then bare_form Conflicts rest
    else (if bytes_eq name (codes "choose") then choose_form rest
    else Some Other))))))))

-- the sentence in which the user of this name says this
abbrev pub sentence_by : List ℕ → Said → Sentence
sentence_by user said = record { user = user; said = said }

-- the sentence of a line's words, if they fit a form
abbrev pub sentence_form : List (List ℕ) → Option Sentence
sentence_form (user ∷ name ∷ rest) = option_map (sentence_by user) (said_form name rest)
sentence_form words = None

-- what the words of a tell say
abbrev pub told_in : TellWords → Said
told_in words = Tell words.cell.now words.info.now words.premises

-- what the words of an attach say
abbrev pub attached_in : AttachWords → Said
attached_in words = Attach words.callable.now (before_under words.cells) words.premises

-- an attach has at least one cell
abbrev pub HasCells : Said → Type 0
HasCells (Attach callable cells premises) = 0 < length cells
HasCells said = Unit {0}
