-- What `list` prints of the text of a declaration.
use Rattle.std.specs.Prelude.{◌≡◌, ℕ, Bool, false, not, List, [], ◌∷◌, ◌++◌, codes, drop}
use Rattle.std.specs.Prelude.{filter, get_or, if◌then◌else◌, map}
use Rattle.std.specs.List.{flat_map}
use Rattle.std.specs.Str.{bytes_eq}
use Rattle.pw_info.specs.Bytes.{space}
use Rattle.pw_info.specs.Lines.{lines_of}
use Rattle.pw_info.specs.Words.{words_of, is_idle}
use Rattle.pw_procs.specs.Procedure.{Procedure}
use Rattle.pw_decl.specs.Declaration.{Declared}
use Rattle.pw_decl.specs.Faults.{SpellsDeclaration}
use Rattle.workbench.specs.declared.listing.Place.{Place}
use Rattle.workbench.specs.declared.listing.Place.TheVariants.{BeforeHeader, Outside, Inside}

-- a word after a space
abbrev pub after_space : List ℕ → List ℕ
after_space word = space ∷ word

-- words with a space between each two, and a line feed
abbrev pub text_of_words : List (List ℕ) → List ℕ
text_of_words [] = codes "\n"
text_of_words (word ∷ words) = word ++ (flat_map after_space words ++ codes "\n")

-- the first word is this one
abbrev pub begins_with : List ℕ → List (List ℕ) → Bool
begins_with word [] = false
begins_with word (first ∷ words) = bytes_eq first word

-- the place of the line after a line of these words, which stands outside compounds
abbrev pub place_after : List (List ℕ) → Place
place_after words = if begins_with (codes "compound") words then Inside else Outside

-- the place of the line after a line of these words, which stands inside a compound
abbrev pub place_within : List (List ℕ) → Place
place_within words = if begins_with (codes "end") words then Outside else Inside

-- of lines, by their words, the first of which stands at this place: those after the header that
-- stand outside compounds. The line that begins a compound stands outside it, and its `end` inside
abbrev pub outer_lines : Place → List (List (List ℕ)) → List (List (List ℕ))
outer_lines place [] = []
outer_lines BeforeHeader (words ∷ lines) = outer_lines Outside lines
outer_lines Outside (words ∷ lines) = words ∷ outer_lines (place_after words) lines
outer_lines Inside (words ∷ lines) = outer_lines (place_within words) lines

-- the words of those of the lines that are neither blank nor comments
abbrev pub spoken_in : List (List ℕ) → List (List (List ℕ))
spoken_in lines = map words_of (filter (λ line. not (is_idle line)) lines)

-- the lines of a text that declare something outside compounds, by their words
abbrev pub declaring_lines : List ℕ → List (List (List ℕ))
declaring_lines text = outer_lines BeforeHeader (spoken_in (lines_of text))

-- the listing of a text: those lines, with a space between each two words
abbrev pub text_of_listing : List ℕ → List ℕ
text_of_listing text = flat_map text_of_words (declaring_lines text)

-- ---- what the lines of a listing declare

-- the second words of those of the lines that begin with this word
abbrev pub names_after : List ℕ → List (List (List ℕ)) → List (List ℕ)
names_after word lines = map (λ words. get_or words 1 []) (filter (begins_with word) lines)

-- the names in the lines are all names of the declaration, in its order: of users, premises, set
-- kinds, cells, and compounds, of which the first three are built in; and after the name of a set
-- kind come those of its members
pub record NameAll (lines : List (List (List ℕ))) (d : Declared) : Type 0 where
  pub users : d.users ≡ names_after (codes "user") lines
  pub premises : d.premises ≡ names_after (codes "premise") lines
  pub sets : d.set_names ≡ names_after (codes "set") lines
  pub members : d.sets ≡ map (drop 2) (filter (begins_with (codes "set")) lines)
  pub cells : d.cells ≡ names_after (codes "cell") lines
  pub compounds : d.compound_names ≡ codes "sum" ∷ codes "product" ∷ codes "conditional" ∷
      names_after (codes "compound") lines

-- over the procedures the text spells a declaration, and the lines of its listing name all of it
abbrev pub IsListed : List Procedure → List ℕ → Type 0
IsListed procedures text =
    (d : Declared) × SpellsDeclaration procedures text d × NameAll (declaring_lines text) d
