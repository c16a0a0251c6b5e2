-- The laws of this crate that are longer than a line: each is the contract of a function in
-- `src/laws.rt`.
use Rattle.std.specs.Prelude.{◌≡◌, ◌≢◌, ◌↔◌, ◌&&◌, ◌<◌, ◌⊎◌, ℕ, ℤ, ◌≤ℤ◌, List}
use Rattle.std.specs.Fmt.{signed_decimal}
use Rattle.pw_info.specs.declared.info.Info.{Info}
use Rattle.pw_info.specs.Information.{kind_of, allows, meet}
use Rattle.pw_info.specs.Information.{Implies}
use Rattle.pw_info.specs.Lines.{AreLines, lines_of}
use Rattle.pw_info.specs.Number.{IsUpTo, SpellsNumber, greatest_number}
use Rattle.pw_info.specs.Number.{SpellsRange, text_of_range}
use Rattle.pw_info.specs.Rank.{rank_of}
use Rattle.pw_info.specs.SetNames.{SetNames, AllAreNames, IsNamed}
use Rattle.pw_info.specs.Spelling.{SpellsInfo, AtMostOne}
use Rattle.pw_info.specs.Text.{text_of_info}
use Rattle.pw_info.specs.Words.{AreWords, words_of}
use Rattle.pw_info.specs.declared.kind.Kind.{Kind}

-- a merge leaves possible what both informations leave possible
abbrev pub MergeAllowsWhatBothAllow : Type 0
MergeAllowsWhatBothAllow =
    (a b : Info) → kind_of a ≡ kind_of b →
    (v : ℤ) → allows (meet a b) v ≡ (allows a v && allows b v)

-- merges may be grouped in any way
abbrev pub MergeIsAssociative : Type 0
MergeIsAssociative =
    (a b c : Info) → kind_of a ≡ kind_of b → kind_of b ≡ kind_of c →
    meet (meet a b) c ≡ meet a (meet b c)

-- informations of one kind that imply each other are equal
abbrev pub ImplicationIsAntisymmetric : Type 0
ImplicationIsAntisymmetric =
    (a b : Info) → kind_of a ≡ kind_of b →
    Implies a b → Implies b a → a ≡ b

-- an information that says more has a lower rank
abbrev pub GainLowersTheRank : Type 0
GainLowersTheRank =
    (a b : Info) → kind_of a ≡ kind_of b →
    Implies a b → a ≢ b → rank_of a < rank_of b

-- one that says at least as much is the same or has a lower rank
abbrev pub SameOrLowerRank : Type 0
SameOrLowerRank =
    (a b : Info) → kind_of a ≡ kind_of b →
    Implies a b → (a ≡ b) ⊎ (rank_of a < rank_of b)

-- a number has one spelling
abbrev pub OneSpelling : Type 0
OneSpelling =
    (word : List ℕ) (n : ℤ) → IsUpTo greatest_number n →
    SpellsNumber word n → word ≡ signed_decimal n

-- what is written for a range spells it
abbrev pub WrittenRangeIsSpelled : Type 0
WrittenRangeIsSpelled =
    (lo hi : ℤ) → lo ≤ℤ hi → IsUpTo greatest_number lo → IsUpTo greatest_number hi →
    SpellsRange (text_of_range lo hi) lo hi

-- a word spells at most one information of a kind, where the members of each set have names
abbrev pub OneInformation : Type 0
OneInformation =
    (sets : SetNames) (word : List ℕ) (k : Kind) →
    AllAreNames sets → IsNamed sets k → AtMostOne (SpellsInfo sets word k)

-- what is written for an information spells it
abbrev pub TextIsASpelling : Type 0
TextIsASpelling =
    (sets : SetNames) (info : Info) →
    SpellsInfo sets (text_of_info sets info) (kind_of info) info

-- one list of lines makes up a text
abbrev pub LinesAreOneList : Type 0
LinesAreOneList =
    (text : List ℕ) (lines : List (List ℕ)) →
    AreLines text lines ↔ (lines ≡ lines_of text)

-- one list of words makes up a line, with blanks between them
abbrev pub WordsAreOneList : Type 0
WordsAreOneList =
    (line : List ℕ) (words : List (List ℕ)) →
    AreWords line words ↔ (words ≡ words_of line)
