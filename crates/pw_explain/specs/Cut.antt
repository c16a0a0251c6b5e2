-- A text, cut at a line.
use Rattle.std.specs.Prelude.{◌≡◌, ◌≤◌, ◌<◌, ◌-◌, ◌⊎◌, ◌++◌, ◌∷◌, [], List, ℕ, Bool, ◌&&◌, length, not}
use Rattle.std.specs.List.{AllByRecursion, list_all}
use Rattle.pw_info.specs.Bytes.{line_feed}
use Rattle.pw_info.specs.Lines.{HasNoEnd, lines_of, text_of_lines}
use Rattle.pw_info.specs.Words.{is_idle, words_of}
use Rattle.pw_explain.specs.declared.cut.Cut.{Cut}

-- the bytes are this many lines, each with its line feed
pub record AreWholeLines (number : ℕ) (bytes : List ℕ) : Type 0 where
  pub lines : List (List ℕ)
  pub many : length lines ≡ number
  pub have_no_end : AllByRecursion HasNoEnd lines
  pub are : bytes ≡ text_of_lines lines []

-- the rest of the text, which is not empty, is cut after its first line
pub record IsCutOf (rest : List ℕ) (cut : Cut) : Type 0 where
  pub some : rest ≡ [] → ⊥
  pub is : rest ≡ cut.line.now ++ cut.after.now
  pub has_no_end : HasNoEnd cut.line.now
  pub next : (cut.after.now ≡ []) ⊎ ((later : List ℕ) × (cut.after.now ≡ line_feed ∷ later))

-- the text is cut at the line of this number, from 1: the lines before it, and the rest from it on
pub record IsCutAt (text : List ℕ) (number : ℕ) (cut : Cut) : Type 0 where
  pub first : 1 ≤ number
  pub before : AreWholeLines (number - 1) cut.before.now
  pub rest : List ℕ
  pub is : text ≡ cut.before.now ++ rest
  pub from_line : IsCutOf rest cut

-- the text has no line of this number, from 1
abbrev pub HasNoLine : List ℕ → ℕ → Type 0
HasNoLine text number = (number ≡ 0) ⊎ (length (lines_of text) < number)

-- the line is neither blank nor a comment, and the lines before it are all
abbrev pub is_header : List (List ℕ) → List ℕ → Bool
is_header before line = not (is_idle line) && list_all is_idle before

-- the word is the first one of the line
abbrev pub BeginsWithWord : List ℕ → List ℕ → Type 0
BeginsWithWord word line = (words : List (List ℕ)) × (words_of line ≡ word ∷ words)

-- the rest of the bytes begins after one of their line feeds, or there is no rest
pub record IsRestOf (bytes rest : List ℕ) : Type 0 where
  pub before : List ℕ
  pub is : bytes ≡ before ++ rest
  pub ends : (rest ≡ []) ⊎ ((front : List ℕ) × (before ≡ front ++ line_feed ∷ []))
