-- What is passed to an output between two moments: the whole of a text, or a front of it where the
-- output fails. And what is taken from an input between two moments.
use Rattle.std.specs.Prelude.{◌≡◌, ℕ, ◌<◌, ◌≤◌, Bool, true, false, List, [], length, take, Result}
use Rattle.std.specs.Prelude.{MatchResult}

-- a put that takes n bytes takes no more than there are, at least one of a non-empty slice, and
-- passes the first n; a put that fails passes none
abbrev pub PutPasses : {S E : Type 0} → (S → List ℕ → S → Type 0) → S → S → Result ℕ E → List ℕ →
    Type 0
PutPasses passes old new r bytes =
    MatchResult r (λ n. (n ≤ length bytes) × (0 < length bytes → 0 < n)
    × passes old (take n bytes) new) (λ _. passes old [] new)

-- a front of the text was passed between two moments
pub record PassesPart {S : Type 0} (passes : S → List ℕ → S → Type 0) (old new : S) (text : List ℕ)
    : Type 0 where
  pub count : ℕ
  pub within : count ≤ length text
  pub part : passes old (take count text) new

-- the text was passed, and an output that had not failed before has not failed
pub record IsPassed {S : Type 0} (passes : S → List ℕ → S → Type 0) (has_failed : S → Bool)
    (old new : S) (text : List ℕ) : Type 0 where
  pub passed : passes old text new
  pub works : has_failed old ≡ false → has_failed new ≡ false

-- a front of the text was passed, and the output has failed
pub record IsBrokenOff {S : Type 0} (passes : S → List ℕ → S → Type 0) (has_failed : S → Bool)
    (old new : S) (text : List ℕ) : Type 0 where
  pub front : PassesPart passes old new text
  pub failed : has_failed new ≡ true

-- a call writes a text: at Ok it is written, at Err broken off
abbrev pub Writes : {S T E : Type 0} → (S → List ℕ → S → Type 0) → (S → Bool) → S → S → Result T E →
    List ℕ → Type 0
Writes passes has_failed old new result text =
    MatchResult result (λ _. IsPassed passes has_failed old new text) (λ _.
    IsBrokenOff passes has_failed old new text)

-- a take that answers n gives no more than the buffer holds, and the bytes that it took are at the
-- front of the buffer; a take that fails takes nothing
abbrev pub TakeFills : {S E : Type 0} → (S → List ℕ → S → Type 0) → S → S → Result ℕ E → List ℕ →
    Type 0
TakeFills takes old new r buffer =
    MatchResult r (λ n. (n ≤ length buffer) × takes old (take n buffer) new) (λ _. takes old [] new)
