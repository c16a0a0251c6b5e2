-- The limits of a run, and where a transcript exceeds them.
use Rattle.std.specs.Prelude.{ℕ, ◌+◌, ◌<◌, ◌≤◌, List, ◌++◌, length, take, ◌⊎◌}
use Rattle.pw_info.specs.Lines.{lines_of}

-- the greatest number of lines of a transcript that a run answers
abbrev pub most_lines : ℕ
most_lines = 1000000

-- the greatest number of bytes of a transcript that a run answers
abbrev pub most_bytes : ℕ
most_bytes = 67108864

-- the greatest number of bytes of a line that is not refused for its length
abbrev pub most_command_bytes : ℕ
most_command_bytes = 1024

-- the greatest number of bytes that a run takes at once
abbrev pub most_at_once : ℕ
most_at_once = 65536

-- a transcript has no more lines and no more bytes than a run answers
pub record IsWithinLimits (transcript : List ℕ) : Type 0 where
  pub lines : length (lines_of transcript) ≤ most_lines
  pub bytes : length transcript ≤ most_bytes

-- it has more lines, or more bytes
abbrev pub IsPastLimits : List ℕ → Type 0
IsPastLimits transcript = (most_lines < length (lines_of transcript))
    ⊎ (most_bytes < length transcript)

-- `within` is within the limits, and with the first byte of `past` it no longer is. The bytes past
-- the limits came with that byte: they are no more than a run takes at once.
pub record GoesPastLimits (within past : List ℕ) : Type 0 where
  pub is_within : IsWithinLimits within
  pub first_past : IsPastLimits (within ++ take 1 past)
  pub at_once : length past ≤ most_at_once
  pub in_all : length (within ++ past) ≤ most_bytes + 1
