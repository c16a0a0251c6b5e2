-- What contracts use of an input over a reader.
use Rattle.std.specs.Prelude.{◌≡◌, ℕ, List, Option, Bool, IfSome}
use Rattle.std.specs.Io.KnownBytes.{Consumes, IsAtEnd}
use Rattle.pw_transcript.specs.declared.input.Reading.{Reading}

-- the reader of an input
abbrev pub reader_of : {R : Type 0} → Reading R → R
reader_of i = i.inner

-- whether a take from an input has failed
abbrev pub reader_failed : {R : Type 0} → Reading R → Bool
reader_failed i = i.failed

-- whether a take from an input has answered the end
abbrev pub reader_ended : {R : Type 0} → Reading R → Bool
reader_ended i = i.ended

module _ {R : Type 0} (remaining : R → Option (List ℕ)) where
  -- if the reader's bytes are known, they begin with the bytes that are taken, and lose them
  abbrev pub ReaderTakes : Reading R → List ℕ → Reading R → Type 0
  ReaderTakes old bytes new = Consumes (remaining (reader_of old)) (remaining (reader_of new)) bytes

  -- if the reader's bytes are known, none remains
  abbrev pub NothingRemains : Reading R → Type 0
  NothingRemains i = IsAtEnd (remaining (reader_of i))

  -- if the reader's bytes are known, these are all of them
  abbrev pub IsAllOf : Reading R → List ℕ → Type 0
  IsAllOf i bytes = IfSome (remaining (reader_of i)) (λ text. bytes ≡ text)
