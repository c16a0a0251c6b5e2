-- The names of a group of premises: a word, cut at each '|'.
use Rattle.std.specs.Prelude.{◌==◌, ℕ, List, [], Option, None, Some}
use Rattle.std.specs.Borrow.{Bor}
use Rattle.std.specs.List.{slice_split}
use Rattle.pw_info.specs.Bytes.{bar}

-- the names in a word: the parts between its bars; some may be empty
abbrev pub names_in : List ℕ → List (List ℕ)
names_in word = slice_split (λ byte. byte == bar) word

-- the names in what is left of a word; none if nothing is left
abbrev pub names_left : Option (Bor (List ℕ)) → List (List ℕ)
names_left None = []
names_left (Some word) = names_in word.now
