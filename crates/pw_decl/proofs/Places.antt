-- The place of a name among names.
use Rattle.std.proofs.Common.{◌≡◌, ℕ, ◌+◌, ◌<◌, Bool, List, [], ◌∷◌, length, Some, None, inl, inr, arith}
use Rattle.std.specs.List.{position_from}
use Rattle.std.specs.Str.{bytes_eq}
use Rattle.std.proofs.lemmas.Bool.{cases_Bool}
use Rattle.pw_procs.specs.Registering.{place_of_name}

position_from-lt : {K : Type 0} (test : K → Bool) (start : ℕ) (ks : List K) (k : ℕ) → position_from test start ks ≡ Some k → k < start + length ks
position_from-lt test start [] k found = absurd (let e : None ≡ Some k = found in cc)
position_from-lt test start (x ∷ ks) k found =
    elim (cases_Bool (test x)) [
      | inl here ↦ let e : Some start ≡ Some k = rw here at found in let same : start ≡ k = cc in omega arith
      | inr past ↦ let h = position_from-lt test (start + 1) ks k (rw past at found) in omega arith
    ]

-- the place of a name is below their number
pub place_of_name-lt : (names : List (List ℕ)) (word : List ℕ) (k : ℕ) → place_of_name names word ≡ Some k → k < length names
place_of_name-lt names word k found = let h = position_from-lt (bytes_eq word) 0 names k found in omega arith
