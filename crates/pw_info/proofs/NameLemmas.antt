use Rattle.std.proofs.Common.{◌≡◌, ℕ, suc, zero, ◌<◌, true, false, List, [], ◌∷◌, refl, arith}
use Rattle.std.specs.List.{list_all, All}
use Rattle.std.proofs.lemmas.List.Elements.{All-nil, All-cons, All-head, All-tail}
use Rattle.std.proofs.lemmas.Bool.Decides.{nat_tests}
use Rattle.std.specs.Prelude.{Result, Ok, Err, MatchResult, MatchOption}
use Rattle.std.specs.Result.{result_ok}
use Rattle.std.specs.Borrow.{Bor}
use Rattle.std.specs.Str.{IsUtf8, IsAscii}
use Rattle.std.proofs.lemmas.Str.{IsUtf8-from_ascii}
use Rattle.pw_info.specs.Name.{IsName, is_name, is_name_byte}
use Rattle.pw_info.proofs.NameTests.{passed, passes}

-- words that pass the test are names
pub all_passed : (words : List (List ℕ)) → list_all is_name words ≡ true → All IsName words
all_passed [] e = All-nil IsName
all_passed (word ∷ words) e = All-cons IsName word words (passed word (grind (arith, nat_tests))) (all_passed words (grind (arith, nat_tests)))

-- names pass the test
pub all_pass : (words : List (List ℕ)) → All IsName words → list_all is_name words ≡ true
all_pass [] all = refl
all_pass (word ∷ words) all = rw (passes word (All-head IsName word words all), all_pass words (All-tail IsName word words all))

-- a byte of a name is an ASCII character
small : (b : ℕ) → is_name_byte b ≡ true → b < 128
small b e = grind (arith, nat_tests)

name_bytes-IsAscii : (word : List ℕ) → list_all is_name_byte word ≡ true → IsAscii word
name_bytes-IsAscii [] e i = omega arith
name_bytes-IsAscii (b ∷ word) e zero = small b (grind (arith, nat_tests))
name_bytes-IsAscii (b ∷ word) e (suc i) = name_bytes-IsAscii word (grind (arith, nat_tests)) i

-- a name is a text
name_is_text : (word : List ℕ) → is_name word ≡ true → IsUtf8 word
name_is_text word e = IsUtf8-from_ascii word (name_bytes-IsAscii word (passed word e).bytes)

pub as_text : {E : Type 0} (word : List ℕ) (r : Result (Bor (List ℕ)) E) (P : E → Type 0) → is_name word ≡ true →
    MatchResult r (λ text. (text.now ≡ word) × IsUtf8 word) (λ e. (IsUtf8 word → ⊥) × P e) →
    MatchOption (result_ok r) (is_name word ≡ false) (λ name. (is_name word ≡ true) × (name.now ≡ word))
as_text word (Ok text) P named h = (named, h.0)
as_text word (Err e) P named h = absurd (h.0 (name_is_text word named))
