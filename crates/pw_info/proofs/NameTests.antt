-- The test of a name is the definition of a name.
use Rattle.std.proofs.Common.{◌≡◌, ◌↔◌, ℕ, true, List, arith}
use Rattle.std.proofs.lemmas.Bool.Decides.{nat_tests}
use Rattle.pw_info.specs.Name.{IsName, is_name}

-- a word that passes the test is a name
pub passed : (word : List ℕ) → is_name word ≡ true → IsName word
unfolding is_name
passed word e = record {
  short = grind (arith, nat_tests);
  first = grind (arith, nat_tests);
  bytes = grind (arith, nat_tests);
  free = grind (arith, nat_tests);
}

-- a name passes the test
pub passes : (word : List ℕ) → IsName word → is_name word ≡ true
unfolding is_name
passes word name = grind (arith, nat_tests, name.short, name.first, name.bytes, name.free)

pub exact : (word : List ℕ) → (is_name word ≡ true) ↔ IsName word
exact word = (passed word, passes word)
