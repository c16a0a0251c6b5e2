-- The names of a group, cut at its bars.
use Rattle.std.proofs.Common.{◌≡◌, ◌≢◌, ℕ, suc, false, List, [], ◌∷◌, ◌++◌, refl, arith, slice_index, EachIndex}
use Rattle.std.specs.Prelude.{◌==◌}
use Rattle.std.specs.List.{AllByRecursion}
use Rattle.std.proofs.lemmas.Bool.{ne_eqb}
use Rattle.std.proofs.lemmas.List.Elements.{All-from_recursion}
use Rattle.std.proofs.lemmas.List.Splits.{slice_split_at, slice_split_none}
use Rattle.pw_info.specs.Bytes.{bar}
use Rattle.pw_info.specs.GroupNames.{names_in}

abbrev IsNoBar : ℕ → Type 0
IsNoBar byte = (byte == bar) ≡ false

no_bars : (text : List ℕ) → EachIndex text (λ k. slice_index text k ≢ bar) → AllByRecursion IsNoBar text
no_bars [] clear = tt
no_bars (byte ∷ text) clear = (ne_eqb byte bar (clear 0 (omega arith)), no_bars text (λ k within. clear (suc k) (omega arith)))

-- a word without '|' is one name
pub one_name : (word : List ℕ) → EachIndex word (λ k. slice_index word k ≢ bar) → names_in word ≡ word ∷ []
one_name word clear = slice_split_none (λ byte. byte == bar) word (All-from_recursion IsNoBar word (no_bars word clear))

-- the part before the first '|' is the first name, and the others are in the part after it
pub first_name : (name rest : List ℕ) → EachIndex name (λ k. slice_index name k ≢ bar) → names_in (name ++ (bar ∷ rest)) ≡ name ∷ names_in rest
first_name name rest clear = slice_split_at (λ byte. byte == bar) name bar rest (All-from_recursion IsNoBar name (no_bars name clear)) refl
