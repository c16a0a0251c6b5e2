-- The names in a word, and the word that they make.
use Rattle.std.proofs.Common.{◌≡◌, ◌≢◌, ℕ, ◌<◌, true, false, List, [], ◌∷◌, ◌++◌, length, not, Option, Some, None, refl, sym, ap, ◌∙◌, inl, inr, arith}
use Rattle.std.specs.Borrow.{Bor}
use Rattle.std.specs.Prelude.{MatchOption, ◌==◌}
use Rattle.std.specs.List.{AllByRecursion, list_all, onto_first}
use Rattle.std.proofs.lemmas.Bool.{and_from, and_parts, cases_Bool, eq-eqb, false≢true, ne_eqb}
use Rattle.std.proofs.lemmas.List.Elements.{All-from_recursion}
use Rattle.std.proofs.lemmas.List.Splits.{join_with_byte-slice_split, slice_split_at, slice_split_none}
use Rattle.pw_info.specs.Bytes.{bar}
use Rattle.pw_info.specs.GroupNames.{names_in}
use Rattle.pw_transcript.specs.GroupNames.{IsInGroup, IsNameGroup, text_of_group}
use Rattle.pw_transcript.specs.inside.Grouping.{all_names, has_bytes, is_group_word}

-- the byte is not '|'
abbrev IsNoBar : ℕ → Type 0
IsNoBar byte = (byte == bar) ≡ false

-- ---- a word is cut

-- a word without '|' is one name
one_name : (word : List ℕ) → AllByRecursion IsNoBar word → names_in word ≡ word ∷ []
one_name word clear = slice_split_none (λ byte. byte == bar) word (All-from_recursion IsNoBar word clear)

-- a word is a name without '|', and the names after the first '|'
first_name : (name rest : List ℕ) → AllByRecursion IsNoBar name → names_in (name ++ bar ∷ rest) ≡ name ∷ names_in rest
first_name name rest clear = slice_split_at (λ byte. byte == bar) name bar rest (All-from_recursion IsNoBar name clear) refl

-- ---- names make a word, and the word has these names

named_no_bars : (name : List ℕ) → AllByRecursion (λ byte. byte ≢ bar) name → AllByRecursion IsNoBar name
named_no_bars [] apart = tt
named_no_bars (byte ∷ name) apart = (ne_eqb byte bar apart.0, named_no_bars name apart.1)

pub names_of_text : (names : List (List ℕ)) → IsNameGroup names → names_in (text_of_group names) ≡ names
names_of_text [] is = absurd (omega arith)
names_of_text (name ∷ []) is = one_name name (named_no_bars name is.1.0.1)
names_of_text (name ∷ next ∷ names) is =
    first_name name (text_of_group (next ∷ names)) (named_no_bars name is.1.0.1)
    ∙ ap (λ (l : List (List ℕ)). name ∷ l) (names_of_text (next ∷ names) (omega arith, is.1.1))

-- none of them is empty
some_bytes : (name : List ℕ) → 0 < length name → has_bytes name ≡ true
some_bytes [] some = absurd (omega arith)
some_bytes (byte ∷ name) some = ap not (ne_eqb (length (byte ∷ name)) 0 (λ none. absurd (omega arith)))

all_have_bytes : (names : List (List ℕ)) → AllByRecursion IsInGroup names → list_all has_bytes names ≡ true
all_have_bytes [] are = refl
all_have_bytes (name ∷ names) are = and_from (has_bytes name) (list_all has_bytes names) (some_bytes name are.0.0) (all_have_bytes names are.1)

pub text_is_group : (names : List (List ℕ)) → IsNameGroup names → is_group_word (text_of_group names) ≡ true
text_is_group names is = ap (list_all has_bytes) (names_of_text names is) ∙ all_have_bytes names is.1

-- ---- a word of names is what they make

pub text_of_names_in : (word : List ℕ) → text_of_group (names_in word) ≡ word
text_of_names_in word = join_with_byte-slice_split bar word

-- a byte before names without '|' is a byte of the first
onto_clear : (byte : ℕ) (names : List (List ℕ)) → byte ≢ bar → AllByRecursion (λ name. AllByRecursion (λ b. b ≢ bar) name) names →
    AllByRecursion (λ name. AllByRecursion (λ b. b ≢ bar) name) (onto_first byte names)
onto_clear byte [] apart clear = ((apart, tt), tt)
onto_clear byte (name ∷ names) apart clear = ((apart, clear.0), clear.1)

names_clear : (word : List ℕ) → AllByRecursion (λ name. AllByRecursion (λ b. b ≢ bar) name) (names_in word)
names_clear [] = (tt, tt)
names_clear (byte ∷ word) = elim (cases_Bool (byte == bar)) [
  | inl is ↦ rw is (tt, names_clear word)
  | inr other ↦ rw other (onto_clear byte (names_in word) (λ same. false≢true (sym other ∙ eq-eqb byte bar same)) (names_clear word))
]

onto_some : (byte : ℕ) (names : List (List ℕ)) → 0 < length (onto_first byte names)
onto_some byte [] = omega arith
onto_some byte (name ∷ names) = omega arith

pub names_some : (word : List ℕ) → 0 < length (names_in word)
names_some [] = omega arith
names_some (byte ∷ word) = elim (cases_Bool (byte == bar)) [
  | inl is ↦ rw is (omega arith)
  | inr other ↦ rw other (onto_some byte (names_in word))
]

has_some_bytes : (name : List ℕ) → has_bytes name ≡ true → 0 < length name
has_some_bytes [] none = absurd (false≢true none)
has_some_bytes (byte ∷ name) some = omega arith

are_in_group : (names : List (List ℕ)) → list_all has_bytes names ≡ true → AllByRecursion (λ name. AllByRecursion (λ b. b ≢ bar) name) names →
    AllByRecursion IsInGroup names
are_in_group [] all clear = tt
are_in_group (name ∷ names) all clear =
    let both = and_parts (has_bytes name) (list_all has_bytes names) all in
    ((has_some_bytes name both.0, clear.0), are_in_group names both.1 clear.1)

pub word_is_group : (word : List ℕ) → is_group_word word ≡ true → IsNameGroup (names_in word)
word_is_group word is = (names_some word, are_in_group (names_in word) is (names_clear word))

-- ---- the names of several words

-- after the names of one word come those of the next, of which there is at least one
pub next_word : (self first made left words rest : List (List ℕ)) (word : List ℕ) (name : Option (Bor (List ℕ))) →
    self ≡ first ++ all_names words → first ≡ [] → words ≡ word ∷ rest → made ≡ names_in word →
    MatchOption name ((made ≡ []) × (left ≡ [])) (λ n. made ≡ n.now ∷ left) →
    MatchOption name ((self ≡ []) × (left ++ all_names rest ≡ [])) (λ n. self ≡ n.now ∷ (left ++ all_names rest))
next_word self first made left words rest word None is none more new next =
    let some = names_some word in
    absurd (omega (arith, ap length (sym new ∙ next.0)))
next_word self first made left words rest word (Some name) is none more new next =
    is ∙ ap (λ (l : List (List ℕ)). l ++ all_names words) none ∙ ap all_names more
    ∙ ap (λ (l : List (List ℕ)). l ++ all_names rest) (sym new ∙ next)
