-- The words of a line, by their first word and by the relation.
use Rattle.std.proofs.Common.{◌≡◌, ℕ, suc, ◌<◌, ◌≤◌, true, false, List, [], ◌∷◌, ◌++◌, length, take, drop, refl, sym, ap, ◌∙◌, subst, append-nil, inl, inr, arith}
use Rattle.std.proofs.lemmas.Bool.{cases_Bool, both_ways}
use Rattle.std.proofs.Math.Numerals.{one-add}
use Rattle.std.specs.List.{prefix_len, onto_first, AllByRecursion}
use Rattle.std.specs.Prelude.{◌==◌, codes}
use Rattle.std.specs.Str.{bytes_eq}
use Rattle.std.proofs.lemmas.Bool.{eqb-true}
use Rattle.std.proofs.lemmas.List.{take-append-drop}
use Rattle.std.proofs.lemmas.Slice.Eq.{bytes_eq-Decides}
use Rattle.pw_info.specs.Words.{is_blank, is_plain, ends_word, words_of, is_nil, AreBlanks, AreWords}

-- ---- one more byte at the front

words_of-blank : (byte : ℕ) (line : List ℕ) → is_blank byte ≡ true → words_of (byte ∷ line) ≡ words_of line
words_of-blank byte line blank = rw blank

words_of-last : (byte : ℕ) (line : List ℕ) → is_blank byte ≡ false → ends_word line ≡ true → words_of (byte ∷ line) ≡ (byte ∷ []) ∷ words_of line
words_of-last byte line plain ends = rw (plain, ends)

words_of-more : (byte : ℕ) (line : List ℕ) → is_blank byte ≡ false → ends_word line ≡ false → words_of (byte ∷ line) ≡ onto_first byte (words_of line)
words_of-more byte line plain goes_on = rw (plain, goes_on)

plain_len-blank : (byte : ℕ) (line : List ℕ) → is_blank byte ≡ true → prefix_len is_plain (byte ∷ line) ≡ 0
plain_len-blank byte line blank = rw blank

plain_len-plain : (byte : ℕ) (line : List ℕ) → is_blank byte ≡ false → prefix_len is_plain (byte ∷ line) ≡ suc (prefix_len is_plain line)
plain_len-plain byte line plain = rw plain (one-add _)

-- what follows the blanks
past_blanks : List ℕ → List ℕ
past_blanks line = drop (prefix_len is_blank line) line

past_blanks-blank : (byte : ℕ) (line : List ℕ) → is_blank byte ≡ true → past_blanks (byte ∷ line) ≡ past_blanks line
unfolding past_blanks
past_blanks-blank byte line blank = rw (blank, one-add) refl

past_blanks-plain : (byte : ℕ) (line : List ℕ) → is_blank byte ≡ false → past_blanks (byte ∷ line) ≡ byte ∷ line
unfolding past_blanks
past_blanks-plain byte line plain = rw plain refl

-- ---- the first word

-- With no byte of a word after the blanks, the line has no word.
no_word_past : (line : List ℕ) → prefix_len is_plain (past_blanks line) ≡ 0 → words_of line ≡ []
no_word_past [] none = refl
no_word_past (byte ∷ line) none = elim (cases_Bool (is_blank byte)) [
  | inl blank ↦ words_of-blank byte line blank ∙ no_word_past line (ap (prefix_len is_plain) (sym (past_blanks-blank byte line blank)) ∙ none)
  | inr plain ↦ absurd (omega (arith, sym none ∙ ap (prefix_len is_plain) (past_blanks-plain byte line plain) ∙ plain_len-plain byte line plain))
]

-- The text begins with a word, of n bytes.
BeginsWith : ℕ → List ℕ → Type 0
BeginsWith n text = words_of text ≡ take n text ∷ words_of (drop n text)

-- A line that begins with a byte of a word: its first word is the longest run of bytes of words.
word_first : (byte : ℕ) (line : List ℕ) → is_blank byte ≡ false → BeginsWith (suc (prefix_len is_plain line)) (byte ∷ line)
unfolding BeginsWith
word_first byte [] plain = words_of-last byte [] plain refl
word_first byte (next ∷ line) plain = elim (cases_Bool (is_blank next)) [
  | inl blank ↦ words_of-last byte (next ∷ line) plain blank ∙ rw (plain_len-blank next line blank) refl
  | inr more ↦
      words_of-more byte (next ∷ line) plain more ∙ ap (onto_first byte) (word_first next line more)
      ∙ rw (plain_len-plain next line more) refl
]

none_past : 0 < prefix_len is_plain (past_blanks []) → ⊥
unfolding past_blanks
none_past some = omega arith

first_word_past : (line : List ℕ) → 0 < prefix_len is_plain (past_blanks line) →
    words_of line ≡ take (prefix_len is_plain (past_blanks line)) (past_blanks line) ∷ words_of (drop (prefix_len is_plain (past_blanks line)) (past_blanks line))
unfolding BeginsWith
first_word_past [] some = absurd (none_past some)
first_word_past (byte ∷ line) some = elim (cases_Bool (is_blank byte)) [
  | inl blank ↦ rw (words_of-blank byte line blank, past_blanks-blank byte line blank)
      (first_word_past line (rw (past_blanks-blank byte line blank) at some))
  | inr plain ↦ rw (past_blanks-plain byte line plain, plain_len-plain byte line plain) (word_first byte line plain)
]

-- ---- the relation

-- Blanks before a line change none of its words.
after_blanks : (gap line : List ℕ) → AreBlanks gap → words_of (gap ++ line) ≡ words_of line
after_blanks [] line blanks = refl
after_blanks (byte ∷ gap) line blanks = words_of-blank byte (gap ++ line) blanks.0 ∙ after_blanks gap line blanks.1

-- A word before a place where a word ends is a word of the line.
after_word : (byte : ℕ) (word line : List ℕ) → is_blank byte ≡ false → AllByRecursion (λ byte. is_blank byte ≡ false) word → ends_word line ≡ true →
    words_of ((byte ∷ word) ++ line) ≡ (byte ∷ word) ∷ words_of line
after_word byte [] line plain all ends = words_of-last byte line plain ends
after_word byte (next ∷ word) line plain all ends =
    words_of-more byte ((next ∷ word) ++ line) plain all.0 ∙ ap (onto_first byte) (after_word next word line all.0 all.1 ends)

-- The relation gives the list.
pub given : (line : List ℕ) (words : List (List ℕ)) → AreWords line words → words ≡ words_of line
given line [] blanks = sym (ap words_of (sym (append-nil line)) ∙ after_blanks line [] blanks)
given line ([] ∷ words) (gap, rest, is, blanks, word, ends, later) = absurd (omega arith)
given line ((byte ∷ word) ∷ words) (gap, rest, is, blanks, all, ends, later) =
    sym (ap words_of is ∙ after_blanks gap ((byte ∷ word) ++ rest) blanks ∙ after_word byte word rest all.1.0 all.1.1 ends
    ∙ ap (λ (ws : List (List ℕ)). (byte ∷ word) ∷ ws) (sym (given rest words later)))

-- A blank before the line makes its first gap longer.
blank_before : (byte : ℕ) (line : List ℕ) (words : List (List ℕ)) → is_blank byte ≡ true → AreWords line words → AreWords (byte ∷ line) words
blank_before byte line [] blank is = (blank, is)
blank_before byte line (word ∷ words) blank (gap, rest, is, blanks, all, ends, later) =
    (byte ∷ gap, rest, ap (λ (l : List ℕ). byte ∷ l) is, (blank, blanks), all, ends, later)

-- A byte before a word makes the word longer.
plain_before : (byte next : ℕ) (line : List ℕ) (words : List (List ℕ)) → is_blank byte ≡ false → is_blank next ≡ false → AreWords (next ∷ line) words →
    AreWords (byte ∷ next ∷ line) (onto_first byte words)
plain_before byte next line [] plain more blanks = absurd (both_ways (is_blank next) more blanks.0)
plain_before byte next line (word ∷ words) plain more ([], rest, is, blanks, all, ends, later) =
    ([], rest, ap (λ (l : List ℕ). byte ∷ l) is, tt, (omega arith, (plain, all.1)), ends, later)
plain_before byte next line (word ∷ words) plain more (other ∷ gap, rest, is, blanks, all, ends, later) =
    let same : next ≡ other = cc in absurd (both_ways (is_blank next) more (ap is_blank same ∙ blanks.0))

-- The last byte of a word, before a place where a word ends.
last_before : (byte : ℕ) (line : List ℕ) (words : List (List ℕ)) → is_blank byte ≡ false → ends_word line ≡ true → AreWords line words → AreWords (byte ∷ line) ((byte ∷ []) ∷ words)
last_before byte line words plain ends is = ([], line, refl, tt, (omega arith, (plain, tt)), ends, is)

found_plain : (byte : ℕ) (line : List ℕ) → is_blank byte ≡ false → AreWords line (words_of line) → AreWords (byte ∷ line) (words_of (byte ∷ line))
found_plain byte [] plain is = rw (words_of-last byte [] plain refl) (last_before byte [] [] plain refl is)
found_plain byte (next ∷ line) plain is = elim (cases_Bool (is_blank next)) [
  | inl blank ↦ rw (words_of-last byte (next ∷ line) plain blank) (last_before byte (next ∷ line) (words_of (next ∷ line)) plain blank is)
  | inr more ↦ rw (words_of-more byte (next ∷ line) plain more) (plain_before byte next line (words_of (next ∷ line)) plain more is)
]

-- The list meets the relation.
found : (line : List ℕ) → AreWords line (words_of line)
found [] = tt
found (byte ∷ line) = elim (cases_Bool (is_blank byte)) [
  | inl blank ↦ rw (words_of-blank byte line blank) (blank_before byte line (words_of line) blank (found line))
  | inr plain ↦ found_plain byte line plain (found line)
]

pub found_at : (line : List ℕ) (words : List (List ℕ)) → words ≡ words_of line → AreWords line words
found_at line words is = subst (AreWords line) (sym is) (found line)

-- ---- for the code

pub no_word : (line text : List ℕ) → text ≡ drop (prefix_len is_blank line) line → prefix_len is_plain text ≡ 0 → words_of line ≡ []
unfolding past_blanks
no_word line text is none = no_word_past line (ap (prefix_len is_plain) (sym is) ∙ none)

pub first_word : (line text word rest : List ℕ) (end : ℕ) → text ≡ drop (prefix_len is_blank line) line → end ≡ prefix_len is_plain text → (end ≡ 0 → ⊥) →
    word ≡ take end text → rest ≡ drop end text → words_of line ≡ word ∷ words_of rest
unfolding past_blanks
first_word line text word rest end is long some front back =
    rw (front, back, long, is) (first_word_past line (let e : end ≡ prefix_len is_plain (past_blanks line) = long ∙ ap (prefix_len is_plain) is in omega arith))

-- ---- blanks behind a line

ends_word-blanks : (gap : List ℕ) → AreBlanks gap → ends_word gap ≡ true
ends_word-blanks [] blanks = refl
ends_word-blanks (byte ∷ gap) blanks = blanks.0

ends_word-before : (line gap : List ℕ) → AreBlanks gap → ends_word (line ++ gap) ≡ ends_word line
ends_word-before [] gap blanks = ends_word-blanks gap blanks
ends_word-before (byte ∷ line) gap blanks = refl

-- Blanks behind a line change none of its words.
before_blanks : (line gap : List ℕ) → AreBlanks gap → words_of (line ++ gap) ≡ words_of line
before_blanks [] gap blanks = ap words_of (sym (append-nil gap)) ∙ after_blanks gap [] blanks
before_blanks (byte ∷ line) gap blanks = elim (cases_Bool (is_blank byte)) [
  | inl blank ↦ words_of-blank byte (line ++ gap) blank ∙ before_blanks line gap blanks ∙ sym (words_of-blank byte line blank)
  | inr plain ↦ elim (cases_Bool (ends_word line)) [
    | inl ends ↦
        words_of-last byte (line ++ gap) plain (ends_word-before line gap blanks ∙ ends)
        ∙ ap (λ (ws : List (List ℕ)). (byte ∷ []) ∷ ws) (before_blanks line gap blanks) ∙ sym (words_of-last byte line plain ends)
    | inr more ↦
        words_of-more byte (line ++ gap) plain (ends_word-before line gap blanks ∙ more)
        ∙ ap (onto_first byte) (before_blanks line gap blanks) ∙ sym (words_of-more byte line plain more)
  ]
]

-- A line that ends in blanks has the words of what comes before them.
without_blanks : (line front gap : List ℕ) (n : ℕ) → AreBlanks gap → bytes_eq (drop n line) gap ≡ true → front ≡ take n line → words_of front ≡ words_of line
without_blanks line front gap n blanks same is =
    let last : drop n line ≡ gap = (bytes_eq-Decides (drop n line) gap).0 same in
    ap words_of is ∙ sym (before_blanks (take n line) gap blanks)
    ∙ ap (λ (l : List ℕ). words_of (take n line ++ l)) (sym last) ∙ ap words_of (take-append-drop n line)

-- A line that ends in eight spaces has the words of what comes before them.
pub without_spaces : (line front : List ℕ) (n : ℕ) → bytes_eq (drop n line) (codes "        ") ≡ true → front ≡ take n line → words_of front ≡ words_of line
without_spaces line front n = without_blanks line front (codes "        ") n (refl, (refl, (refl, (refl, (refl, (refl, (refl, (refl, tt))))))))

-- The same for four spaces.
pub without_few_spaces : (line front : List ℕ) (n : ℕ) → bytes_eq (drop n line) (codes "    ") ≡ true → front ≡ take n line → words_of front ≡ words_of line
without_few_spaces line front n = without_blanks line front (codes "    ") n (refl, (refl, (refl, (refl, tt))))

-- ---- no word

is_nil-onto_first : (byte : ℕ) (words : List (List ℕ)) → is_nil (onto_first byte words) ≡ false
is_nil-onto_first byte [] = refl
is_nil-onto_first byte (word ∷ words) = refl

is_nil-plain : (byte : ℕ) (line : List ℕ) → is_blank byte ≡ false → is_nil (words_of (byte ∷ line)) ≡ false
is_nil-plain byte line plain = elim (cases_Bool (ends_word line)) [
  | inl ends ↦ ap is_nil (words_of-last byte line plain ends)
  | inr more ↦ ap is_nil (words_of-more byte line plain more) ∙ is_nil-onto_first byte (words_of line)
]

some_bytes : (byte : ℕ) (line : List ℕ) → (length (byte ∷ line) == 0) ≡ false
some_bytes byte line = elim (cases_Bool (length (byte ∷ line) == 0)) [
  | inl none ↦ (let e : length (byte ∷ line) ≡ 0 = eqb-true (length (byte ∷ line)) 0 none in absurd (omega (arith, e)))
  | inr some ↦ some
]

no_words_past : (line : List ℕ) → (length (past_blanks line) == 0) ≡ is_nil (words_of line)
unfolding past_blanks
no_words_past [] = refl
no_words_past (byte ∷ line) = elim (cases_Bool (is_blank byte)) [
  | inl blank ↦ rw (words_of-blank byte line blank, past_blanks-blank byte line blank) (no_words_past line)
  | inr plain ↦ rw (past_blanks-plain byte line plain) (some_bytes byte line ∙ sym (is_nil-plain byte line plain))
]

-- A line has a word if a byte comes after its first blanks.
pub no_words : (line text : List ℕ) → text ≡ drop (prefix_len is_blank line) line → (length text == 0) ≡ is_nil (words_of line)
unfolding past_blanks
no_words line text is = ap (λ (l : List ℕ). length l == 0) is ∙ no_words_past line

-- ---- how many words

length-onto_first : (byte : ℕ) (words : List (List ℕ)) → length (onto_first byte words) ≤ suc (length words)
length-onto_first byte [] = omega arith
length-onto_first byte (word ∷ words) = omega arith

-- A line has no more words than bytes.
pub length-words_of : (line : List ℕ) → length (words_of line) ≤ length line
length-words_of [] = omega arith
length-words_of (byte ∷ line) = elim (cases_Bool (is_blank byte)) [
  | inl blank ↦ rw (words_of-blank byte line blank) (omega (arith, length-words_of line))
  | inr plain ↦ elim (cases_Bool (ends_word line)) [
    | inl ends ↦ rw (words_of-last byte line plain ends) (omega (arith, length-words_of line))
    | inr more ↦ rw (words_of-more byte line plain more) (omega (arith, length-words_of line, length-onto_first byte (words_of line)))
  ]
]
