-- Words of a line before and after a byte.
use Rattle.std.proofs.Common.{◌≡◌, ℕ, ◌+◌, ◌<◌, ◌≤◌, ◌⊎◌, true, false, List, [], ◌∷◌, ◌++◌, length, take, drop, length-append, refl, sym, ap, ◌∙◌, subst, append-nil, append_assoc, inl, inr, arith}
use Rattle.std.proofs.lemmas.Bool.{cases_Bool, both_ways}
use Rattle.std.proofs.Math.Numerals.{one-add}
use Rattle.std.specs.List.{prefix_len, onto_first, AllByRecursion}
use Rattle.std.proofs.Math.Seq.{take-add}
use Rattle.std.proofs.lemmas.List.{take-append-drop, drop-drop, length-take-le}
use Rattle.std.proofs.lemmas.List.Folds.{length-prefix_len}
use Rattle.pw_info.proofs.WordLemmas.{no_word}
use Rattle.pw_info.specs.Words.{is_blank, is_plain, is_nil, ends_word, words_of, AreBlanks}
use Rattle.pw_explain.specs.declared.spot.Place.{Place}
use Rattle.pw_explain.specs.Spot.{EndsBefore, IsNextWord, IsWordAt, PassesWords, bytes_at, used_len}

-- ---- one more byte at the front

words_of-blank : (byte : ℕ) (line : List ℕ) → is_blank byte ≡ true → words_of (byte ∷ line) ≡ words_of line
words_of-blank byte line blank = rw blank

words_of-last : (byte : ℕ) (line : List ℕ) → is_blank byte ≡ false → ends_word line ≡ true → words_of (byte ∷ line) ≡ (byte ∷ []) ∷ words_of line
words_of-last byte line plain ends = rw (plain, ends)

words_of-more : (byte : ℕ) (line : List ℕ) → is_blank byte ≡ false → ends_word line ≡ false → words_of (byte ∷ line) ≡ onto_first byte (words_of line)
words_of-more byte line plain goes_on = rw (plain, goes_on)

is_nil-onto_first : (byte : ℕ) (words : List (List ℕ)) → is_nil (onto_first byte words) ≡ false
is_nil-onto_first byte [] = refl
is_nil-onto_first byte (word ∷ words) = refl

is_nil-plain : (byte : ℕ) (line : List ℕ) → is_blank byte ≡ false → is_nil (words_of (byte ∷ line)) ≡ false
is_nil-plain byte line plain = elim (cases_Bool (ends_word line)) [
  | inl ends ↦ ap is_nil (words_of-last byte line plain ends)
  | inr more ↦ ap is_nil (words_of-more byte line plain more) ∙ is_nil-onto_first byte (words_of line)
]

-- a byte goes onto the first of two lists of words, if that has one
onto_first-append : (byte : ℕ) (words more : List (List ℕ)) → is_nil words ≡ false → onto_first byte (words ++ more) ≡ onto_first byte words ++ more
onto_first-append byte [] more some = absurd (both_ways true some refl)
onto_first-append byte (word ∷ words) more some = refl

-- ---- two parts of a line

-- a line whose first byte is not a blank has a word
has_word : (line : List ℕ) → ends_word line ≡ false → is_nil (words_of line) ≡ false
has_word [] more = more
has_word (byte ∷ line) more = is_nil-plain byte line more

ends_word-append : (front back : List ℕ) → ends_word back ≡ true → ends_word front ≡ true → ends_word (front ++ back) ≡ true
ends_word-append [] back ends is = ends
ends_word-append (byte ∷ front) back ends is = is

ends_word-front : (front back : List ℕ) → ends_word front ≡ false → ends_word (front ++ back) ≡ false
ends_word-front [] back more = absurd (both_ways true more refl)
ends_word-front (byte ∷ front) back more = more

-- The words of a line that is cut where a word ends are those of its parts.
words_of-append : (front back : List ℕ) → ends_word back ≡ true → words_of (front ++ back) ≡ words_of front ++ words_of back
words_of-append [] back ends = refl
words_of-append (byte ∷ front) back ends = elim (cases_Bool (is_blank byte)) [
  | inl blank ↦
      words_of-blank byte (front ++ back) blank ∙ words_of-append front back ends
      ∙ ap (λ (ws : List (List ℕ)). ws ++ words_of back) (sym (words_of-blank byte front blank))
  | inr plain ↦ elim (cases_Bool (ends_word front)) [
    | inl last ↦
        words_of-last byte (front ++ back) plain (ends_word-append front back ends last)
        ∙ ap (λ (ws : List (List ℕ)). (byte ∷ []) ∷ ws) (words_of-append front back ends)
        ∙ ap (λ (ws : List (List ℕ)). ws ++ words_of back) (sym (words_of-last byte front plain last))
    | inr more ↦
        words_of-more byte (front ++ back) plain (ends_word-front front back more)
        ∙ ap (onto_first byte) (words_of-append front back ends)
        ∙ onto_first-append byte (words_of front) (words_of back) (has_word front more)
        ∙ ap (λ (ws : List (List ℕ)). ws ++ words_of back) (sym (words_of-more byte front plain more))
  ]
]

-- ---- the blanks at the front, and the first word

blanks_at_front : (line : List ℕ) → AreBlanks (take (prefix_len is_blank line) line)
blanks_at_front [] = tt
blanks_at_front (byte ∷ line) = elim (cases_Bool (is_blank byte)) [
  | inl blank ↦ rw (blank, one-add) (blank, blanks_at_front line)
  | inr plain ↦ rw plain tt
]

-- bytes of a word
ArePlain : List ℕ → Type 0
ArePlain bytes = AllByRecursion (λ byte. is_blank byte ≡ false) bytes

plain_at_front : (line : List ℕ) → ArePlain (take (prefix_len is_plain line) line)
unfolding ArePlain
plain_at_front [] = tt
plain_at_front (byte ∷ line) = elim (cases_Bool (is_blank byte)) [
  | inl blank ↦ rw blank tt
  | inr plain ↦ rw (plain, one-add) (plain, plain_at_front line)
]

ends_after_word : (line : List ℕ) → ends_word (drop (prefix_len is_plain line) line) ≡ true
ends_after_word [] = refl
ends_after_word (byte ∷ line) = elim (cases_Bool (is_blank byte)) [
  | inl blank ↦ rw blank blank
  | inr plain ↦ rw (plain, one-add) (ends_after_word line)
]

words_of-blanks : (gap : List ℕ) → AreBlanks gap → words_of gap ≡ []
words_of-blanks [] blanks = refl
words_of-blanks (byte ∷ gap) blanks = words_of-blank byte gap blanks.0 ∙ words_of-blanks gap blanks.1

ends_word-blanks : (gap : List ℕ) → AreBlanks gap → ends_word gap ≡ true
ends_word-blanks [] blanks = refl
ends_word-blanks (byte ∷ gap) blanks = blanks.0

-- Blanks change no word.
words_of-gap : (front gap : List ℕ) → AreBlanks gap → words_of (front ++ gap) ≡ words_of front
words_of-gap front gap blanks = words_of-append front gap (ends_word-blanks gap blanks) ∙ ap (λ (ws : List (List ℕ)). words_of front ++ ws) (words_of-blanks gap blanks) ∙ append-nil (words_of front)

-- A word alone.
words_of-word : (byte : ℕ) (word : List ℕ) → is_blank byte ≡ false → ArePlain word → words_of (byte ∷ word) ≡ (byte ∷ word) ∷ []
unfolding ArePlain
words_of-word byte [] plain all = words_of-last byte [] plain refl
words_of-word byte (next ∷ word) plain all = words_of-more byte (next ∷ word) plain all.0 ∙ ap (onto_first byte) (words_of-word next word all.0 all.1)

-- ---- where the last word ends

-- A line with a word at its end.
some_word : (front : List ℕ) (byte : ℕ) (word : List ℕ) → is_blank byte ≡ false → is_nil (words_of (front ++ byte ∷ word)) ≡ false
some_word [] byte word plain = is_nil-plain byte word plain
some_word (first ∷ front) byte word plain = elim (cases_Bool (is_blank first)) [
  | inl blank ↦ ap is_nil (words_of-blank first (front ++ byte ∷ word) blank) ∙ some_word front byte word plain
  | inr other ↦ is_nil-plain first (front ++ byte ∷ word) other
]

used_len-word : (byte : ℕ) (word : List ℕ) → is_blank byte ≡ false → ArePlain word → used_len (byte ∷ word) ≡ length (byte ∷ word)
unfolding ArePlain
used_len-word byte [] plain all = rw (is_nil-plain byte [] plain) refl
used_len-word byte (next ∷ word) plain all = rw (is_nil-plain byte (next ∷ word) plain, used_len-word next word all.0 all.1) (one-add _)

used_len-ends : (front : List ℕ) (byte : ℕ) (word : List ℕ) → is_blank byte ≡ false → ArePlain word → used_len (front ++ byte ∷ word) ≡ length (front ++ byte ∷ word)
used_len-ends [] byte word plain all = used_len-word byte word plain all
used_len-ends (first ∷ front) byte word plain all = rw (some_word (first ∷ front) byte word plain, used_len-ends front byte word plain all) (one-add _)

ends_word-none : (line : List ℕ) → words_of line ≡ [] → ends_word line ≡ true
ends_word-none [] none = refl
ends_word-none (byte ∷ line) none = elim (cases_Bool (is_blank byte)) [
  | inl blank ↦ blank
  | inr plain ↦ absurd (both_ways (is_nil (words_of (byte ∷ line))) (is_nil-plain byte line plain) (ap is_nil none))
]

used_len-none : (line : List ℕ) → words_of line ≡ [] → used_len line ≡ 0
used_len-none [] none = refl
used_len-none (byte ∷ line) none = rw (ap is_nil none) refl

-- Where no word comes after the front, the last word of the line is that of the front.
used_len-front : (front back : List ℕ) → words_of back ≡ [] → used_len (front ++ back) ≡ used_len front
used_len-front [] back none = used_len-none back none
used_len-front (byte ∷ front) back none =
    rw (words_of-append (byte ∷ front) back (ends_word-none back none), none, append-nil (words_of (byte ∷ front)), used_len-front front back none) refl

-- ---- the next word

-- two parts of a line between which no word goes on
Seam : List ℕ → List ℕ → Type 0
Seam front back = (front ≡ []) ⊎ (ends_word back ≡ true)

words_of-seam : (front back : List ℕ) → Seam front back → words_of (front ++ back) ≡ words_of front ++ words_of back
unfolding Seam
words_of-seam front back (inl none) = rw none refl
words_of-seam front back (inr ends) = words_of-append front back ends

words_of-next : (gap word rest : List ℕ) → 0 < length word → AreBlanks gap → ArePlain word → ends_word rest ≡ true → words_of (gap ++ (word ++ rest)) ≡ word ∷ words_of rest
unfolding ArePlain
words_of-next [] [] rest some blanks all ends = absurd (omega arith)
words_of-next [] (byte ∷ word) rest some blanks all ends =
    words_of-append (byte ∷ word) rest ends ∙ ap (λ (ws : List (List ℕ)). ws ++ words_of rest) (words_of-word byte word all.0 all.1)
words_of-next (byte ∷ gap) word rest some blanks all ends =
    words_of-blank byte (gap ++ (word ++ rest)) blanks.0 ∙ words_of-next gap word rest some blanks.1 all ends

-- Where a word comes after a seam, it does so too with nothing behind it.
seam_before : (front gap word rest : List ℕ) → 0 < length word → AreBlanks gap → ArePlain word → Seam front (gap ++ (word ++ rest)) → Seam front (gap ++ word)
unfolding Seam ArePlain
seam_before front gap word rest some blanks all (inl none) = inl none
seam_before front [] [] rest some blanks all (inr ends) = absurd (omega arith)
seam_before front [] (byte ∷ word) rest some blanks all (inr ends) = absurd (both_ways (is_blank byte) all.0 ends)
seam_before front (byte ∷ gap) word rest some blanks all (inr ends) = inr blanks.0

words_of-further : (front gap word rest : List ℕ) → 0 < length word → AreBlanks gap → ArePlain word → Seam front (gap ++ (word ++ rest)) →
    words_of (front ++ (gap ++ word)) ≡ words_of front ++ word ∷ []
words_of-further front gap word rest some blanks all seam =
    words_of-seam front (gap ++ word) (seam_before front gap word rest some blanks all seam)
    ∙ ap (λ (ws : List (List ℕ)). words_of front ++ ws)
    (ap (λ (end : List ℕ). words_of (gap ++ end)) (sym (append-nil word)) ∙ words_of-next gap word [] some blanks all refl)

used_len-further : (front word : List ℕ) → 0 < length word → ArePlain word → used_len (front ++ word) ≡ length (front ++ word)
unfolding ArePlain
used_len-further front [] some all = absurd (omega arith)
used_len-further front (byte ∷ word) some all = used_len-ends front byte word all.0 all.1

-- ---- for the code

-- No word is left where no byte of one comes after the blanks.
pub none_left : (line : List ℕ) (at from : ℕ) → from ≡ at + prefix_len is_blank (drop at line) → prefix_len is_plain (drop from line) ≡ 0 → words_of (drop at line) ≡ []
none_left line at from is none = no_word (drop at line) (drop from line) (ap (λ (n : ℕ). drop n line) is ∙ sym (drop-drop (prefix_len is_blank (drop at line)) at line)) none

-- At the front no word was passed.
pub none_passed : (line : List ℕ) → PassesWords line 0 0
none_passed line = record { within = omega arith; words = refl; many = refl; used = refl; ends = inl refl }

-- Where no word is left, the last one that was passed is the last of the line.
pub all_passed : (line : List ℕ) (passed number last : ℕ) → PassesWords line passed last → passed ≤ number → words_of (drop last line) ≡ [] → EndsBefore line number last
all_passed line passed number last passes less none = record {
  few =
      let all : words_of line ≡ words_of (take last line) = passes.words ∙ ap (λ (ws : List (List ℕ)). words_of (take last line) ++ ws) none ∙ append-nil (words_of (take last line)) in
      rw (all, passes.many) less;
  within = passes.within;
  end = sym (ap used_len (sym (take-append-drop last line)) ∙ used_len-front (take last line) (drop last line) none ∙ passes.used);
}

-- ---- one word further

-- A front that was passed, and then a gap, a word and the rest.
record Parts (line front gap word rest : List ℕ) : Type 0 where
  words : words_of line ≡ words_of front ++ words_of (gap ++ (word ++ rest))
  some : 0 < length word
  blanks : AreBlanks gap
  plain : ArePlain word
  ends : ends_word rest ≡ true
  seam : Seam front (gap ++ (word ++ rest))

words_of-parts : (line front gap word rest : List ℕ) → Parts line front gap word rest → words_of line ≡ words_of (front ++ gap) ++ word ∷ words_of rest
words_of-parts line front gap word rest parts =
    parts.words
    ∙ ap (λ (ws : List (List ℕ)). words_of front ++ ws) (words_of-next gap word rest parts.some parts.blanks parts.plain parts.ends)
    ∙ ap (λ (ws : List (List ℕ)). ws ++ word ∷ words_of rest) (sym (words_of-gap front gap parts.blanks))

words_of-passed : (line front gap word rest : List ℕ) → Parts line front gap word rest → words_of ((front ++ gap) ++ word) ≡ words_of front ++ word ∷ []
words_of-passed line front gap word rest parts =
    ap words_of (append_assoc front gap word) ∙ words_of-further front gap word rest parts.some parts.blanks parts.plain parts.seam

-- The parts around the next word.
parts_at : (line : List ℕ) (number last : ℕ) (place : Place) → PassesWords line number last → IsNextWord line last place →
    Parts line (take last line) (take (prefix_len is_blank (drop last line)) (drop last line)) (take (prefix_len is_plain (drop place.from line)) (drop place.from line)) (drop place.to line)
unfolding Seam
parts_at line number last place passes next =
    let k : ℕ = prefix_len is_blank (drop last line) in
    let n : ℕ = prefix_len is_plain (drop place.from line) in
    let start : drop place.from line ≡ drop k (drop last line) = ap (λ (m : ℕ). drop m line) next.from ∙ sym (drop-drop k last line) in
    let stop : drop place.to line ≡ drop n (drop place.from line) = ap (λ (m : ℕ). drop m line) next.to ∙ sym (drop-drop n place.from line) in
    let whole : drop last line ≡ take k (drop last line) ++ (take n (drop place.from line) ++ drop place.to line) =
    sym (take-append-drop k (drop last line))
    ∙ ap (λ (end : List ℕ). take k (drop last line) ++ end) (sym start ∙ sym (take-append-drop n (drop place.from line)) ∙ ap (λ (end : List ℕ). take n (drop place.from line) ++ end) (sym stop)) in
    record {
      words = passes.words ∙ ap (λ (end : List ℕ). words_of (take last line) ++ words_of end) whole;
      some = rw (length-prefix_len is_plain (drop place.from line)) (omega (arith, next.to, next.some));
      blanks = blanks_at_front (drop last line);
      plain = plain_at_front (drop place.from line);
      ends = rw stop (ends_after_word (drop place.from line));
      seam = elim passes.ends [
        | inl first ↦ inl (rw first refl)
        | inr ends ↦ inr (subst (λ (end : List ℕ). ends_word end ≡ true) whole ends)
      ];
    }

before_place : (line : List ℕ) (last : ℕ) (place : Place) → IsNextWord line last place →
    take place.from line ≡ take last line ++ take (prefix_len is_blank (drop last line)) (drop last line)
before_place line last place next = ap (λ (m : ℕ). take m line) next.from ∙ take-add last (prefix_len is_blank (drop last line)) line

past_place : (line : List ℕ) (last : ℕ) (place : Place) → IsNextWord line last place →
    take place.to line ≡ take place.from line ++ take (prefix_len is_plain (drop place.from line)) (drop place.from line)
past_place line last place next = ap (λ (m : ℕ). take m line) next.to ∙ take-add place.from (prefix_len is_plain (drop place.from line)) line

bytes_of_next : (line : List ℕ) (last : ℕ) (place : Place) → IsNextWord line last place → bytes_at line place ≡ take (prefix_len is_plain (drop place.from line)) (drop place.from line)
bytes_of_next line last place next = ap (λ (m : ℕ). take m (drop place.from line)) (omega (arith, next.to))

-- The next word is the one of the number of words that were passed.
pub next_is_at : (line : List ℕ) (number last : ℕ) (place : Place) → PassesWords line number last → IsNextWord line last place → IsWordAt line number place
next_is_at line number last place passes next =
    let before : words_of (take place.from line) ≡ words_of (take last line) =
    ap words_of (before_place line last place next)
    ∙ words_of-gap (take last line) (take (prefix_len is_blank (drop last line)) (drop last line)) (blanks_at_front (drop last line)) in
    record {
      lies = record { order = omega (arith, next.some); within = next.within };
      words =
          words_of-parts line (take last line) (take (prefix_len is_blank (drop last line)) (drop last line)) (take (prefix_len is_plain (drop place.from line)) (drop place.from line)) (drop place.to line) (parts_at line number last place passes next)
          ∙ ap (λ (ws : List (List ℕ)). ws ++ take (prefix_len is_plain (drop place.from line)) (drop place.from line) ∷ words_of (drop place.to line)) (ap words_of (sym (before_place line last place next)))
          ∙ ap (λ (word : List ℕ). words_of (take place.from line) ++ word ∷ words_of (drop place.to line)) (sym (bytes_of_next line last place next));
      before = ap length before ∙ passes.many;
    }

-- Then one word more was passed.
pub one_passed : (line : List ℕ) (number last : ℕ) (place : Place) → PassesWords line number last → IsNextWord line last place → PassesWords line (number + 1) place.to
one_passed line number last place passes next =
    let gap : List ℕ = take (prefix_len is_blank (drop last line)) (drop last line) in
    let word : List ℕ = take (prefix_len is_plain (drop place.from line)) (drop place.from line) in
    let parts : Parts line (take last line) gap word (drop place.to line) = parts_at line number last place passes next in
    let past : take place.to line ≡ (take last line ++ gap) ++ word = past_place line last place next ∙ ap (λ (front : List ℕ). front ++ word) (before_place line last place next) in
    let passed : words_of (take place.to line) ≡ words_of (take last line) ++ word ∷ [] = ap words_of past ∙ words_of-passed line (take last line) gap word (drop place.to line) parts in
    record {
      within = next.within;
      words =
          parts.words ∙ ap (λ (ws : List (List ℕ)). words_of (take last line) ++ ws) (words_of-next gap word (drop place.to line) parts.some parts.blanks parts.plain parts.ends)
          ∙ sym (append_assoc (words_of (take last line)) (word ∷ []) (words_of (drop place.to line)))
          ∙ ap (λ (ws : List (List ℕ)). ws ++ words_of (drop place.to line)) (sym passed);
      many = ap length passed ∙ length-append (words_of (take last line)) (word ∷ []) ∙ ap (λ (m : ℕ). m + 1) passes.many;
      used = ap used_len past ∙ used_len-further (take last line ++ gap) word parts.some parts.plain ∙ ap length (sym past) ∙ length-take-le place.to line next.within;
      ends = inr parts.ends;
    }
