-- The lines of a text that is cut after a line feed.
use Rattle.std.proofs.Common.{◌≡◌, ℕ, ◌<◌, ◌⊎◌, List, [], ◌∷◌, ◌++◌, true, false, append_assoc, append-nil, drop, length, refl, sym, ap, subst, ◌∙◌, inl, inr, arith}
use Rattle.std.proofs.lemmas.Bool.{cases_Bool, both_ways}
use Rattle.std.specs.List.{AllByRecursion, onto_first}
use Rattle.std.specs.Prelude.{◌==◌}
use Rattle.pw_info.specs.Bytes.{line_feed}
use Rattle.pw_info.specs.Lines.{HasNoEnd, lines_of, text_of_lines}
use Rattle.pw_info.specs.Words.{is_nil}
use Rattle.std.specs.List.{flat_map}
use Rattle.std.proofs.lemmas.Grind.{flat_map-append}
use Rattle.pw_info.proofs.LineLemmas.{lines_of_ended}
use Rattle.pw_explain.specs.Unread.{EndsInFeed}

-- ---- a text that is cut after a line feed

lines_of-end : (byte : ℕ) (text : List ℕ) → (byte == line_feed) ≡ true → lines_of (byte ∷ text) ≡ [] ∷ lines_of text
lines_of-end byte text ends = rw ends refl

lines_of-more : (byte : ℕ) (text : List ℕ) → (byte == line_feed) ≡ false → lines_of (byte ∷ text) ≡ onto_first byte (lines_of text)
lines_of-more byte text more = rw more refl

onto_first-append : (byte : ℕ) (lines more : List (List ℕ)) → is_nil lines ≡ false → onto_first byte (lines ++ more) ≡ onto_first byte lines ++ more
onto_first-append byte [] more some = absurd (both_ways true some refl)
onto_first-append byte (line ∷ lines) more some = refl

is_nil-onto_first : (byte : ℕ) (lines : List (List ℕ)) → is_nil (onto_first byte lines) ≡ false
is_nil-onto_first byte [] = refl
is_nil-onto_first byte (line ∷ lines) = refl

some_line : (front : List ℕ) → is_nil (lines_of (front ++ line_feed ∷ [])) ≡ false
some_line [] = refl
some_line (byte ∷ front) = elim (cases_Bool (byte == line_feed)) [
  | inl ends ↦ ap is_nil (lines_of-end byte (front ++ line_feed ∷ []) ends)
  | inr more ↦ ap is_nil (lines_of-more byte (front ++ line_feed ∷ []) more) ∙ is_nil-onto_first byte (lines_of (front ++ line_feed ∷ []))
]

-- The lines of a text are those up to a line feed, and those after it.
pub lines_of-cut : (front rest : List ℕ) → lines_of ((front ++ line_feed ∷ []) ++ rest) ≡ lines_of (front ++ line_feed ∷ []) ++ lines_of rest
lines_of-cut [] rest = refl
lines_of-cut (byte ∷ front) rest = elim (cases_Bool (byte == line_feed)) [
  | inl ends ↦
      lines_of-end byte ((front ++ line_feed ∷ []) ++ rest) ends ∙ ap (λ (ls : List (List ℕ)). [] ∷ ls) (lines_of-cut front rest)
      ∙ ap (λ (ls : List (List ℕ)). ls ++ lines_of rest) (sym (lines_of-end byte (front ++ line_feed ∷ []) ends))
  | inr more ↦
      lines_of-more byte ((front ++ line_feed ∷ []) ++ rest) more ∙ ap (onto_first byte) (lines_of-cut front rest)
      ∙ onto_first-append byte (lines_of (front ++ line_feed ∷ [])) (lines_of rest) (some_line front)
      ∙ ap (λ (ls : List (List ℕ)). ls ++ lines_of rest) (sym (lines_of-more byte (front ++ line_feed ∷ []) more))
]

pub lines_of-two : (bytes rest : List ℕ) → EndsInFeed bytes → lines_of (bytes ++ rest) ≡ lines_of bytes ++ lines_of rest
lines_of-two bytes rest (inl none) = rw none refl
lines_of-two bytes rest (inr (front, is)) = rw is (lines_of-cut front rest)

lines_of-one : (line : List ℕ) → HasNoEnd line → lines_of (line ++ line_feed ∷ []) ≡ line ∷ []
lines_of-one line none = lines_of_ended line [] none

-- bytes with a line more
pub with_line : (bytes line : List ℕ) → EndsInFeed bytes → HasNoEnd line → lines_of (bytes ++ (line ++ line_feed ∷ [])) ≡ lines_of bytes ++ line ∷ []
with_line bytes line ends none = lines_of-two bytes (line ++ line_feed ∷ []) ends ∙ ap (λ (ls : List (List ℕ)). lines_of bytes ++ ls) (lines_of-one line none)

-- ---- the lines of two texts

pub all_append : (lines more : List (List ℕ)) → AllByRecursion HasNoEnd lines → AllByRecursion HasNoEnd more → AllByRecursion HasNoEnd (lines ++ more)
all_append [] more all all_more = all_more
all_append (line ∷ lines) more all all_more = (all.0, all_append lines more all.1 all_more)

pub text_of_all : (lines more : List (List ℕ)) → text_of_lines (lines ++ more) [] ≡ text_of_lines lines [] ++ text_of_lines more []
text_of_all lines more =
    append-nil (flat_map (λ (line : List ℕ). line ++ line_feed ∷ []) (lines ++ more)) ∙ flat_map-append (λ (line : List ℕ). line ++ line_feed ∷ []) lines more
    ∙ ap (λ (l : List ℕ). l ++ flat_map (λ (line : List ℕ). line ++ line_feed ∷ []) more) (sym (append-nil (flat_map (λ (line : List ℕ). line ++ line_feed ∷ []) lines)))
    ∙ ap (λ (l : List ℕ). text_of_lines lines [] ++ l) (sym (append-nil (flat_map (λ (line : List ℕ). line ++ line_feed ∷ []) more)))

onto_first-some : (byte : ℕ) (lines : List (List ℕ)) → 0 < length (onto_first byte lines)
onto_first-some byte [] = omega arith
onto_first-some byte (line ∷ lines) = omega arith

pub some_lines : (part : List ℕ) → (part ≡ [] → ⊥) → 0 < length (lines_of part)
some_lines [] some = absurd (some refl)
some_lines (byte ∷ part) some = elim (cases_Bool (byte == line_feed)) [
  | inl ends ↦ rw (lines_of-end byte part ends) (omega arith)
  | inr more ↦ rw (lines_of-more byte part more) (onto_first-some byte (lines_of part))
]

pub lines_of-part : (part rest : List ℕ) → ((rest ≡ []) ⊎ EndsInFeed part) → lines_of (part ++ rest) ≡ lines_of part ++ lines_of rest
lines_of-part part rest (inl none) = rw none (ap lines_of (append-nil part) ∙ sym (append-nil (lines_of part)))
lines_of-part part rest (inr ends) = lines_of-two part rest ends

-- ---- bytes that end in a line feed

pub ends_back : (front back : List ℕ) → EndsInFeed (front ++ back) → EndsInFeed back
ends_back [] back ends = ends
ends_back (byte ∷ front) back (inl none) = absurd (omega (arith, ap length none))
ends_back (byte ∷ front) back (inr ([], is)) = ends_back front back (inl (ap (drop 1) is))
ends_back (byte ∷ front) back (inr (other ∷ before, is)) = ends_back front back (inr (before, ap (drop 1) is))

ends_on : (front back : List ℕ) → EndsInFeed back → EndsInFeed (front ++ line_feed ∷ back)
ends_on front back (inl none) = inr (front, ap (λ (l : List ℕ). front ++ line_feed ∷ l) none)
ends_on front back (inr (before, is)) = inr (front ++ line_feed ∷ before, ap (λ (l : List ℕ). front ++ line_feed ∷ l) is ∙ sym (append_assoc front (line_feed ∷ before) (line_feed ∷ [])))

text_of_one : (line : List ℕ) (lines : List (List ℕ)) → text_of_lines (line ∷ lines) [] ≡ line ++ line_feed ∷ text_of_lines lines []
text_of_one line lines = text_of_all (line ∷ []) lines ∙ ap (λ (l : List ℕ). l ++ text_of_lines lines []) (append-nil _ ∙ append-nil _) ∙ append_assoc line (line_feed ∷ []) (text_of_lines lines [])

pub lines_end : (lines : List (List ℕ)) → EndsInFeed (text_of_lines lines [])
lines_end [] = inl refl
lines_end (line ∷ lines) = subst EndsInFeed (sym (text_of_one line lines)) (ends_on line (text_of_lines lines []) (lines_end lines))

-- ---- the end

no_feed : (front : List ℕ) → HasNoEnd (front ++ line_feed ∷ []) → ⊥
no_feed [] none = none.0 refl
no_feed (byte ∷ front) none = no_feed front none.1

no_end_of : (rest front : List ℕ) → rest ≡ front ++ line_feed ∷ [] → HasNoEnd rest → ⊥
no_end_of rest front is none = no_feed front (subst HasNoEnd is none)

-- Without a line feed nothing is left of bytes that end in one.
pub nothing_left : (front rest : List ℕ) → EndsInFeed (front ++ rest) → HasNoEnd rest → rest ≡ []
nothing_left [] rest (inl none) no_end = none
nothing_left [] rest (inr (before, is)) no_end = absurd (no_end_of rest before is no_end)
nothing_left (byte ∷ front) rest (inl none) no_end = absurd (omega (arith, ap length none))
nothing_left (byte ∷ front) rest (inr ([], is)) no_end = nothing_left front rest (inl (ap (drop 1) is)) no_end
nothing_left (byte ∷ front) rest (inr (other ∷ before, is)) no_end = nothing_left front rest (inr (before, ap (drop 1) is)) no_end
