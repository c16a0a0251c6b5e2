-- The lines of a text, by their relation, and as a reader finds them piece by piece.
use Rattle.std.proofs.Common.{◌≡◌, ◌≢◌, ℕ, suc, ◌+◌, ◌-◌, ◌<◌, true, eqb, List, [], ◌∷◌, ◌++◌, length, take, drop, arith, refl, sym, ap, ◌∙◌, subst, append-nil, append_assoc, inl, inr}
use Rattle.std.proofs.lemmas.Bool.{cases_Bool, eqb-true, eqb-false, ne_eqb}
use Rattle.std.proofs.Math.Numerals.{one-add}
use Rattle.std.proofs.lemmas.List.{take_all, take_rest}
use Rattle.std.specs.List.{prefix_len, onto_first, AllByRecursion}
use Rattle.pw_info.specs.Lines.{is_of_line, lines_of, HasNoEnd, BeginsWithLine, text_of_lines, last_line, AreLines}

-- ---- one more byte at the front

lines_of-end : (byte : ℕ) (text : List ℕ) → eqb byte 10 ≡ true → lines_of (byte ∷ text) ≡ [] ∷ lines_of text
lines_of-end byte text ends = rw ends refl

lines_of-more : (byte : ℕ) (text : List ℕ) → byte ≢ 10 → lines_of (byte ∷ text) ≡ onto_first byte (lines_of text)
lines_of-more byte text more = rw (ne_eqb byte 10 more) refl

-- ---- up to the first line feed

-- No line feed comes before the first one.
none_before : (text : List ℕ) → HasNoEnd (take (prefix_len is_of_line text) text)
none_before [] = tt
none_before (byte ∷ text) = elim (cases_Bool (eqb byte 10)) [
  | inl ends ↦ rw ends tt
  | inr more ↦ rw (more, one-add) (eqb-false byte 10 more, none_before text)
]

-- A text in which none is found has none.
pub none_found : (text : List ℕ) → prefix_len is_of_line text ≡ length text → HasNoEnd text
none_found text all = subst HasNoEnd (take_all (prefix_len is_of_line text) text (omega (arith, all))) (none_before text)

-- If one is found the text goes on with it.
found_end : (text : List ℕ) → prefix_len is_of_line text < length text → text ≡ take (prefix_len is_of_line text) text ++ 10 ∷ drop (suc (prefix_len is_of_line text)) text
found_end [] some = absurd (omega (arith, some))
found_end (byte ∷ text) some = elim (cases_Bool (eqb byte 10)) [
  | inl ends ↦ rw ends (ap (λ (first : ℕ). first ∷ text) (eqb-true byte 10 ends))
  | inr more ↦
      let later : suc (prefix_len is_of_line text) < suc (length text) = rw (more, one-add) at some in
      rw (more, one-add) (ap (λ (rest : List ℕ). byte ∷ rest) (found_end text (omega (arith, later))))
]

pub begins_with_line : (text : List ℕ) (end : ℕ) → end ≡ prefix_len is_of_line text → end < length text →
    BeginsWithLine text (take end text) (take (length text - (end + 1)) (drop (end + 1) text))
begins_with_line text end is some =
    let line : HasNoEnd (take end text) = subst (λ n. HasNoEnd (take n text)) (sym is) (none_before text) in
    let all : text ≡ take end text ++ 10 ∷ drop (suc end) text =
    subst (λ n. text ≡ take n text ++ 10 ∷ drop (suc n) text) (sym is) (found_end text (omega (arith, is, some))) in
    let same : suc end ≡ end + 1 = omega arith in
    (all ∙ ap (λ n. take end text ++ 10 ∷ drop n text) same ∙ ap (λ rest. take end text ++ 10 ∷ rest) (sym (take_rest text (end + 1))), line)

-- ---- what a reader holds

-- A piece with no line feed is the one line, or none.
pub lines_of_held : (held : List ℕ) → HasNoEnd held → lines_of held ≡ last_line held
lines_of_held [] none = refl
lines_of_held (byte ∷ []) none = lines_of-more byte [] none.0
lines_of_held (byte ∷ next ∷ held) none = lines_of-more byte (next ∷ held) none.0 ∙ ap (onto_first byte) (lines_of_held (next ∷ held) none.1)

-- A first line and the rest of the text.
pub lines_of_ended : (line text : List ℕ) → HasNoEnd line → lines_of (line ++ 10 ∷ text) ≡ line ∷ lines_of text
lines_of_ended [] text none = refl
lines_of_ended (byte ∷ line) text none = lines_of-more byte (line ++ 10 ∷ text) none.0 ∙ ap (onto_first byte) (lines_of_ended line text none.1)

-- One more line at the front of the text.
text_of_lines-cons : (line : List ℕ) (ended : List (List ℕ)) (rest : List ℕ) → text_of_lines (line ∷ ended) rest ≡ line ++ 10 ∷ text_of_lines ended rest
text_of_lines-cons line ended rest = simp append_assoc

-- Lines that have ended are unchanged, for any text after them.
pub lines_of_ended_lines : (ended : List (List ℕ)) (rest : List ℕ) → AllByRecursion HasNoEnd ended → lines_of (text_of_lines ended rest) ≡ ended ++ lines_of rest
lines_of_ended_lines [] rest none = refl
lines_of_ended_lines (line ∷ ended) rest none =
    ap lines_of (text_of_lines-cons line ended rest) ∙ lines_of_ended line (text_of_lines ended rest) none.0
    ∙ ap (λ (lines : List (List ℕ)). line ∷ lines) (lines_of_ended_lines ended rest none.1)

-- The lines of a text of which `ended` have ended and `held` has not.
pub lines_of_text : (ended : List (List ℕ)) (held : List ℕ) → AllByRecursion HasNoEnd ended → HasNoEnd held →
    lines_of (text_of_lines ended held) ≡ ended ++ last_line held
lines_of_text ended held none last = lines_of_ended_lines ended held none ∙ ap (λ (lines : List (List ℕ)). ended ++ lines) (lines_of_held held last)

-- Bytes with no line feed make what is held longer.
pub text_held : (ended : List (List ℕ)) (held front : List ℕ) → text_of_lines ended held ++ front ≡ text_of_lines ended (held ++ front)
text_held ended held front = append_assoc _ held front

-- A line feed ends the line that is held.
pub text_ended : (ended : List (List ℕ)) (held front rest : List ℕ) →
    text_of_lines ended held ++ (front ++ 10 ∷ rest) ≡ text_of_lines (ended ++ (held ++ front) ∷ []) rest
text_ended [] held front rest = simp (append_assoc, append-nil)
text_ended (line ∷ ended) held front rest =
    ap (λ (text : List ℕ). text ++ (front ++ 10 ∷ rest)) (text_of_lines-cons line ended held)
    ∙ append_assoc line (10 ∷ text_of_lines ended held) (front ++ 10 ∷ rest)
    ∙ ap (λ (text : List ℕ). line ++ 10 ∷ text) (text_ended ended held front rest)
    ∙ sym (text_of_lines-cons line (ended ++ (held ++ front) ∷ []) rest)

pub HasNoEnd-append : (held front : List ℕ) → HasNoEnd held → HasNoEnd front → HasNoEnd (held ++ front)
HasNoEnd-append [] front none more = more
HasNoEnd-append (byte ∷ held) front none more = (none.0, HasNoEnd-append held front none.1 more)

pub ended_more : (ended : List (List ℕ)) (line : List ℕ) → AllByRecursion HasNoEnd ended → HasNoEnd line → AllByRecursion HasNoEnd (ended ++ line ∷ [])
ended_more [] line none last = (last, tt)
ended_more (other ∷ ended) line none last = (none.0, ended_more ended line none.1 last)

-- ---- the relation

-- The relation gives the list.
pub given : (text : List ℕ) (lines : List (List ℕ)) → AreLines text lines → lines ≡ lines_of text
given text lines (ended, last, is, none, held, all) = all ∙ sym (ap lines_of is ∙ lines_of_text ended last none held)

onto_last : (byte : ℕ) (last : List ℕ) → onto_first byte (last_line last) ≡ last_line (byte ∷ last)
onto_last byte [] = refl
onto_last byte (next ∷ last) = refl

-- A byte more at the front of the first line.
longer : (byte : ℕ) (text : List ℕ) (lines : List (List ℕ)) → byte ≢ 10 → AreLines text lines → AreLines (byte ∷ text) (onto_first byte lines)
longer byte text lines more ([], last, is, none, held, all) =
    ([], byte ∷ last, ap (λ (bytes : List ℕ). byte ∷ bytes) is, tt, (more, held), ap (onto_first byte) all ∙ onto_last byte last)
longer byte text lines more (line ∷ ended, last, is, none, held, all) =
    ((byte ∷ line) ∷ ended, last, ap (λ (bytes : List ℕ). byte ∷ bytes) is, ((more, none.0), none.1), held, ap (onto_first byte) all)

-- A line feed at the front.
ended_before : (text : List ℕ) (lines : List (List ℕ)) → AreLines text lines → AreLines (10 ∷ text) ([] ∷ lines)
ended_before text lines (ended, last, is, none, held, all) =
    ([] ∷ ended, last, ap (λ (bytes : List ℕ). 10 ∷ bytes) is, (tt, none), held, ap (λ (others : List (List ℕ)). [] ∷ others) all)

-- The list meets the relation.
found : (text : List ℕ) → AreLines text (lines_of text)
found [] = ([], [], refl, tt, tt, refl)
found (byte ∷ text) = elim (cases_Bool (eqb byte 10)) [
  | inl ends ↦ let same : byte ≡ 10 = eqb-true byte 10 ends in rw same (ended_before text (lines_of text) (found text))
  | inr more ↦ let other : byte ≢ 10 = eqb-false byte 10 more in
      subst (AreLines (byte ∷ text)) (sym (lines_of-more byte text other)) (longer byte text (lines_of text) other (found text))
]

pub found_at : (text : List ℕ) (lines : List (List ℕ)) → lines ≡ lines_of text → AreLines text lines
found_at text lines is = subst (AreLines text) (sym is) (found text)
