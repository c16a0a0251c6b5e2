-- Lines before a line.
use Rattle.std.proofs.Common.{append_assoc, inl, ◌≡◌, ℕ, ◌+◌, ◌≤◌, ◌<◌, ◌-◌, List, [], ◌∷◌, ◌++◌, length, length-append, take, refl, sym, ap, subst, ◌∙◌, append-nil, inr, arith}
use Rattle.std.proofs.Math.Seq.{take-append-add}
use Rattle.pw_info.specs.Lines.{HasNoEnd, last_line, lines_of, text_of_lines}
use Rattle.pw_info.proofs.LineLemmas.{ended_more, lines_of_ended_lines, lines_of_held, text_ended, text_held}
use Rattle.pw_explain.specs.Cut.{AreWholeLines, HasNoLine, IsRestOf}

-- this many lines come before the rest of the text
pub record Precede (text rest : List ℕ) (number : ℕ) : Type 0 where
  pub before : List ℕ
  pub lines : AreWholeLines number before
  pub is : text ≡ before ++ rest

pub none_precede : (text : List ℕ) → Precede text text 0
none_precede text = record { before = []; lines = record { lines = []; many = refl; have_no_end = tt; are = refl }; is = refl }

-- One line more.
pub one_more : (text rest line after : List ℕ) (number more : ℕ) → Precede text rest number → rest ≡ line ++ 10 ∷ after → HasNoEnd line → more ≡ number + 1 → Precede text after more
one_more text rest line after number more held is none count = record {
  before = text_of_lines (held.lines.lines ++ line ∷ []) [];
  lines = record {
    lines = held.lines.lines ++ line ∷ [];
    many = length-append held.lines.lines (line ∷ []) ∙ ap (λ (n : ℕ). n + 1) held.lines.many ∙ sym count;
    have_no_end = ended_more held.lines.lines line held.lines.have_no_end none;
    are = refl;
  };
  is =
      held.is ∙ ap (λ (front : List ℕ). front ++ rest) held.lines.are ∙ ap (λ (end : List ℕ). text_of_lines held.lines.lines [] ++ end) is
      ∙ text_ended held.lines.lines [] line after ∙ sym (text_held (held.lines.lines ++ line ∷ []) [] after);
}

-- The text before the rest, as code slices it.
pub lines_before : (text rest : List ℕ) (number : ℕ) → Precede text rest number → AreWholeLines number (take (length text - length rest) text) × (text ≡ take (length text - length rest) text ++ rest)
lines_before text rest number held =
    let many : length text - length rest ≡ length held.before + 0 = omega (arith, ap length held.is ∙ length-append held.before rest) in
    let same : take (length text - length rest) text ≡ held.before =
    ap (λ (n : ℕ). take n text) many ∙ ap (take (length held.before + 0)) held.is ∙ take-append-add held.before rest 0 ∙ append-nil held.before in
    (subst (AreWholeLines number) (sym same) held.lines, held.is ∙ ap (λ (front : List ℕ). front ++ rest) (sym same))

lines_of_all : (text rest : List ℕ) (number : ℕ) → Precede text rest number → length (lines_of text) ≡ number + length (lines_of rest)
lines_of_all text rest number held =
    let whole : text ≡ text_of_lines held.lines.lines rest = held.is ∙ ap (λ (front : List ℕ). front ++ rest) held.lines.are ∙ text_held held.lines.lines [] rest in
    ap (λ (t : List ℕ). length (lines_of t)) whole ∙ ap length (lines_of_ended_lines held.lines.lines rest held.lines.have_no_end)
    ∙ length-append held.lines.lines (lines_of rest) ∙ ap (λ (n : ℕ). n + length (lines_of rest)) held.lines.many

one_at_most : (bytes : List ℕ) → length (last_line bytes) ≤ 1
one_at_most [] = omega arith
one_at_most (byte ∷ bytes) = omega arith

-- With no line feed in the rest, the text has at most one line more.
pub no_line_further : (text rest : List ℕ) (passed number : ℕ) → Precede text rest passed → HasNoEnd rest → passed + 1 < number → HasNoLine text number
no_line_further text rest passed number held none more =
    inr (omega (arith, lines_of_all text rest passed held, ap length (lines_of_held rest none), one_at_most rest))

-- With no rest, it has none.
pub no_line_left : (text rest : List ℕ) (passed number : ℕ) → Precede text rest passed → rest ≡ [] → passed < number → HasNoLine text number
no_line_left text rest passed number held none more =
    inr (omega (arith, lines_of_all text rest passed held, ap (λ (t : List ℕ). length (lines_of t)) none))

-- What comes after a line feed.
pub rest_after : (text front rest line after : List ℕ) → text ≡ front ++ rest → rest ≡ line ++ 10 ∷ after → IsRestOf text after
rest_after text front rest line after is line_is = record {
  before = (front ++ line) ++ 10 ∷ [];
  is = is ∙ ap (λ (end : List ℕ). front ++ end) (line_is ∙ sym (append_assoc line (10 ∷ []) after)) ∙ sym (append_assoc front (line ++ 10 ∷ []) after)
      ∙ ap (λ (l : List ℕ). l ++ after) (sym (append_assoc front line (10 ∷ [])));
  ends = inr (front ++ line, refl);
}

-- Nothing comes after all.
pub none_after : (text : List ℕ) → IsRestOf text []
none_after text = record { before = text; is = sym (append-nil text); ends = inl refl }

-- One line further, the rest is still an end of the text.
pub end_after : (text front rest line after : List ℕ) → text ≡ front ++ rest → rest ≡ line ++ 10 ∷ after → (before : List ℕ) × (text ≡ before ++ after)
end_after text front rest line after is line_is = let found = rest_after text front rest line after is line_is in (found.before, found.is)
