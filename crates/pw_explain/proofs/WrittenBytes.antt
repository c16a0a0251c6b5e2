-- The bytes that are written.
use Rattle.std.proofs.Common.{◌≡◌, ℕ, ◌≤◌, ◌-◌, List, [], ◌∷◌, ◌++◌, append_assoc, codes, length, map, take, drop, min, ap, sym, ◌∙◌}
use Rattle.std.proofs.lemmas.List.{drop_min, take_all, take_min, take_rest}
use Rattle.std.proofs.Math.Nat.{min_comm}
use Rattle.pw_info.specs.Bytes.{line_feed}
use Rattle.pw_explain.specs.Explanation.{GoesOn, SaysExpected, most_shown, said_near, shown_byte, shown_part}
use Rattle.std.proofs.Common.{Bor, Option, Some}

-- The bytes that code slices out of the line: at most `most` from a number on, whether the line has these or not.
pub sliced : (line rest : List ℕ) (from first most many i : ℕ) → first ≡ min from (length line) → rest ≡ take (length line - first) (drop first line) →
    many ≡ min (length rest) most → length (take many rest) ≤ i → take i (take many rest) ≡ take most (drop from line)
sliced line rest from first most many i begin is count past =
    take_all i (take many rest) past ∙ ap (λ (n : ℕ). take n rest) (count ∙ min_comm (length rest) most) ∙ take_min most rest
    ∙ ap (take most) (is ∙ take_rest line first ∙ ap (λ (n : ℕ). drop n line) begin ∙ drop_min from line)

-- Spaces, the bytes as they are shown, and a line feed.
pub written : (line text spaced at bytes : List ℕ) (from : ℕ) → spaced ≡ text ++ codes "    " → at ≡ spaced ++ map shown_byte bytes →
    bytes ≡ take most_shown (drop from line) → at ++ line_feed ∷ [] ≡ text ++ shown_part line from
written line text spaced at bytes from front is same =
    ap (λ (l : List ℕ). l ++ line_feed ∷ []) (is ∙ ap (λ (l : List ℕ). l ++ map shown_byte bytes) front)
    ∙ append_assoc (text ++ codes "    ") (map shown_byte bytes) (line_feed ∷ []) ∙ append_assoc text (codes "    ") (map shown_byte bytes ++ line_feed ∷ [])
    ∙ ap (λ (l : List ℕ). text ++ (codes "    " ++ (map shown_byte l ++ line_feed ∷ []))) same

-- Words before it, what was expected, and the nearest name.
pub said : (near : Option (Bor (List ℕ))) (old begun went named new : List ℕ) → begun ≡ old ++ codes "    expected " → GoesOn begun went →
    named ≡ went ++ said_near near → new ≡ named ++ line_feed ∷ [] → SaysExpected near old new
said near old begun went named new begins goes names ends = record {
  expected = goes.more;
  said =
      ends ∙ ap (λ (l : List ℕ). l ++ line_feed ∷ []) (names ∙ ap (λ (l : List ℕ). l ++ said_near near) (goes.is ∙ ap (λ (l : List ℕ). l ++ goes.more) begins))
      ∙ append_assoc ((old ++ codes "    expected ") ++ goes.more) (said_near near) (line_feed ∷ [])
      ∙ append_assoc (old ++ codes "    expected ") goes.more (said_near near ++ line_feed ∷ [])
      ∙ append_assoc old (codes "    expected ") (goes.more ++ (said_near near ++ line_feed ∷ []));
}

-- The nearest name between its words.
pub named : (near : Option (Bor (List ℕ))) (name : Bor (List ℕ)) (old begun went new : List ℕ) → near ≡ Some name → begun ≡ old ++ codes "; perhaps `" → went ≡ begun ++ name.now →
    new ≡ went ++ codes "`" → new ≡ old ++ said_near near
named near name old begun went new is begins names ends =
    ends ∙ ap (λ (l : List ℕ). l ++ codes "`") (names ∙ ap (λ (l : List ℕ). l ++ name.now) begins) ∙ append_assoc (old ++ codes "; perhaps `") name.now (codes "`")
    ∙ append_assoc old (codes "; perhaps `") (name.now ++ codes "`") ∙ ap (λ (n : Option (Bor (List ℕ))). old ++ said_near n) (sym is)
