-- Names of numbers, written in a row, each after a space.
use Rattle.std.proofs.Common.{◌≡◌, ℕ, ◌+◌, ◌<◌, ◌==◌, false, List, [], ◌∷◌, ◌++◌, length, codes, take, drop, get_or, refl, sym, ap, ◌∙◌, arith}
use Rattle.std.specs.Prelude.{map}
use Rattle.std.specs.Fmt.{decimal}
use Rattle.std.specs.List.{flat_map}
use Rattle.std.proofs.lemmas.Grind.{flat_map-append}
use Rattle.std.proofs.lemmas.List.{length-map, map-append, take-append-drop, take_more}
use Rattle.pw_info.specs.SetNames.{name_at}
use Rattle.pw_reasons.specs.Conflicts.{Conflicts}
use Rattle.pw_decl.specs.Declaration.{Declared}
use Rattle.pw_transcript.specs.ReplyText.{after_space, conflict_names, text_of_names}
use Rattle.pw_transcript.proofs.PremiseTexts.{with_name}

module _ (name : ℕ → List ℕ) (numbers : List ℕ) (at : ℕ) (within : at < length numbers) where
  -- one more name
  pub row_more : flat_map after_space (map name (take (at + 1) numbers)) ≡ flat_map after_space (map name (take at numbers)) ++ after_space (name (get_or numbers at 0))
  row_more =
      ap (λ l. flat_map after_space (map name l)) (take_more numbers at 0 within)
      ∙ ap (flat_map after_space) (map-append name (take at numbers) (get_or numbers at 0 ∷ []))
      ∙ with_name (map name (take at numbers)) (name (get_or numbers at 0))

  -- what is written with one more name is a front of the whole
  pub row_whole : flat_map after_space (map name numbers)
      ≡ (flat_map after_space (map name (take at numbers)) ++ after_space (name (get_or numbers at 0))) ++ flat_map after_space (map name (drop (at + 1) numbers))
  row_whole =
      let rest = map name (drop (at + 1) numbers) in
      ap (λ l. flat_map after_space (map name l)) (sym (take-append-drop (at + 1) numbers))
      ∙ ap (flat_map after_space) (map-append name (take (at + 1) numbers) (drop (at + 1) numbers))
      ∙ flat_map-append after_space (map name (take (at + 1) numbers)) rest
      ∙ ap (λ l. l ++ flat_map after_space rest) row_more

-- names in two rows, of which one has a name
two_rows : (xs ys : List (List ℕ)) → 0 < length xs + length ys → text_of_names (xs ++ ys) ≡ flat_map after_space xs ++ flat_map after_space ys
two_rows [] [] some = absurd (omega arith)
two_rows [] (y ∷ ys) some = refl
two_rows (x ∷ xs) ys some = flat_map-append after_space (x ∷ xs) ys

-- if a list that the code found to hold something is of cells or of lines, something is
-- contradictory
pub some_cell : (conflicts : Conflicts) (cells : List ℕ) → cells ≡ conflicts.cells → false ≡ (length cells == 0) →
    0 < length conflicts.cells + length conflicts.lines
some_cell conflicts [] same some = absurd (cc)
some_cell conflicts (cell ∷ cells) same some = omega (arith, ap length same)

pub some_line : (conflicts : Conflicts) (lines : List ℕ) → lines ≡ conflicts.lines → false ≡ (length lines == 0) →
    0 < length conflicts.cells + length conflicts.lines
some_line conflicts [] same some = absurd (cc)
some_line conflicts (line ∷ lines) same some = omega (arith, ap length same)

-- if something is contradictory, the names of the cells are written, and then those of the lines
pub conflicts_text : (d : Declared) (conflicts : Conflicts) → 0 < length conflicts.cells + length conflicts.lines →
    text_of_names (conflict_names d conflicts)
    ≡ flat_map after_space (map (name_at d.cells) conflicts.cells) ++ flat_map after_space (map (λ line. codes "line " ++ decimal line) conflicts.lines)
conflicts_text d conflicts some =
    two_rows (map (name_at d.cells) conflicts.cells) (map (λ line. codes "line " ++ decimal line) conflicts.lines)
    (omega (arith, length-map conflicts.cells (name_at d.cells), length-map conflicts.lines (λ (line : ℕ). codes "line " ++ decimal line)))
