-- The part of a text that is dropped, and what is left then.
use Rattle.std.proofs.Common.{◌≡◌, ℕ, ◌+◌, ◌-◌, ◌≤◌, ◌<◌, ◌⊎◌, List, [], ◌∷◌, ◌++◌, append_assoc, append-nil, drop, length, length-append, map, min, sym, ap, subst, ◌∙◌, inl, inr, take, arith}
use Rattle.pw_info.specs.Bytes.{line_feed}
use Rattle.pw_info.specs.Lines.{lines_of, text_of_lines}
use Rattle.std.proofs.Math.Seq.{drop-append_seam, drop-length, take-add, take-append-add, take-length}
use Rattle.std.proofs.lemmas.List.{drop-drop, drop-take, length-drop, length-take, map-append, length-take-le, nil_from_length, take-append-drop}
use borrow.Rule.Slice.PartMut.{put_mid}
use Rattle.std.proofs.lemmas.Slice.{drop-put_mid, take-put_mid}
use Rattle.pw_explain.specs.Cut.{AreWholeLines, IsRestOf}
use Rattle.pw_explain.specs.declared.spot.Place.{Place}
use Rattle.pw_explain.specs.Spot.{bytes_at}
use Rattle.pw_explain.specs.Unread.{EndsInFeed, IsDropped, IsPartOf, StaysLeft, WasKept, KeepsLines, Left, line_of, most_lines}
use Rattle.pw_explain.proofs.LineEnds.{all_append, ends_back, lines_end, lines_of-part, lines_of-two, some_lines, text_of_all}
use Rattle.pw_explain.proofs.KeptLines.{still_ahead}

-- ---- the part that is dropped

-- A text in three pieces, cut by lengths.
front_is : (text front rest : List ℕ) → text ≡ front ++ rest → take (length front) text ≡ front
front_is text front rest is = ap (take (length front)) is ∙ ap (λ (n : ℕ). take n (front ++ rest)) (omega arith) ∙ take-append-add front rest 0 ∙ append-nil front

rest_is : (text front rest : List ℕ) → text ≡ front ++ rest → drop (length front) text ≡ rest
rest_is text front rest is = ap (drop (length front)) is ∙ drop-append_seam front rest

pub part_is : (text before line after rest : List ℕ) (number to : ℕ) → AreWholeLines (number - 1) before → text ≡ before ++ (line ++ after) → (line ++ after ≡ [] → ⊥) →
    IsRestOf after rest → to ≡ length text - length rest → IsPartOf text number (record { from = length before; to = to })
part_is text before line after rest number to lines is some rests to_is =
    let part : List ℕ = line ++ rests.before in
    let whole : line ++ after ≡ part ++ rest = ap (λ (l : List ℕ). line ++ l) rests.is ∙ sym (append_assoc line rests.before rest) in
    let all : text ≡ before ++ (part ++ rest) = is ∙ ap (λ (l : List ℕ). before ++ l) whole in
    let many : to ≡ length before + length part = omega (arith, to_is, ap length all, length-append before (part ++ rest), length-append part rest) in
    let here : bytes_at text (record { from = length before; to = to }) ≡ part =
    ap (λ (n : ℕ). take n (drop (length before) text)) (omega (arith, many)) ∙ front_is (drop (length before) text) part rest (rest_is text before (part ++ rest) all) in
    let behind : drop to text ≡ rest =
    ap (λ (n : ℕ). drop n text) (many ∙ sym (length-append before part)) ∙ rest_is text (before ++ part) rest (all ∙ sym (append_assoc before part rest)) in
    record {
      lies = record { order = omega (arith, many); within = omega (arith, to_is) };
      some = elim rests.ends [
        | inl none ↦
            let full : length part ≡ 0 → ⊥ = λ zero. some (whole ∙ ap (λ (l : List ℕ). part ++ l) none ∙ append-nil part ∙ nil_from_length part zero) in omega (arith, many, full)
        | inr (front, ends) ↦ omega (arith, many, length-append line rests.before, ap length ends, length-append front (line_feed ∷ []))
      ];
      before = subst (AreWholeLines (number - 1)) (sym (front_is text before (part ++ rest) all)) lines;
      after = elim rests.ends [
        | inl none ↦ inl (behind ∙ none)
        | inr (front, ends) ↦ inr (subst EndsInFeed (sym here) (inr (line ++ front, ap (λ (l : List ℕ). line ++ l) ends ∙ sym (append_assoc line front (line_feed ∷ [])))))
      ];
    }

-- ---- what is left after that

past_all : (lines part rest : List (List ℕ)) (now : ℕ) → drop now lines ≡ part ++ rest → drop (now + length part) lines ≡ rest
past_all lines part rest now is = sym (drop-drop (length part) now lines) ∙ ap (drop (length part)) is ∙ drop-append_seam part rest

pub is_dropped : (old new : Left) (number : ℕ) (between part kept : List ℕ) (now : ℕ) → KeepsLines between old.numbers old.passed kept new.numbers now →
    old.rest ≡ between ++ (part ++ new.rest) → (part ≡ [] → ⊥) → AreWholeLines (number - 1) (old.front ++ between) → new.front ≡ old.front ++ kept → IsDropped number old new
is_dropped old new number between part kept now keeps rests some lines front = record {
  between = between;
  part = part;
  rest = rests;
  some = some;
  at = lines;
  front = front ∙ ap (λ (l : List ℕ). old.front ++ l) (keeps.are ∙ ap (λ (ls : List (List ℕ)). text_of_lines ls []) keeps.which);
}

pub stays_left : (old new : Left) (between part kept : List ℕ) (now : ℕ) → KeepsLines between old.numbers old.passed kept new.numbers now → EndsInFeed between →
    old.rest ≡ between ++ (part ++ new.rest) → ((new.rest ≡ []) ⊎ EndsInFeed part) → (part ≡ [] → ⊥) → new.front ≡ old.front ++ kept →
    new.passed ≡ min (now + length (lines_of part)) most_lines → StaysLeft old new
stays_left old new between part kept now keeps ends rests behind some front passed whole few left =
    let later : List (List ℕ) = lines_of part ++ lines_of new.rest in
    let split : lines_of old.rest ≡ lines_of between ++ later =
    ap lines_of rests ∙ lines_of-two between (part ++ new.rest) ends ∙ ap (λ (ls : List (List ℕ)). lines_of between ++ ls) (lines_of-part part new.rest behind) in
    let found = keeps.each whole later few (sym left.rest ∙ split) in
    let many : new.passed ≡ now + length (lines_of part) =
    omega (arith, passed, few, some_lines part some, ap length found.1, length-drop now (lines_of whole), length-append (lines_of part) (lines_of new.rest)) in
    record {
      lines = left.lines ++ keeps.lines;
      are =
          ap (λ (ls : List (List ℕ)). ls ++ keeps.lines) left.are ∙ ap (λ (ls : List (List ℕ)). map (line_of whole) old.numbers ++ ls) found.0
          ∙ sym (map-append (line_of whole) old.numbers keeps.listed) ∙ ap (map (line_of whole)) (sym keeps.numbers_are);
      have_no_end = all_append left.lines keeps.lines left.have_no_end keeps.have_no_end;
      front =
          front ∙ ap (λ (l : List ℕ). l ++ kept) left.front ∙ ap (λ (l : List ℕ). text_of_lines left.lines [] ++ l) keeps.are ∙ sym (text_of_all left.lines keeps.lines);
      rest = sym (ap (λ (n : ℕ). drop n (lines_of whole)) many ∙ past_all (lines_of whole) (lines_of part) (lines_of new.rest) now found.1);
    }

-- What comes after a slice of a vector that is written.
pub behind_slice : (items values new : List ℕ) (len rest from : ℕ) → values ≡ items → len ≡ length items → rest ≤ from → from ≤ length items → length new ≡ from - rest →
    drop from (take len (put_mid rest (from - rest) values new ++ drop (length (put_mid rest (from - rest) values new)) items)) ≡ drop from items
behind_slice items values new len rest from same len_is order within size =
    let there : rest ≤ length values = omega (arith, order, within, ap length same) in
    let whole : List ℕ = put_mid rest (from - rest) values new in
    let behind : drop from whole ≡ drop from values = drop-put_mid rest (from - rest) values new from (omega (arith, order)) there size in
    let front : take from whole ≡ take rest values ++ new = take-put_mid rest (from - rest) values new from (omega (arith, size, order)) there in
    let half : length (take from whole) ≡ from = ap length front ∙ length-append (take rest values) new ∙ omega (arith, length-take-le rest values there, size, order) in
    let size_is : length whole ≡ length items =
    ap length (sym (take-append-drop from whole)) ∙ length-append (take from whole) (drop from whole)
    ∙ omega (arith, half, ap length behind, length-drop from values, ap length same, within) in
    ap (λ (l : List ℕ). drop from (take len (whole ++ l))) (ap (λ (n : ℕ). drop n items) size_is ∙ drop-length items)
    ∙ ap (λ (l : List ℕ). drop from (take len l)) (append-nil whole) ∙ ap (λ (n : ℕ). drop from (take n whole)) (len_is ∙ sym size_is) ∙ ap (drop from) (take-length whole) ∙ behind
    ∙ ap (drop from) same

-- ---- the bytes of what is left

-- The text of what is left begins at `start`.
text_at : (bytes : List ℕ) (start rest : ℕ) → start ≤ rest → take (rest - start) (drop start bytes) ++ drop rest bytes ≡ drop start bytes
text_at bytes start rest order =
    ap (λ (l : List ℕ). take (rest - start) (drop start bytes) ++ l) (ap (λ (n : ℕ). drop n bytes) (omega (arith, order)) ∙ sym (drop-drop (rest - start) start bytes))
    ∙ take-append-drop (rest - start) (drop start bytes)

-- Up to a byte of the rest: the lines that were kept, and the bytes between.
text_to : (bytes : List ℕ) (start rest more : ℕ) → start ≤ rest → rest ≤ start + more →
    take more (drop start bytes) ≡ take (rest - start) (drop start bytes) ++ take (start + more - rest) (drop rest bytes)
text_to bytes start rest more order further =
    ap (λ (n : ℕ). take n (drop start bytes)) (omega (arith, order, further)) ∙ take-add (rest - start) (start + more - rest) (drop start bytes)
    ∙ ap (λ (l : List ℕ). take (rest - start) (drop start bytes) ++ take (start + more - rest) l) (drop-drop (rest - start) start bytes ∙ ap (λ (n : ℕ). drop n bytes) (omega (arith, order)))

pub between_ends : (bytes text : List ℕ) (start rest number : ℕ) (part : Place) → start ≤ rest → text ≡ take (rest - start) (drop start bytes) ++ drop rest bytes →
    IsPartOf text number part → rest ≤ start + part.from → EndsInFeed (take (start + part.from - rest) (drop rest bytes))
between_ends bytes text start rest number part order is of further =
    let whole : text ≡ drop start bytes = is ∙ text_at bytes start rest order in
    let split : take part.from text ≡ take (rest - start) (drop start bytes) ++ take (start + part.from - rest) (drop rest bytes) =
    ap (take part.from) whole ∙ text_to bytes start rest part.from order further in
    ends_back (take (rest - start) (drop start bytes)) (take (start + part.from - rest) (drop rest bytes))
    (subst EndsInFeed (sym of.before.are ∙ split) (lines_end of.before.lines))

pub was_kept : (left : Left) (bytes text : List ℕ) (start rest number : ℕ) (part : Place) → left.front ≡ take (rest - start) (drop start bytes) → text ≡ left.front ++ left.rest →
    rest ≤ length bytes → IsPartOf text number part → start + part.from < rest → WasKept number left
was_kept left bytes text start rest number part front_is text_is within of before = record {
  before = take part.from text;
  rest = drop part.from text;
  is = sym text_is ∙ sym (take-append-drop part.from text);
  at = of.before;
  within =
      omega (
        arith,
        length-take-le part.from text (omega (arith, of.lies.order, of.lies.within)),
        ap length front_is,
        before,
        within,
        length-take-le (rest - start) (drop start bytes) (omega (arith, length-drop start bytes, within)),
      );
}

-- What the steps of a drop leave.
pub record Steps (bytes mid last : List ℕ) (start rest from to end begins : ℕ) : Type 0 where
  pub order : start ≤ rest
  pub further : rest ≤ from
  pub past : from ≤ to
  pub within : to ≤ length bytes
  pub ends : rest ≤ end
  pub front : take rest mid ≡ take rest bytes
  pub after : drop from mid ≡ drop from bytes
  pub moved : take (to - begins) (drop begins last) ≡ take (end - start) (drop start mid)
  pub behind : drop to last ≡ drop to mid

moved_front : (bytes mid last : List ℕ) (start rest from to end begins : ℕ) → Steps bytes mid last start rest from to end begins →
    take (to - begins) (drop begins last) ≡ take (rest - start) (drop start bytes) ++ take (end - rest) (drop rest mid)
moved_front bytes mid last start rest from to end begins steps =
    let here : take (rest - start) (drop start mid) ≡ take (rest - start) (drop start bytes) =
    sym (drop-take start (rest - start) mid) ∙ ap (λ (n : ℕ). drop start (take n mid)) (omega (arith, steps.order)) ∙ ap (drop start) steps.front
    ∙ ap (λ (n : ℕ). drop start (take n bytes)) (omega (arith, steps.order)) ∙ drop-take start (rest - start) bytes in
    steps.moved ∙ ap (λ (n : ℕ). take n (drop start mid)) (omega (arith, steps.order, steps.ends)) ∙ text_to mid start rest (end - start) steps.order (omega (arith, steps.order, steps.ends))
    ∙ ap (λ (l : List ℕ). l ++ take (start + (end - start) - rest) (drop rest mid)) here
    ∙ ap (λ (n : ℕ). take (rest - start) (drop start bytes) ++ take n (drop rest mid)) (omega (arith, steps.order, steps.ends))

moved_rest : (bytes mid last : List ℕ) (start rest from to end begins : ℕ) → Steps bytes mid last start rest from to end begins →
    drop rest bytes ≡ take (from - rest) (drop rest bytes) ++ (take (to - from) (drop from mid) ++ drop to last)
moved_rest bytes mid last start rest from to end begins steps =
    let later : drop from mid ≡ take (to - from) (drop from mid) ++ drop to last =
    sym (take-append-drop (to - from) (drop from mid))
    ∙ ap (λ (l : List ℕ). take (to - from) (drop from mid) ++ l) (drop-drop (to - from) from mid ∙ ap (λ (n : ℕ). drop n mid) (omega (arith, steps.past)) ∙ sym steps.behind) in
    sym (take-append-drop (from - rest) (drop rest bytes))
    ∙ ap (λ (l : List ℕ). take (from - rest) (drop rest bytes) ++ l)
    (drop-drop (from - rest) rest bytes ∙ ap (λ (n : ℕ). drop n bytes) (omega (arith, steps.further)) ∙ sym steps.after ∙ later)

-- What `drop_line` leaves.
pub record Drops (old new : Left) (bytes mid last text : List ℕ) (start rest end begins number now : ℕ) (part : Place) : Type 0 where
  pub steps : Steps bytes mid last start rest (start + part.from) (start + part.to) end begins
  pub old_front : old.front ≡ take (rest - start) (drop start bytes)
  pub old_rest : old.rest ≡ drop rest bytes
  pub text_is : text ≡ old.front ++ old.rest
  pub of : IsPartOf text number part
  pub keeps : KeepsLines (take (start + part.from - rest) (drop rest bytes)) old.numbers old.passed (take (end - rest) (drop rest mid)) new.numbers now
  pub new_front : new.front ≡ take (start + part.to - begins) (drop begins last)
  pub new_rest : new.rest ≡ drop (start + part.to) last
  pub passed : new.passed ≡ min (now + length (lines_of (take (start + part.to - (start + part.from)) (drop (start + part.from) mid)))) most_lines

text_of_drop : (old new : Left) (bytes mid last text : List ℕ) (start rest end begins number now : ℕ) (part : Place) → Drops old new bytes mid last text start rest end begins number now part →
    text ≡ drop start bytes
text_of_drop old new bytes mid last text start rest end begins number now part drops =
    drops.text_is ∙ ap (λ (l : List ℕ). l ++ old.rest) drops.old_front ∙ ap (λ (l : List ℕ). take (rest - start) (drop start bytes) ++ l) drops.old_rest
    ∙ text_at bytes start rest drops.steps.order

piece_of_drop : (old new : Left) (bytes mid last text : List ℕ) (start rest end begins number now : ℕ) (part : Place) → Drops old new bytes mid last text start rest end begins number now part →
    take (start + part.to - (start + part.from)) (drop (start + part.from) mid) ≡ bytes_at text part
piece_of_drop old new bytes mid last text start rest end begins number now part drops =
    ap (λ (n : ℕ). take n (drop (start + part.from) mid)) (omega arith)
    ∙ ap (take (part.to - part.from))
    (drops.steps.after ∙ sym (drop-drop part.from start bytes) ∙ ap (drop part.from) (sym (text_of_drop old new bytes mid last text start rest end begins number now part drops)))

rest_of_drop : (old new : Left) (bytes mid last text : List ℕ) (start rest end begins number now : ℕ) (part : Place) → Drops old new bytes mid last text start rest end begins number now part →
    new.rest ≡ drop part.to text
rest_of_drop old new bytes mid last text start rest end begins number now part drops =
    let later : drop (start + part.to) mid ≡ drop (start + part.to) bytes =
    ap (λ (n : ℕ). drop n mid) (omega (arith, drops.steps.past)) ∙ still_ahead bytes mid (start + part.from) (part.to - part.from) drops.steps.after
    ∙ ap (λ (n : ℕ). drop n bytes) (omega (arith, drops.steps.past)) in
    drops.new_rest ∙ drops.steps.behind ∙ later ∙ sym (drop-drop part.to start bytes) ∙ ap (drop part.to) (sym (text_of_drop old new bytes mid last text start rest end begins number now part drops))

some_of_part : (text : List ℕ) (number : ℕ) (part : Place) → IsPartOf text number part → bytes_at text part ≡ [] → ⊥
some_of_part text number part of none =
    omega (arith, of.some, of.lies.within, ap length none, length-take-le (part.to - part.from) (drop part.from text) (omega (arith, length-drop part.from text, of.lies.within)))

rests_of_drop : (old new : Left) (bytes mid last text : List ℕ) (start rest end begins number now : ℕ) (part : Place) → Drops old new bytes mid last text start rest end begins number now part →
    old.rest ≡ take (start + part.from - rest) (drop rest bytes) ++ (bytes_at text part ++ new.rest)
rests_of_drop old new bytes mid last text start rest end begins number now part drops =
    drops.old_rest ∙ moved_rest bytes mid last start rest (start + part.from) (start + part.to) end begins drops.steps
    ∙ ap (λ (l : List ℕ). take (start + part.from - rest) (drop rest bytes) ++ (l ++ drop (start + part.to) last))
    (piece_of_drop old new bytes mid last text start rest end begins number now part drops)
    ∙ ap (λ (l : List ℕ). take (start + part.from - rest) (drop rest bytes) ++ (bytes_at text part ++ l)) (sym drops.new_rest)

front_of_drop : (old new : Left) (bytes mid last text : List ℕ) (start rest end begins number now : ℕ) (part : Place) → Drops old new bytes mid last text start rest end begins number now part →
    new.front ≡ old.front ++ take (end - rest) (drop rest mid)
front_of_drop old new bytes mid last text start rest end begins number now part drops =
    drops.new_front ∙ moved_front bytes mid last start rest (start + part.from) (start + part.to) end begins drops.steps
    ∙ ap (λ (l : List ℕ). l ++ take (end - rest) (drop rest mid)) (sym drops.old_front)

pub drops_line : (old new : Left) (bytes mid last text : List ℕ) (start rest end begins number now : ℕ) (part : Place) → Drops old new bytes mid last text start rest end begins number now part →
    IsDropped number old new
drops_line old new bytes mid last text start rest end begins number now part drops =
    let lines : take part.from text ≡ old.front ++ take (start + part.from - rest) (drop rest bytes) =
    ap (take part.from) (text_of_drop old new bytes mid last text start rest end begins number now part drops)
    ∙ text_to bytes start rest part.from drops.steps.order drops.steps.further
    ∙ ap (λ (l : List ℕ). l ++ take (start + part.from - rest) (drop rest bytes)) (sym drops.old_front) in
    is_dropped old new number (take (start + part.from - rest) (drop rest bytes)) (bytes_at text part) (take (end - rest) (drop rest mid)) now drops.keeps
    (rests_of_drop old new bytes mid last text start rest end begins number now part drops) (some_of_part text number part drops.of)
    (subst (AreWholeLines (number - 1)) lines drops.of.before) (front_of_drop old new bytes mid last text start rest end begins number now part drops)

pub drop_leaves : (old new : Left) (bytes mid last text : List ℕ) (start rest end begins number now : ℕ) (part : Place) → Drops old new bytes mid last text start rest end begins number now part →
    StaysLeft old new
drop_leaves old new bytes mid last text start rest end begins number now part drops =
    let behind : (new.rest ≡ []) ⊎ EndsInFeed (bytes_at text part) = elim drops.of.after [
      | inl none ↦ inl (rest_of_drop old new bytes mid last text start rest end begins number now part drops ∙ none)
      | inr ends ↦ inr ends
    ] in
    stays_left old new (take (start + part.from - rest) (drop rest bytes)) (bytes_at text part) (take (end - rest) (drop rest mid)) now drops.keeps
    (between_ends bytes text start rest number part drops.steps.order
    (drops.text_is ∙ ap (λ (l : List ℕ). l ++ old.rest) drops.old_front ∙ ap (λ (l : List ℕ). take (rest - start) (drop start bytes) ++ l) drops.old_rest) drops.of drops.steps.further)
    (rests_of_drop old new bytes mid last text start rest end begins number now part drops) behind (some_of_part text number part drops.of)
    (front_of_drop old new bytes mid last text start rest end begins number now part drops)
    (drops.passed ∙ ap (λ (l : List ℕ). min (now + length (lines_of l)) most_lines) (piece_of_drop old new bytes mid last text start rest end begins number now part drops))

-- The part lies in the bytes.
pub part_within : (bytes text : List ℕ) (start rest number : ℕ) (part : Place) → start ≤ rest → rest ≤ length bytes → text ≡ take (rest - start) (drop start bytes) ++ drop rest bytes →
    IsPartOf text number part → start + part.to ≤ length bytes
part_within bytes text start rest number part order within is of =
    omega (arith, order, within, of.lies.within, ap length (is ∙ text_at bytes start rest order), length-drop start bytes)

-- what is left is shorter
pub drops_shorter : (old new : Left) (bytes mid last text : List ℕ) (start rest end begins number now : ℕ) (part : Place) → Drops old new bytes mid last text start rest end begins number now part →
    end ≤ start + part.from → length (new.front ++ new.rest) < length (old.front ++ old.rest)
drops_shorter old new bytes mid last text start rest end begins number now part drops within =
    let front : length new.front ≤ end - start =
    omega (arith, ap length drops.new_front, ap length drops.steps.moved, length-take (end - start) (drop start mid)) in
    let behind : length new.rest ≡ length text - part.to =
    ap length (rest_of_drop old new bytes mid last text start rest end begins number now part drops) ∙ length-drop part.to text in
    omega (arith, front, behind, length-append new.front new.rest, ap length drops.text_is, within, drops.of.some, drops.of.lies.within)
