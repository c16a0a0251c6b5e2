-- Lines that are gone over, of which those that declare something are kept.
use Rattle.std.proofs.Common.{◌≡◌, ℕ, ◌+◌, ◌-◌, ◌≤◌, ◌<◌, List, [], ◌∷◌, ◌++◌, true, false, append_assoc, append-nil, drop, length, length-append, map, min, refl, sym, ap, subst, ◌∙◌, inl, inr, take, arith, slice_index_or}
use Rattle.pw_info.specs.Bytes.{line_feed}
use Rattle.pw_info.specs.Lines.{HasNoEnd, lines_of}
use Rattle.std.specs.List.{copy_within, filter}
use Rattle.std.proofs.Math.Seq.{paste, take-add, take-append-add}
use Rattle.std.proofs.lemmas.List.{drop-drop, get_or-drop, length-drop, map-append, take-append-drop}
use Rattle.std.proofs.lemmas.List.Elements.{filter-append}
use Rattle.std.proofs.lemmas.List.Edits.{drop-paste, length-paste, take-paste}
use Rattle.pw_info.proofs.LineLemmas.{ended_more, text_ended}
use Rattle.pw_explain.specs.Unread.{EndsInFeed, KeepsLines, declares, line_of, most_lines}
use Rattle.pw_explain.proofs.LineEnds.{nothing_left, with_line}

-- ---- one line more

-- what is left of lines after the first of them
one_dropped : (lines later : List (List ℕ)) (line : List ℕ) (now : ℕ) → drop now lines ≡ line ∷ later → drop (now + 1) lines ≡ later
one_dropped lines later line now is = sym (drop-drop 1 now lines) ∙ ap (drop 1) is

in_lines : (lines later : List (List ℕ)) (line : List ℕ) (now : ℕ) → drop now lines ≡ line ∷ later → now < length lines
in_lines lines later line now is = omega (arith, ap length is, length-drop now lines)

at_place : (lines later : List (List ℕ)) (line : List ℕ) (now : ℕ) → drop now lines ≡ line ∷ later → slice_index_or lines now [] ≡ line
at_place lines later line now is =
    ap (λ (n : ℕ). slice_index_or lines n []) (omega arith) ∙ sym (get_or-drop now lines 0 []) ∙ ap (λ (ls : List (List ℕ)). slice_index_or ls 0 []) is

next_of : (now more : ℕ) (lines : List (List ℕ)) → more ≡ min (now + 1) most_lines → now < length lines → length lines ≤ most_lines → more ≡ now + 1
next_of now more lines is less few = omega (arith, is, less, few)

filter_none : (line : List ℕ) → declares line ≡ false → filter declares (line ∷ []) ≡ []
filter_none line idle = rw idle refl

filter_one : (line : List ℕ) → declares line ≡ true → filter declares (line ∷ []) ≡ line ∷ []
filter_one line declaring = rw declaring refl

-- A line more was passed, and dropped.
pub drops_one : (bytes numbers kept more_numbers line : List ℕ) (passed now more : ℕ) → KeepsLines bytes numbers passed kept more_numbers now → EndsInFeed bytes → HasNoEnd line →
    declares line ≡ false → more ≡ min (now + 1) most_lines → KeepsLines (bytes ++ (line ++ line_feed ∷ [])) numbers passed kept more_numbers more
drops_one bytes numbers kept more_numbers line passed now more keeps ends none idle is = record {
  lines = keeps.lines;
  have_no_end = keeps.have_no_end;
  are = keeps.are;
  which = keeps.which ∙ sym (append-nil (filter declares (lines_of bytes))) ∙ ap (λ (ls : List (List ℕ)). filter declares (lines_of bytes) ++ ls) (sym (filter_none line idle)) ∙ sym (filter-append declares (lines_of bytes) (line ∷ [])) ∙ ap (filter declares) (sym (with_line bytes line ends none));
  listed = keeps.listed;
  numbers_are = keeps.numbers_are;
  each = λ whole later few come.
      let found = keeps.each whole (line ∷ later) few (come ∙ ap (λ (ls : List (List ℕ)). ls ++ later) (with_line bytes line ends none) ∙ append_assoc (lines_of bytes) (line ∷ []) later) in
      let count : more ≡ now + 1 = next_of now more (lines_of whole) is (in_lines (lines_of whole) later line now found.1) few in
      (found.0, ap (λ (n : ℕ). drop n (lines_of whole)) count ∙ one_dropped (lines_of whole) later line now found.1);
}

-- A line more was passed, and kept.
pub keeps_one : (bytes numbers kept more_kept more_numbers yet_more line : List ℕ) (passed now more : ℕ) → KeepsLines bytes numbers passed kept more_numbers now → EndsInFeed bytes → HasNoEnd line →
    declares line ≡ true → more ≡ min (now + 1) most_lines → yet_more ≡ more_numbers ++ more ∷ [] → more_kept ≡ kept ++ (line ++ line_feed ∷ []) →
    KeepsLines (bytes ++ (line ++ line_feed ∷ [])) numbers passed more_kept yet_more more
keeps_one bytes numbers kept more_kept more_numbers yet_more line passed now more keeps ends none declaring is listed_is kept_is = record {
  lines = keeps.lines ++ line ∷ [];
  have_no_end = ended_more keeps.lines line keeps.have_no_end none;
  are = kept_is ∙ ap (λ (l : List ℕ). l ++ (line ++ line_feed ∷ [])) keeps.are ∙ text_ended keeps.lines [] line [];
  which = ap (λ (ls : List (List ℕ)). ls ++ line ∷ []) keeps.which ∙ ap (λ (ls : List (List ℕ)). filter declares (lines_of bytes) ++ ls) (sym (filter_one line declaring)) ∙ sym (filter-append declares (lines_of bytes) (line ∷ [])) ∙ ap (filter declares) (sym (with_line bytes line ends none));
  listed = keeps.listed ++ more ∷ [];
  numbers_are = listed_is ∙ ap (λ (l : List ℕ). l ++ more ∷ []) keeps.numbers_are ∙ append_assoc numbers keeps.listed (more ∷ []);
  each = λ whole later few come.
      let found = keeps.each whole (line ∷ later) few (come ∙ ap (λ (ls : List (List ℕ)). ls ++ later) (with_line bytes line ends none) ∙ append_assoc (lines_of bytes) (line ∷ []) later) in
      let count : more ≡ now + 1 = next_of now more (lines_of whole) is (in_lines (lines_of whole) later line now found.1) few in
      let same : line_of whole more ≡ line = ap (λ (n : ℕ). slice_index_or (lines_of whole) n []) (omega (arith, count)) ∙ at_place (lines_of whole) later line now found.1 in (
        ap (λ (ls : List (List ℕ)). ls ++ line ∷ []) found.0 ∙ ap (λ (l : List ℕ). map (line_of whole) keeps.listed ++ l ∷ []) (sym same)
            ∙ sym (map-append (line_of whole) keeps.listed (more ∷ [])),
        ap (λ (n : ℕ). drop n (lines_of whole)) count ∙ one_dropped (lines_of whole) later line now found.1,
      );
}

-- At first no line was passed.
pub keeps_none : (numbers : List ℕ) (passed : ℕ) → KeepsLines [] numbers passed [] numbers passed
keeps_none numbers passed = record { lines = []; have_no_end = tt; are = refl; which = refl; listed = []; numbers_are = sym (append-nil numbers); each = λ whole later few come. (refl, come) }

-- ---- going over lines

-- The lines of the bytes up to `from` were looked at, and those of them that are kept end at `kept`.
pub record Looked (old lines numbers more_numbers : List ℕ) (passed now kept from : ℕ) : Type 0 where
  pub order : kept ≤ from
  pub within : from ≤ length lines
  pub len : length lines ≡ length old
  pub ahead : drop from lines ≡ drop from old
  pub ends : EndsInFeed (take from old)
  pub keeps : KeepsLines (take from old) numbers passed (take kept lines) more_numbers now

pub none_looked : (old numbers : List ℕ) (passed : ℕ) → Looked old old numbers numbers passed passed 0 0
none_looked old numbers passed = record { order = omega arith; within = omega arith; len = refl; ahead = refl; ends = inl refl; keeps = keeps_none numbers passed }

-- A line more, with its line feed.
taken : (old line rest : List ℕ) (from : ℕ) → drop from old ≡ line ++ line_feed ∷ rest → take (from + (length line + 1)) old ≡ take from old ++ (line ++ line_feed ∷ [])
taken old line rest from is =
    take-add from (length line + 1) old ∙ ap (λ (l : List ℕ). take from old ++ l) (ap (take (length line + 1)) is ∙ take-append-add line (line_feed ∷ rest) 1)

ends_after : (bytes line : List ℕ) → EndsInFeed (bytes ++ (line ++ line_feed ∷ []))
ends_after bytes line = inr (bytes ++ line, sym (append_assoc bytes line (line_feed ∷ [])))

room_for : (lines line rest : List ℕ) (from : ℕ) → drop from lines ≡ line ++ line_feed ∷ rest → from ≤ length lines → from + (length line + 1) ≤ length lines
room_for lines line rest from is within = omega (arith, ap length is, length-drop from lines, length-append line (line_feed ∷ rest), within)

pub still_ahead : (old lines : List ℕ) (from more : ℕ) → drop from lines ≡ drop from old → drop (from + more) lines ≡ drop (from + more) old
still_ahead old lines from more is = sym (drop-drop more from lines) ∙ ap (drop more) is ∙ drop-drop more from old

pub looked_dropped : (old lines numbers more_numbers line rest : List ℕ) (passed now more kept from next : ℕ) → Looked old lines numbers more_numbers passed now kept from →
    drop from lines ≡ line ++ line_feed ∷ rest → HasNoEnd line → declares line ≡ false → next ≡ from + (length line + 1) → more ≡ min (now + 1) most_lines →
    Looked old lines numbers more_numbers passed more kept next
looked_dropped old lines numbers more_numbers line rest passed now more kept from next looked is none idle next_is more_is =
    let after : take next old ≡ take from old ++ (line ++ line_feed ∷ []) = ap (λ (n : ℕ). take n old) next_is ∙ taken old line rest from (sym looked.ahead ∙ is) in
    record {
      order = omega (arith, looked.order, next_is);
      within = omega (arith, next_is, room_for lines line rest from is looked.within);
      len = looked.len;
      ahead = ap (λ (n : ℕ). drop n lines) next_is ∙ still_ahead old lines from (length line + 1) looked.ahead ∙ ap (λ (n : ℕ). drop n old) (sym next_is);
      ends = subst EndsInFeed (sym after) (ends_after (take from old) line);
      keeps =
          subst (λ (bytes : List ℕ). KeepsLines bytes numbers passed (take kept lines) more_numbers more) (sym after)
          (drops_one (take from old) numbers (take kept lines) more_numbers line passed now more looked.keeps looked.ends none idle more_is);
    }

pub looked_kept : (old lines new_lines numbers more_numbers yet_more line rest : List ℕ) (passed now more kept from next kept_now : ℕ) →
    Looked old lines numbers more_numbers passed now kept from → drop from lines ≡ line ++ line_feed ∷ rest → HasNoEnd line → declares line ≡ true → next ≡ from + (length line + 1) →
    more ≡ min (now + 1) most_lines → yet_more ≡ more_numbers ++ more ∷ [] → new_lines ≡ copy_within lines from next kept → kept_now ≡ kept + (length line + 1) →
    Looked old new_lines numbers yet_more passed more kept_now next
looked_kept old lines new_lines numbers more_numbers yet_more line rest passed now more kept from next kept_now looked is none declaring next_is more_is numbers_is lines_are kept_is =
    let n : ℕ = length line + 1 in
    let many : next - from ≡ n = omega (arith, next_is) in
    let after : take next old ≡ take from old ++ (line ++ line_feed ∷ []) = ap (λ (m : ℕ). take m old) next_is ∙ taken old line rest from (sym looked.ahead ∙ is) in
    let pasted : new_lines ≡ paste lines kept (drop from lines) n = lines_are ∙ ap (paste lines kept (drop from lines)) many in
    let there : kept ≤ length lines = omega (arith, looked.order, looked.within) in
    let enough : n ≤ length (drop from lines) = omega (arith, length-drop from lines, room_for lines line rest from is looked.within) in
    let room : kept + n ≤ length lines = omega (arith, looked.order, room_for lines line rest from is looked.within) in
    let front : take kept_now new_lines ≡ take kept lines ++ (line ++ line_feed ∷ []) =
    ap (λ (m : ℕ). take m new_lines) kept_is ∙ ap (take (kept + n)) pasted ∙ take-paste lines kept (drop from lines) n there enough
    ∙ ap (λ (l : List ℕ). take kept lines ++ l) (ap (take n) is ∙ take-append-add line (line_feed ∷ rest) 1) in
    let between : next ≡ (kept + n) + (from - kept) = omega (arith, next_is, looked.order) in
    let behind : drop next new_lines ≡ drop next lines =
    ap (λ (m : ℕ). drop m new_lines) between ∙ still_ahead lines new_lines (kept + n) (from - kept) (ap (drop (kept + n)) pasted ∙ drop-paste lines kept (drop from lines) n there enough)
    ∙ ap (λ (m : ℕ). drop m lines) (sym between) in
    record {
      order = omega (arith, looked.order, next_is, kept_is);
      within = omega (arith, next_is, room_for lines line rest from is looked.within, ap length pasted, length-paste lines kept (drop from lines) n room enough);
      len = ap length pasted ∙ length-paste lines kept (drop from lines) n room enough ∙ looked.len;
      ahead = behind ∙ ap (λ (m : ℕ). drop m lines) next_is ∙ still_ahead old lines from n looked.ahead ∙ ap (λ (m : ℕ). drop m old) (sym next_is);
      ends = subst EndsInFeed (sym after) (ends_after (take from old) line);
      keeps =
          subst (λ (bytes : List ℕ). KeepsLines bytes numbers passed (take kept_now new_lines) yet_more more) (sym after)
          (keeps_one (take from old) numbers (take kept lines) (take kept_now new_lines) more_numbers yet_more line passed now more looked.keeps looked.ends none declaring more_is numbers_is front);
    }

pub all_looked : (old lines numbers more_numbers : List ℕ) (passed now kept from : ℕ) → Looked old lines numbers more_numbers passed now kept from → EndsInFeed old → HasNoEnd (drop from lines) →
    KeepsLines old numbers passed (take kept lines) more_numbers now
all_looked old lines numbers more_numbers passed now kept from looked ends none =
    let left : drop from old ≡ [] = nothing_left (take from old) (drop from old) (subst EndsInFeed (sym (take-append-drop from old)) ends) (subst HasNoEnd looked.ahead none) in
    let whole : take from old ≡ old = sym (append-nil (take from old)) ∙ ap (λ (l : List ℕ). take from old ++ l) (sym left) ∙ take-append-drop from old in
    subst (λ (bytes : List ℕ). KeepsLines bytes numbers passed (take kept lines) more_numbers now) whole looked.keeps

pub keeps_as : (bytes kept numbers same_numbers more same_more : List ℕ) (passed same_passed now : ℕ) → same_numbers ≡ numbers → same_passed ≡ passed → same_more ≡ more →
    KeepsLines bytes numbers passed kept more now → KeepsLines bytes same_numbers same_passed kept same_more now
keeps_as bytes kept numbers same_numbers more same_more passed same_passed now one two three keeps = rw (one, two, three) keeps
