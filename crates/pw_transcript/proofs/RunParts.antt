-- The bytes of a transcript in parts: what came before, what is held, which lines have ended and how
-- many they are.
use Rattle.std.proofs.Common.{◌≡◌, ◌≢◌, ℕ, ◌+◌, ◌<◌, ◌≤◌, true, false, eqb, nat_le, List, [], ◌∷◌, ◌++◌, length, Result, Ok, Err, IfOk, OnOk, OnErr, refl, sym, ap, ◌∙◌, inl, inr, append-nil, append_assoc, length-append, length-take-le, take, drop, arith}
use Rattle.std.proofs.lemmas.List.{take-append-le, take-append-drop}
use Rattle.std.specs.List.{AllByRecursion, flat_map}
use Rattle.std.proofs.lemmas.Bool.{cases_Bool, eqb-true, eqb-false}
use Rattle.std.proofs.lemmas.Bool.Decides.{nat_tests}
use Rattle.std.proofs.lemmas.Grind.{flat_map-append}
use Rattle.std.specs.Prelude.{Option, Some}
use Rattle.pw_info.specs.Lines.{lines_of, HasNoEnd, text_of_lines, last_line, AreLines}
use Rattle.pw_transcript.specs.Limits.{most_lines}
use Rattle.pw_decl.specs.Declaration.{Declared}
use Rattle.pw_sessions.specs.Reply.{LineReading}
use Rattle.pw_sessions.specs.Answer.{reply_to, replies_of}
use Rattle.pw_transcript.specs.ReplyText.{text_if_any, text_of_replies}
use Rattle.pw_transcript.specs.FromScratch.{LinesComeTo, GetReplies, EndIn}
use Rattle.pw_transcript.specs.inside.Answering.{held_line}
use Rattle.pw_info.proofs.LineLemmas.{lines_of_text, text_ended, found_at}
use Rattle.pw_transcript.proofs.ReplyLemmas.{text_of_replies_of-snoc, length-LinesComeTo, ReadAs-from_ComeTo}

-- ---- readings

-- lines get the replies that follow from the readings that they get
pub get_replies : (d : Declared) (lines : List (List ℕ)) (readings : List LineReading) → LinesComeTo d lines readings → GetReplies d lines (replies_of d readings)
get_replies d lines readings come = record { readings = readings; come = come; plain = ReadAs-from_ComeTo d lines readings come; replies_are = refl }

-- ---- what is held

-- a line of which nothing is held is empty
pub held_nothing : (line : List ℕ) → held_line line ≡ held_line [] → line ≡ []
held_nothing line same = elim (cases_Bool (nat_le (length line) 1024)) [
  | inl fits ↦ let e = rw fits at same in cc
  | inr long ↦ let e = rw long at same in cc
]

-- a piece that is no longer than a line that is read is held as it is, if nothing was held before
-- it
pub held_whole : (line piece : List ℕ) (held : Option (List ℕ)) → held ≡ held_line [] → length piece ≤ 1024 → held ≡ held_line line → Some piece ≡ held_line (line ++ piece)
held_whole line piece held none short is =
    let empty : line ≡ [] = held_nothing line (sym is ∙ none) in
    let fits : nat_le (length piece) 1024 ≡ true = grind (arith, nat_tests) in
    rw empty (rw fits refl)

pub empty_line : (line : List ℕ) → eqb (length line) 0 ≡ true → line ≡ []
empty_line [] zero_length = refl
empty_line (byte ∷ line) zero_length = let e : length (byte ∷ line) ≡ 0 = eqb-true (length (byte ∷ line)) 0 zero_length in absurd (omega arith)

pub some_line : (line : List ℕ) → eqb (length line) 0 ≡ false → 0 < length line
some_line line more = let e : length line ≢ 0 = eqb-false (length line) 0 more in omega arith

-- what holds holds on an error
pub on_err_holds : {T E P : Type 0} (r : Result T E) → P → OnErr r P
on_err_holds (Ok x) holds = tt
on_err_holds (Err e) holds = holds

-- what follows from an Ok follows further
pub on_ok_both : {T E P Q R : Type 0} (r : Result T E) → OnOk r P → OnOk r Q → (P → Q → R) → OnOk r R
on_ok_both (Ok x) p q f = f p q
on_ok_both (Err e) p q f = tt

-- what an Ok has and what follows from it are had together
pub if_ok_both : {T E Q : Type 0} (r : Result T E) (P R : T → Type 0) → IfOk r P → OnOk r Q → ((x : T) → P x → Q → R x) → IfOk r R
if_ok_both (Ok x) P R p q f = f x p q
if_ok_both (Err e) P R p q f = tt

pub on_err_then : {T E P Q : Type 0} (r : Result T E) → OnErr r P → (P → Q) → OnErr r Q
on_err_then (Ok x) p f = tt
on_err_then (Err e) p f = f p

-- ---- the parts of the bytes

-- what came before, what is done, and the rest
pub before_rest : (before bytes done rest : List ℕ) → bytes ≡ done ++ rest → (before ++ done) ++ rest ≡ before ++ bytes
before_rest before bytes done rest whole = append_assoc before done rest ∙ ap (λ (text : List ℕ). before ++ text) (sym whole)

-- a line that ended is done too
pub line_done : (bytes done rest piece after : List ℕ) → bytes ≡ done ++ rest → rest ≡ piece ++ 10 ∷ after → bytes ≡ (done ++ (piece ++ 10 ∷ [])) ++ after
line_done bytes done rest piece after whole parts = whole ∙ ap (λ (text : List ℕ). done ++ text) parts ∙ simp append_assoc

-- what is kept of the bytes taken, and the others
pub kept_taken : (new rest : List ℕ) (kept taken : ℕ) → kept ≤ taken → taken ≤ length new → take kept (new ++ rest) ++ drop kept (take taken new) ≡ take taken new
kept_taken new rest kept taken below within =
    let short : kept ≤ length new = omega arith in
    let within_kept : kept ≤ length (take taken new) = omega (arith, length-take-le taken new within) in
    let back : take kept (take taken new) ≡ take kept (new ++ rest) =
    sym (take-append-le kept (take taken new) (drop taken new) within_kept)
    ∙ ap (take kept) (take-append-drop taken new) ∙ sym (take-append-le kept new rest short) in
    ap (λ (l : List ℕ). l ++ drop kept (take taken new)) (sym back) ∙ take-append-drop kept (take taken new)

-- how many they are together
pub kept_size : (new rest : List ℕ) (kept taken : ℕ) → kept ≤ taken → taken ≤ length new →
    length (take kept (new ++ rest)) + length (drop kept (take taken new)) ≡ taken
kept_size new rest kept taken below within =
    omega (arith, length-append (take kept (new ++ rest)) (drop kept (take taken new)), ap length (kept_taken new rest kept taken below within), length-take-le taken new within)

-- the same after what came before
pub kept_whole : (bytes new rest : List ℕ) (kept taken : ℕ) → kept ≤ taken → taken ≤ length new →
    (bytes ++ take kept (new ++ rest)) ++ drop kept (take taken new) ≡ bytes ++ take taken new
kept_whole bytes new rest kept taken below within =
    append_assoc bytes (take kept (new ++ rest)) (drop kept (take taken new)) ∙ ap (λ (l : List ℕ). bytes ++ l) (kept_taken new rest kept taken below within)

pub kept_all : (bytes new rest : List ℕ) (kept taken : ℕ) → kept ≡ taken → taken ≤ length new → bytes ++ take kept (new ++ rest) ≡ bytes ++ take taken new
kept_all bytes new rest kept taken same within =
    ap (λ n. bytes ++ take n (new ++ rest)) same ∙ ap (λ (l : List ℕ). bytes ++ l) (take-append-le taken new rest within)

-- how many bytes came
pub length_taken : (bytes new : List ℕ) (taken : ℕ) → taken ≤ length new → length (bytes ++ take taken new) ≡ length bytes + taken
length_taken bytes new taken within = omega (arith, length-append bytes (take taken new), length-take-le taken new within)

pub length_kept : (bytes new rest : List ℕ) (kept : ℕ) → kept ≤ length new → length (bytes ++ take kept (new ++ rest)) ≡ length bytes + kept
length_kept bytes new rest kept within = ap (λ (l : List ℕ). length (bytes ++ l)) (take-append-le kept new rest within) ∙ length_taken bytes new kept within

-- ---- how many lines there are

length_last_line : (line : List ℕ) → length (last_line line) ≤ 1
length_last_line [] = omega arith
length_last_line (byte ∷ line) = omega arith

-- if the last piece counts as no line, it is empty
pub no_last_line : (line : List ℕ) → length (last_line line) ≡ 0 → line ≡ []
no_last_line [] none = refl
no_last_line (byte ∷ line) none = absurd (omega (arith, none))

-- the lines of a text are those that have ended, and the last piece
pub all_lines : (text : List ℕ) (ended : List (List ℕ)) (last : List ℕ) → text ≡ text_of_lines ended last → AllByRecursion HasNoEnd ended → HasNoEnd last →
    lines_of text ≡ ended ++ last_line last
all_lines text ended last whole no_end unended = ap lines_of whole ∙ lines_of_text ended last no_end unended

-- if fewer lines have ended than a run answers, there are no more than it answers
pub few_lines : (text : List ℕ) (ended : List (List ℕ)) (last : List ℕ) → text ≡ text_of_lines ended last → AllByRecursion HasNoEnd ended → HasNoEnd last →
    length ended < most_lines → length (lines_of text) ≤ most_lines
few_lines text ended last whole no_end unended more =
    omega (arith, ap length (all_lines text ended last whole no_end unended), length-append ended (last_line last), length_last_line last)

-- those that have ended are no more
pub few_ended : (text : List ℕ) (ended : List (List ℕ)) (last : List ℕ) → text ≡ text_of_lines ended last → AllByRecursion HasNoEnd ended → HasNoEnd last →
    length (lines_of text) ≤ most_lines → length ended ≤ most_lines
few_ended text ended last whole no_end unended few =
    omega (arith, ap length (all_lines text ended last whole no_end unended), length-append ended (last_line last))

-- ---- which lines end in bytes

cut_at_last : (bytes : List ℕ) (lines : List (List ℕ)) → AreLines bytes lines → (ended : List (List ℕ)) × (rest : List ℕ) × EndIn bytes ended rest
cut_at_last bytes lines (ended, rest, whole, no_end, unended, all) = (ended, rest, record { whole = whole; no_end = no_end; unended = unended })

-- some lines end in any bytes, perhaps none, and a piece comes after the last of them, perhaps an
-- empty one
pub some_end : (bytes : List ℕ) → (ended : List (List ℕ)) × (rest : List ℕ) × EndIn bytes ended rest
some_end bytes = cut_at_last bytes (lines_of bytes) (found_at bytes (lines_of bytes) refl)

no_end-append : (ended others : List (List ℕ)) → AllByRecursion HasNoEnd ended → AllByRecursion HasNoEnd others → AllByRecursion HasNoEnd (ended ++ others)
no_end-append [] others none more = more
no_end-append (line ∷ ended) others none more = (none.0, no_end-append ended others none.1 more)

-- lines that have ended, and then those that end in what came after them
pub end_after : (bytes : List ℕ) (ended : List (List ℕ)) (rest : List ℕ) (others : List (List ℕ)) (last : List ℕ) → bytes ≡ text_of_lines ended rest →
    AllByRecursion HasNoEnd ended → EndIn rest others last → EndIn bytes (ended ++ others) last
end_after bytes ended rest others last whole none e =
    let with_end : List ℕ → List ℕ = λ line. line ++ 10 ∷ [] in
    record {
      whole = whole ∙ ap (text_of_lines ended) e.whole ∙ sym (append_assoc (flat_map with_end ended) (flat_map with_end others) last)
          ∙ ap (λ (text : List ℕ). text ++ last) (sym (flat_map-append with_end ended others));
      no_end = no_end-append ended others none e.no_end;
      unended = e.unended;
    }

-- ---- step by step

-- a line feed after a text
pub text_and_end : (ended : List (List ℕ)) (last bytes : List ℕ) → bytes ≡ text_of_lines ended last →
    bytes ++ 10 ∷ [] ≡ text_of_lines (ended ++ last ∷ []) []
text_and_end ended last bytes whole =
    ap (λ (text : List ℕ). text ++ 10 ∷ []) whole ∙ text_ended ended last [] []
    ∙ ap (λ (line : List ℕ). text_of_lines (ended ++ line ∷ []) []) (append-nil last)

-- the replies to the lines so far, and the reply to one more line
pub text_more : (d : Declared) (ended : List (List ℕ)) (readings : List LineReading) (reading : LineReading) (number : ℕ) →
    LinesComeTo d ended readings → number ≡ length ended + 1 →
    text_of_replies d (replies_of d readings) ++ text_if_any d number (reply_to d readings reading)
    ≡ text_of_replies d (replies_of d (readings ++ reading ∷ []))
text_more d ended readings reading number come count =
    ap (λ n. text_of_replies d (replies_of d readings) ++ text_if_any d n (reply_to d readings reading)) (count ∙ ap (λ n. n + 1) (length-LinesComeTo d ended readings come))
    ∙ sym (text_of_replies_of-snoc d readings reading)

pub last_line-some : (line : List ℕ) → 0 < length line → last_line line ≡ line ∷ []
last_line-some [] some = absurd (omega arith)
last_line-some (byte ∷ line) some = refl
