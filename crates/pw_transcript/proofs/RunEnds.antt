-- A run at its ends: past the limits, at the end of its input, and what a gathering output passed.
use Rattle.std.proofs.Common.{◌≡◌, ◌≢◌, ℕ, ◌+◌, ◌<◌, ◌≤◌, Bool, true, false, eqb, List, [], ◌∷◌, ◌++◌, length, refl, sym, ap, ◌∙◌, subst, inl, inr, append-nil, length-append, length-take-le, take, arith}
use Rattle.std.specs.List.{AllByRecursion}
use Rattle.std.proofs.lemmas.Bool.{cases_Bool, eqb-true, eqb-false}
use Rattle.std.specs.Borrow.{GName}
use Rattle.pw_transcript.specs.declared.gathered.Gathered.{Gathered}
use Rattle.pw_transcript.specs.declared.transcript.Lines.{Lines}
use Rattle.pw_info.specs.Lines.{lines_of, HasNoEnd, text_of_lines}
use Rattle.pw_transcript.specs.Limits.{most_lines, most_bytes, most_at_once, GoesPastLimits}
use Rattle.pw_decl.specs.Declaration.{Declared}
use Rattle.pw_sessions.specs.Answer.{replies_of}
use Rattle.pw_transcript.specs.FromScratch.{PassesAll, PassesEnded, PassesFront, RepliesToAll, RepliesToEnded, RepliesUpToLimit, RepliesInPart}
use Rattle.pw_transcript.specs.inside.Gathering.{output_of, held_of, GatheredPasses}
use Rattle.pw_transcript.specs.inside.Running.{Progress, AnsweredSoFar, FrontSoFar, LimitSoFar}
use Rattle.pw_transcript.proofs.GatheringFacts.{gathered_part, gathered_whole}
use Rattle.pw_info.proofs.LineLemmas.{lines_of_ended_lines, lines_of_text, text_held}
use Rattle.pw_transcript.proofs.RunParts.{get_replies}
use Rattle.pw_transcript.proofs.RunLemmas.{FrontSoFar-ended, FrontSoFar-more, SoFar-ended_lines}

-- ---- the limits

-- if nothing has come after the last line that a run answers, and something has come, fewer lines
-- have ended
pub not_full : (lines : ℕ) (test : Bool) → lines ≤ most_lines → (lines ≡ most_lines → test ≡ true) → test ≡ false → lines < most_lines
not_full lines test below full some = elim (cases_Bool (eqb lines most_lines)) [
  | inl same ↦ let both : true ≡ false = sym (full (eqb-true lines most_lines same)) ∙ some in absurd (cc)
  | inr other ↦ let fewer : lines ≢ most_lines = eqb-false lines most_lines other in omega arith
]

-- one byte is one line
one_line : (bytes : List ℕ) → 0 < length bytes → length (lines_of (take 1 bytes)) ≡ 1
one_line [] some = absurd (omega arith)
one_line (byte ∷ bytes) some = elim (cases_Bool (eqb byte 10)) [
  | inl ends ↦ rw ends refl
  | inr more ↦ rw more refl
]

-- after the last line that a run answers, more came in the same take
pub past_last_line : (bytes : List ℕ) (ended : List (List ℕ)) (past : List ℕ) → AllByRecursion HasNoEnd ended →
    length ended ≡ most_lines → 0 < length past → length past ≤ most_at_once → bytes ≡ text_of_lines ended past → length bytes ≤ most_bytes + 1 →
    GoesPastLimits (text_of_lines ended []) past
past_last_line bytes ended past no_end count some short whole most =
    let within : lines_of (text_of_lines ended []) ≡ ended = lines_of_text ended [] no_end tt ∙ append-nil ended in
    let split : text_of_lines ended [] ++ past ≡ text_of_lines ended past = text_held ended [] past in
    let next : lines_of (text_of_lines ended [] ++ take 1 past) ≡ ended ++ lines_of (take 1 past) =
    ap lines_of (text_held ended [] (take 1 past)) ∙ lines_of_ended_lines ended (take 1 past) no_end in
    let sizes : length (text_of_lines ended []) + length past ≡ length bytes = sym (length-append (text_of_lines ended []) past) ∙ ap length (split ∙ sym whole) in
    record {
      is_within = record { lines = omega (arith, ap length within, count); bytes = omega (arith, sizes, some, most) };
      first_past = inl (omega (arith, ap length next, length-append ended (lines_of (take 1 past)), one_line past some, count));
      at_once = short;
      in_all = omega (arith, ap length split, ap length whole, most);
    }

-- one more byte than a run answers
pub past_last_byte : (within past : List ℕ) → length (lines_of within) ≤ most_lines → length within ≡ most_bytes → length past ≡ 1 → GoesPastLimits within past
past_last_byte within past few full one =
    record {
      is_within = record { lines = few; bytes = omega (arith, full) };
      first_past = inr (omega (arith, length-append within (take 1 past), length-take-le 1 past (omega (arith, one)), full));
      at_once = omega (arith, one);
      in_all = omega (arith, length-append within past, full, one);
    }

-- ---- the ends

module _ {I O : Type 0} (takes : I → List ℕ → I → Type 0) (passes : O → List ℕ → O → Type 0) (d : Declared) where
  -- the lines that end in a front of the bytes taken are answered in part
  pub replies_in_part : (has_ended : I → Bool) (i i' : I) (o o' : O) (bytes more all : List ℕ) → takes i all i' → length all ≤ most_bytes + 1 →
      bytes ++ more ≡ all → FrontSoFar passes d o o' bytes → RepliesInPart takes passes d has_ended i i' o o'
  replies_in_part has_ended i i' o o' bytes more all taken most whole p =
      let front = FrontSoFar-ended passes d o o' (bytes ++ more) (FrontSoFar-more passes d o o' bytes more p) in
      record {
        bytes = bytes ++ more;
        taken = subst (λ (l : List ℕ). takes i l i') (sym whole) taken;
        most = omega (arith, ap length whole, most);
        lines = front.0;
        to_answer = inr (front.1, front.2);
        passed = front.3;
      }

  -- if the input has ended, all lines of the bytes taken are answered in part
  pub replies_in_part_at_end : (has_ended : I → Bool) (i i' : I) (o o' : O) (bytes : List ℕ) → takes i bytes i' → length bytes ≤ most_bytes + 1 →
      has_ended i' ≡ true → PassesFront passes d o o' (lines_of bytes) → RepliesInPart takes passes d has_ended i i' o o'
  replies_in_part_at_end has_ended i i' o o' bytes taken most ended p =
      record { bytes = bytes; taken = taken; most = most; lines = lines_of bytes; to_answer = inl (ended, refl); passed = p }

  -- after the last line that a run answers there is a byte
  pub replies_up_to_line : (i i' : I) (o o' : O) (before bytes more all : List ℕ) → takes i all i' → length all ≤ most_bytes + 1 →
      length bytes + length more ≤ most_at_once → (before ++ bytes) ++ more ≡ all → LimitSoFar passes d o o' before bytes →
      RepliesUpToLimit takes passes d i i' o o'
  replies_up_to_line i i' o o' before bytes more all taken most size whole a =
      let within = text_of_lines a.ended [] in
      let is : all ≡ text_of_lines a.ended (a.past ++ more) = sym whole ∙ ap (λ (l : List ℕ). l ++ more) a.whole ∙ text_held a.ended a.past more in
      let past = a.past ++ more in
      record {
        within = within;
        past = past;
        taken = subst (λ (l : List ℕ). takes i l i') (is ∙ sym (text_held a.ended [] past)) taken;
        goes_past = past_last_line all a.ended past a.no_end a.count (omega (arith, length-append a.past more, a.more))
            (omega (arith, length-append a.past more, a.short, size)) is most;
        passed = record {
          ended = a.ended;
          rest = [];
          replies = replies_of d a.readings;
          parts = record { whole = refl; no_end = a.no_end; unended = tt };
          get = get_replies d a.ended a.readings a.come;
          passed = a.passed;
        };
      }

  -- there is one more byte than a run answers
  pub replies_up_to_byte : (i i' : I) (o o' : O) (p : Progress) (bytes more all : List ℕ) →
      takes i all i' → bytes ++ more ≡ all → length bytes ≡ most_bytes → length all ≡ most_bytes + 1 → AnsweredSoFar passes d o o' p bytes →
      RepliesUpToLimit takes passes d i i' o o'
  replies_up_to_byte i i' o o' p bytes more all taken whole short long s =
      record {
        within = bytes;
        past = more;
        taken = subst (λ (l : List ℕ). takes i l i') (sym whole) taken;
        goes_past = past_last_byte bytes more s.few short (omega (arith, length-append bytes more, ap length whole, short, long));
        passed = SoFar-ended_lines passes d o o' p bytes s;
      }

-- ---- what was passed to a gathering output

module _ {O : Type 0} (passes : O → List ℕ → O → Type 0) (d : Declared) (name : GName) (first last : O) (s t : Gathered O) where
  -- if nothing was held at first and nothing is at last, it was passed to its output
  gathered_ended : (bytes : List ℕ) → (output_of s).ghost_name ≡ name → (output_of s).now ≡ first → held_of s ≡ [] → held_of t ≡ [] →
      PassesEnded (GatheredPasses passes) d s t bytes → (name ≡ (output_of t).ghost_name → last ≡ (output_of t).now) →
      PassesEnded passes d first last bytes
  gathered_ended bytes named at none left a ends =
      record {
        ended = a.ended;
        rest = a.rest;
        replies = a.replies;
        parts = a.parts;
        get = a.get;
        passed = gathered_whole passes name first last s t _ named at none left a.passed ends;
      }

  -- and so of all lines
  gathered_all : (counts : Lines) (bytes : List ℕ) → (output_of s).ghost_name ≡ name → (output_of s).now ≡ first → held_of s ≡ [] → held_of t ≡ [] →
      PassesAll (GatheredPasses passes) d s t counts bytes → (name ≡ (output_of t).ghost_name → last ≡ (output_of t).now) →
      PassesAll passes d first last counts bytes
  gathered_all counts bytes named at none left a ends =
      record {
        replies = a.replies;
        get = a.get;
        passed = gathered_whole passes name first last s t _ named at none left a.passed ends;
        line_count = a.line_count;
        reply_count = a.reply_count;
      }

  -- if nothing was held at first, of a front that was passed to it a front was passed to its output
  gathered_front : (all : List (List ℕ)) → (output_of s).ghost_name ≡ name → (output_of s).now ≡ first → held_of s ≡ [] →
      PassesFront (GatheredPasses passes) d s t all → (name ≡ (output_of t).ghost_name → last ≡ (output_of t).now) →
      PassesFront passes d first last all
  gathered_front all named at none p ends =
      record {
        lines = p.lines;
        others = p.others;
        replies = p.replies;
        first = p.first;
        few = p.few;
        get = p.get;
        front = gathered_part passes name first last s t _ named at none p.front ends;
      }

  -- the same for a whole run
  module _ {I : Type 0} (takes : I → List ℕ → I → Type 0) (i i' : I) where
    pub gathered_to_all : (counts : Lines) → (output_of s).ghost_name ≡ name → (output_of s).now ≡ first → held_of s ≡ [] → held_of t ≡ [] →
        RepliesToAll takes (GatheredPasses passes) d i i' s t counts → (name ≡ (output_of t).ghost_name → last ≡ (output_of t).now) →
        RepliesToAll takes passes d i i' first last counts
    gathered_to_all counts named at none left a ends =
        record { bytes = a.bytes; taken = a.taken; within = a.within; passed = gathered_all counts a.bytes named at none left a.passed ends }

    -- if nothing has failed of the output that it passed to, nothing has failed of its output
    pub gathered_works : (failed : O → Bool) (counts : Lines) → (output_of s).ghost_name ≡ name →
        RepliesToAll takes (GatheredPasses passes) d i i' s t counts → failed (output_of t).now ≡ false →
        (name ≡ (output_of t).ghost_name → last ≡ (output_of t).now) → failed last ≡ false
    gathered_works failed counts named a works ends = ap failed (ends (sym named ∙ sym a.passed.passed.0)) ∙ works

    -- if something has failed of the output that it passed to, something has failed of its output
    pub gathered_failed : (failed : O → Bool) (has_ended : I → Bool) → (output_of s).ghost_name ≡ name →
        RepliesInPart takes (GatheredPasses passes) d has_ended i i' s t → failed (output_of t).now ≡ true →
        (name ≡ (output_of t).ghost_name → last ≡ (output_of t).now) → failed last ≡ true
    gathered_failed failed has_ended named a fails ends = ap failed (ends (sym named ∙ sym a.passed.front.part.0)) ∙ fails

    pub gathered_to_ended : (output_of s).ghost_name ≡ name → (output_of s).now ≡ first → held_of s ≡ [] → held_of t ≡ [] →
        RepliesToEnded takes (GatheredPasses passes) d i i' s t → (name ≡ (output_of t).ghost_name → last ≡ (output_of t).now) →
        RepliesToEnded takes passes d i i' first last
    gathered_to_ended named at none left a ends =
        record { bytes = a.bytes; taken = a.taken; within = a.within; passed = gathered_ended a.bytes named at none left a.passed ends }

    pub gathered_up_to_limit : (output_of s).ghost_name ≡ name → (output_of s).now ≡ first → held_of s ≡ [] → held_of t ≡ [] →
        RepliesUpToLimit takes (GatheredPasses passes) d i i' s t → (name ≡ (output_of t).ghost_name → last ≡ (output_of t).now) →
        RepliesUpToLimit takes passes d i i' first last
    gathered_up_to_limit named at none left a ends =
        record { within = a.within; past = a.past; taken = a.taken; goes_past = a.goes_past; passed = gathered_ended a.within named at none left a.passed ends }

    pub gathered_in_part : (has_ended : I → Bool) → (output_of s).ghost_name ≡ name → (output_of s).now ≡ first → held_of s ≡ [] →
        RepliesInPart takes (GatheredPasses passes) d has_ended i i' s t → (name ≡ (output_of t).ghost_name → last ≡ (output_of t).now) →
        RepliesInPart takes passes d has_ended i i' first last
    gathered_in_part has_ended named at none p ends =
        record {
          bytes = p.bytes;
          taken = p.taken;
          most = p.most;
          lines = p.lines;
          to_answer = p.to_answer;
          passed = gathered_front p.lines named at none p.passed ends;
        }

-- if nothing was taken and nothing was passed, a front of no replies was
pub nothing_in_part : {I O : Type 0} (takes : I → List ℕ → I → Type 0) (passes : O → List ℕ → O → Type 0) (d : Declared) (has_ended : I → Bool) (i : I) (o : O) →
    takes i [] i → passes o [] o → RepliesInPart takes passes d has_ended i i o o
nothing_in_part takes passes d has_ended i o taken none = record {
  bytes = [];
  taken = taken;
  most = omega arith;
  lines = [];
  to_answer = inr ([], record { whole = refl; no_end = tt; unended = tt });
  passed = record {
    lines = [];
    others = [];
    replies = [];
    first = refl;
    few = omega arith;
    get = record { readings = []; come = tt; plain = λ _. tt; replies_are = refl };
    front = record { count = 0; within = omega arith; part = none };
  };
}

module _ {I : Type 0} (takes : I → List ℕ → I → Type 0) (joins : (s t u : I) (xs ys : List ℕ) → takes s xs t → takes t ys u → takes s (xs ++ ys) u) where
  -- a take that failed takes nothing
  pub taken_no_more : (i j k : I) (bytes : List ℕ) → takes i bytes j → takes j [] k → takes i bytes k
  taken_no_more i j k bytes p q = subst (λ (l : List ℕ). takes i l k) (append-nil bytes) (joins i j k bytes [] p q)
