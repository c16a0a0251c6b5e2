-- How far the lines of a transcript are answered, from one piece of bytes to the next.
use Rattle.std.proofs.Common.{◌≡◌, ℕ, ◌+◌, ◌<◌, ◌≤◌, Bool, true, false, eqb, List, [], ◌∷◌, ◌++◌, length, refl, sym, ap, ◌∙◌, subst, append-nil, length-append, arith}
use Rattle.std.specs.Prelude.{if◌then◌else◌}
use Rattle.pw_info.specs.Passing.{PassesPart}
use Rattle.pw_info.proofs.PassingFacts.{PassesPart-after, PassesPart-all}
use Rattle.pw_transcript.specs.declared.progress.Fed.{Fed}
use Rattle.pw_transcript.specs.declared.progress.Fed.TheVariants as feds
use Rattle.pw_transcript.specs.declared.transcript.Lines.{Lines}
use Rattle.pw_info.specs.Bytes.{line_feed}
use Rattle.pw_info.specs.Lines.{lines_of, HasNoEnd, text_of_lines, last_line}
use Rattle.pw_transcript.specs.Limits.{most_lines}
use Rattle.pw_decl.specs.Declaration.{Declared}
use Rattle.pw_sessions.specs.Answer.{replies_of}
use Rattle.pw_sessions.specs.Workbench.{IsLeftBy}
use Rattle.pw_transcript.specs.FromScratch.{LinesComeTo, GetReplies, count_of_replies, EndIn, PassesAll, PassesEnded, PassesFront}
use Rattle.pw_transcript.specs.inside.Answering.{held_line, PassesReply, FailsInReply, PassesHeldReply, FailsInHeldReply}
use Rattle.pw_transcript.specs.inside.Running.{Progress, AnsweredSoFar, FrontSoFar, LimitSoFar}
use Rattle.pw_info.proofs.LineLemmas.{lines_of_ended_lines, text_held, HasNoEnd-append, ended_more}
use Rattle.pw_transcript.proofs.ReplyLemmas.{count_of_replies_of-snoc, LinesComeTo-snoc, length-LinesComeTo}
use Rattle.pw_transcript.proofs.RunParts.{all_lines, before_rest, empty_line, end_after, few_ended, few_lines, get_replies, held_nothing, last_line-some, no_last_line, some_end, some_line, text_and_end, text_more}

module _ {O : Type 0} (passes : O → List ℕ → O → Type 0) (d : Declared) where
  -- what was passed stays passed, for any bytes that come
  pub FrontSoFar-more : (first now : O) (bytes more : List ℕ) → FrontSoFar passes d first now bytes → FrontSoFar passes d first now (bytes ++ more)
  FrontSoFar-more first now bytes more p =
      record {
        ended = p.ended;
        rest = p.rest ++ more;
        readings = p.readings;
        whole = ap (λ (text : List ℕ). text ++ more) p.whole ∙ text_held p.ended p.rest more;
        no_end = p.no_end;
        few = p.few;
        come = p.come;
        front = p.front;
      }

  -- all lines of a text are answered, also with a last line that is not ended, if they are with a
  -- line feed after it
  PassesAll-unended : (first now : O) (counts : Lines) (bytes : List ℕ) → lines_of (bytes ++ 10 ∷ []) ≡ lines_of bytes →
      PassesAll passes d first now counts (bytes ++ 10 ∷ []) → PassesAll passes d first now counts bytes
  PassesAll-unended first now counts bytes same a =
      record {
        replies = a.replies;
        get = subst (λ (ls : List (List ℕ)). GetReplies d ls a.replies) same a.get;
        passed = a.passed;
        line_count = a.line_count ∙ ap length same;
        reply_count = a.reply_count;
      }

  -- a front of the replies to the lines that end in the bytes was passed
  pub FrontSoFar-ended : (first now : O) (bytes : List ℕ) → FrontSoFar passes d first now bytes →
      (lines : List (List ℕ)) × (rest : List ℕ) × EndIn bytes lines rest × PassesFront passes d first now lines
  FrontSoFar-ended first now bytes p =
      let after : (others : List (List ℕ)) × (last : List ℕ) × EndIn p.rest others last = some_end p.rest in (
        p.ended ++ after.0,
        after.1,
        end_after bytes p.ended p.rest after.0 after.1 p.whole p.no_end after.2,
        record {
          lines = p.ended;
          others = after.0;
          replies = replies_of d p.readings;
          first = refl;
          few = p.few;
          get = get_replies d p.ended p.readings p.come;
          front = p.front;
        },
      )

  -- and so of all their lines
  FrontSoFar-lines : (first now : O) (bytes : List ℕ) → FrontSoFar passes d first now bytes → PassesFront passes d first now (lines_of bytes)
  FrontSoFar-lines first now bytes p =
      record {
        lines = p.ended;
        others = lines_of p.rest;
        replies = replies_of d p.readings;
        first = ap lines_of p.whole ∙ lines_of_ended_lines p.ended p.rest p.no_end;
        few = p.few;
        get = get_replies d p.ended p.readings p.come;
        front = p.front;
      }

  pub LimitSoFar-front : (first now : O) (before bytes : List ℕ) → LimitSoFar passes d first now before bytes → FrontSoFar passes d first now (before ++ bytes)
  LimitSoFar-front first now before bytes a =
      record {
        ended = a.ended;
        rest = a.past;
        readings = a.readings;
        whole = a.whole;
        no_end = a.no_end;
        few = omega (arith, a.count);
        come = a.come;
        front = PassesPart-all passes first now _ a.passed;
      }

  pub PassesAll-front : (first now : O) (counts : Lines) (bytes : List ℕ) → length (lines_of bytes) ≤ most_lines → PassesAll passes d first now counts bytes →
      PassesFront passes d first now (lines_of bytes)
  PassesAll-front first now counts bytes few a =
      record {
        lines = lines_of bytes;
        others = [];
        replies = a.replies;
        first = sym (append-nil (lines_of bytes));
        few = few;
        get = a.get;
        front = PassesPart-all passes first now _ a.passed;
      }

  module _ (joins : (s t u : O) (xs ys : List ℕ) → passes s xs t → passes t ys u → passes s (xs ++ ys) u) where
    -- then nothing more is passed
    still : (s t u : O) (text : List ℕ) → passes s text t → passes t [] u → passes s text u
    still s t u text p q = subst (λ (l : List ℕ). passes s l u) (append-nil text) (joins s t u text [] p q)

    pub LimitSoFar-still : (first now next : O) (before bytes : List ℕ) → LimitSoFar passes d first now before bytes → passes now [] next →
        LimitSoFar passes d first next before bytes
    LimitSoFar-still first now next before bytes a q =
        record {
          ended = a.ended;
          past = a.past;
          readings = a.readings;
          whole = a.whole;
          no_end = a.no_end;
          count = a.count;
          more = a.more;
          short = a.short;
          come = a.come;
          passed = still first now next _ a.passed q;
        }

    pub PassesAll-still : (first now next : O) (counts : Lines) (bytes : List ℕ) → PassesAll passes d first now counts bytes → passes now [] next →
        PassesAll passes d first next counts bytes
    PassesAll-still first now next counts bytes a q =
        record { replies = a.replies; get = a.get; passed = still first now next _ a.passed q; line_count = a.line_count; reply_count = a.reply_count }

module _ {O : Type 0} (passes : O → List ℕ → O → Type 0) (d : Declared) where
  -- before the first byte
  pub SoFar-start : (first : O) (p : Progress) → passes first [] first → IsLeftBy d [] p.workbench →
      p.line ≡ held_line [] → p.counts.lines ≡ 0 → p.counts.replies ≡ 0 → AnsweredSoFar passes d first first p []
  SoFar-start first p none is empty no_lines no_replies =
      record {
        ended = [];
        last = [];
        readings = [];
        whole = refl;
        no_end = tt;
        unended = tt;
        few = omega arith;
        held = empty;
        come = tt;
        left = is;
        passed = none;
        line_count = no_lines;
        reply_count = no_replies;
      }

  -- the lines so far are those before the next
  lines_before : {first now : O} {p : Progress} {bytes : List ℕ} (s : AnsweredSoFar passes d first now p bytes) → length s.readings + 1 ≡ p.counts.lines + 1
  lines_before s = ap (λ n. n + 1) (sym (s.line_count ∙ length-LinesComeTo d s.ended s.readings s.come))

  -- a piece with no line feed
  pub SoFar-held : (first now : O) (p p' : Progress) (bytes piece : List ℕ) →
      AnsweredSoFar passes d first now p bytes → HasNoEnd piece → p'.workbench ≡ p.workbench → p'.counts ≡ p.counts →
      ((line : List ℕ) → p.line ≡ held_line line → p'.line ≡ held_line (line ++ piece)) → p.counts.lines < most_lines →
      AnsweredSoFar passes d first now p' (bytes ++ piece)
  SoFar-held first now p p' bytes piece s none same_past same_counts adds more =
      let whole : bytes ++ piece ≡ text_of_lines s.ended (s.last ++ piece) = ap (λ (text : List ℕ). text ++ piece) s.whole ∙ text_held s.ended s.last piece in
      let unended = HasNoEnd-append s.last piece s.unended none in
      record {
        ended = s.ended;
        last = s.last ++ piece;
        readings = s.readings;
        whole = whole;
        no_end = s.no_end;
        unended = unended;
        few = few_lines (bytes ++ piece) s.ended (s.last ++ piece) whole s.no_end unended (omega (arith, more, s.line_count));
        held = adds s.last s.held;
        come = s.come;
        left = subst (IsLeftBy d s.readings) (sym same_past) s.left;
        passed = s.passed;
        line_count = ap (λ (n : Lines). n.lines) same_counts ∙ s.line_count;
        reply_count = ap (λ (n : Lines). n.replies) same_counts ∙ s.reply_count;
      }

  module _ (joins : (s t u : O) (xs ys : List ℕ) → passes s xs t → passes t ys u → passes s (xs ++ ys) u) where
    -- a line feed, and the reply to the line that it ends
    pub SoFar-ended : (first now next : O) (p p' : Progress) (replied : Bool) (bytes : List ℕ) → AnsweredSoFar passes d first now p bytes →
        PassesHeldReply passes d (p.counts.lines + 1) p.line p.workbench p'.workbench now next replied →
        p'.line ≡ held_line [] → p'.counts.lines ≡ p.counts.lines + 1 → p'.counts.replies ≡ p.counts.replies + (if replied then 1 else 0) →
        p.counts.lines < most_lines → AnsweredSoFar passes d first next p' (bytes ++ line_feed ∷ [])
    SoFar-ended first now next p p' replied bytes s answers empty one_line one_reply more =
        let a : PassesReply passes d (p.counts.lines + 1) s.readings s.last p'.workbench now next replied = answers s.readings s.last s.left (lines_before s) s.held in
        let whole = text_and_end s.ended s.last bytes s.whole in
        let no_end = ended_more s.ended s.last s.no_end s.unended in
        let lines : lines_of (bytes ++ 10 ∷ []) ≡ (s.ended ++ s.last ∷ []) ++ [] = all_lines (bytes ++ 10 ∷ []) (s.ended ++ s.last ∷ []) [] whole no_end tt in
        record {
          ended = s.ended ++ s.last ∷ [];
          last = [];
          readings = s.readings ++ a.reading ∷ [];
          whole = whole;
          no_end = no_end;
          unended = tt;
          few = omega (arith, ap length (lines ∙ append-nil (s.ended ++ s.last ∷ [])), length-append s.ended (s.last ∷ []), s.line_count, more);
          held = empty;
          come = LinesComeTo-snoc d s.ended s.readings s.last a.reading s.come a.comes;
          left = a.left;
          passed = subst (λ (text : List ℕ). passes first text next)
              (text_more d s.ended s.readings a.reading (p.counts.lines + 1) s.come (ap (λ n. n + 1) s.line_count))
              (joins first now next _ _ s.passed a.passed);
          line_count = one_line ∙ ap (λ n. n + 1) s.line_count ∙ sym (length-append s.ended (s.last ∷ []));
          reply_count = one_reply ∙ ap (λ n. n + (if replied then 1 else 0)) s.reply_count
              ∙ ap (λ (b : Bool). count_of_replies (replies_of d s.readings) + (if b then 1 else 0))
              a.replied_is
              ∙ sym (count_of_replies_of-snoc d s.readings a.reading);
        }

    -- a line feed, and a failure while the reply to the line that it ends was passed
    pub SoFar-failed : (first now next : O) (p : Progress) (bytes : List ℕ) → AnsweredSoFar passes d first now p bytes →
        FailsInHeldReply passes d (p.counts.lines + 1) p.line p.workbench now next →
        p.counts.lines < most_lines → FrontSoFar passes d first next (bytes ++ line_feed ∷ [])
    SoFar-failed first now next p bytes s fails more =
        let f : FailsInReply passes d (p.counts.lines + 1) s.readings s.last now next = fails s.readings s.last s.left (lines_before s) s.held in
        record {
          ended = s.ended ++ s.last ∷ [];
          rest = [];
          readings = s.readings ++ f.reading ∷ [];
          whole = text_and_end s.ended s.last bytes s.whole;
          no_end = ended_more s.ended s.last s.no_end s.unended;
          few = omega (arith, length-append s.ended (s.last ∷ []), s.line_count, more);
          come = LinesComeTo-snoc d s.ended s.readings s.last f.reading s.come f.comes;
          front = subst (PassesPart passes first next)
              (text_more d s.ended s.readings f.reading (p.counts.lines + 1) s.come (ap (λ n. n + 1) s.line_count))
              (PassesPart-after passes joins first now next _ _ s.passed f.part);
        }

  -- the last line that a run answers has ended, and more comes
  pub SoFar-limit : (first now : O) (p : Progress) (before bytes done rest : List ℕ) → AnsweredSoFar passes d first now p (before ++ done) →
      p.counts.lines ≡ most_lines → bytes ≡ done ++ rest → 0 < length rest → LimitSoFar passes d first now before bytes
  SoFar-limit first now p before bytes done rest s count parts some =
      let lines = all_lines (before ++ done) s.ended s.last s.whole s.no_end s.unended in
      let none : s.last ≡ [] =
      no_last_line s.last (omega (arith, s.few, ap length lines, length-append s.ended (last_line s.last), s.line_count, count)) in
      record {
        ended = s.ended;
        past = rest;
        readings = s.readings;
        whole = sym (before_rest before bytes done rest parts) ∙ ap (λ (text : List ℕ). text ++ rest) s.whole
            ∙ text_held s.ended s.last rest ∙ ap (λ (l : List ℕ). text_of_lines s.ended (l ++ rest)) none;
        no_end = s.no_end;
        count = sym s.line_count ∙ count;
        more = some;
        short = omega (arith, ap length parts, length-append done rest);
        come = s.come;
        passed = s.passed;
      }

  -- ---- the end

  -- a text whose last line feed is its last byte, or an empty one
  pub SoFar-all : (first now : O) (p : Progress) (bytes : List ℕ) → AnsweredSoFar passes d first now p bytes → p.line ≡ held_line [] →
      PassesAll passes d first now p.counts bytes
  SoFar-all first now p bytes s empty =
      let none : s.last ≡ [] = held_nothing s.last (sym s.held ∙ empty) in
      let all : lines_of bytes ≡ s.ended =
      all_lines bytes s.ended s.last s.whole s.no_end s.unended ∙ ap (λ (line : List ℕ). s.ended ++ last_line line) none ∙ append-nil s.ended in
      record {
        replies = replies_of d s.readings;
        get = get_replies d (lines_of bytes) s.readings (subst (λ (ls : List (List ℕ)). LinesComeTo d ls s.readings) (sym all) s.come);
        passed = s.passed;
        line_count = s.line_count ∙ ap length (sym all);
        reply_count = s.reply_count;
      }

  -- a line feed after a last line that has none changes no line
  lines_and_end : (first now : O) (p : Progress) (bytes : List ℕ)
      (s : AnsweredSoFar passes d first now p bytes) → 0 < length s.last → lines_of (bytes ++ 10 ∷ []) ≡ lines_of bytes
  lines_and_end first now p bytes s some =
      all_lines (bytes ++ 10 ∷ []) (s.ended ++ s.last ∷ []) [] (text_and_end s.ended s.last bytes s.whole) (ended_more s.ended s.last s.no_end s.unended) tt
      ∙ append-nil (s.ended ++ s.last ∷ [])
      ∙ ap (λ (ls : List (List ℕ)). s.ended ++ ls) (sym (last_line-some s.last some))
      ∙ sym (all_lines bytes s.ended s.last s.whole s.no_end s.unended)

  -- if nothing has come of a line, all lines are answered
  pub SoFar-empty : (first now : O) (p : Progress) (bytes : List ℕ) (test : Bool) →
      ((line : List ℕ) → p.line ≡ held_line line → test ≡ eqb (length line) 0) → test ≡ true →
      AnsweredSoFar passes d first now p bytes → PassesAll passes d first now p.counts bytes
  SoFar-empty first now p bytes test tests nothing s =
      let none : s.last ≡ [] = empty_line s.last (sym (tests s.last s.held) ∙ nothing) in
      SoFar-all first now p bytes s (s.held ∙ ap held_line none)

  unended_same : (first now : O) (p : Progress) (bytes : List ℕ) (test : Bool) →
      ((line : List ℕ) → p.line ≡ held_line line → test ≡ eqb (length line) 0) → test ≡ false →
      AnsweredSoFar passes d first now p bytes → lines_of (bytes ++ 10 ∷ []) ≡ lines_of bytes
  unended_same first now p bytes test tests more s =
      lines_and_end first now p bytes s (some_line s.last (sym (tests s.last s.held) ∙ more))

  -- if the last line is answered as one that has ended, all lines are answered
  pub SoFar-last : (first now next : O) (p p' : Progress) (bytes : List ℕ) (test : Bool) →
      ((line : List ℕ) → p.line ≡ held_line line → test ≡ eqb (length line) 0) → test ≡ false →
      AnsweredSoFar passes d first now p bytes → AnsweredSoFar passes d first next p' (bytes ++ 10 ∷ []) → p'.line ≡ held_line [] →
      PassesAll passes d first next p'.counts bytes
  SoFar-last first now next p p' bytes test tests more s t empty =
      PassesAll-unended passes d first next p'.counts bytes (unended_same first now p bytes test tests more s)
      (SoFar-all first next p' (bytes ++ 10 ∷ []) t empty)

  pub SoFar-last_front : (first now next : O) (p : Progress) (bytes : List ℕ) (test : Bool) →
      ((line : List ℕ) → p.line ≡ held_line line → test ≡ eqb (length line) 0) → test ≡ false →
      AnsweredSoFar passes d first now p bytes → FrontSoFar passes d first next (bytes ++ 10 ∷ []) → PassesFront passes d first next (lines_of bytes)
  SoFar-last_front first now next p bytes test tests more s f =
      subst (PassesFront passes d first next) (unended_same first now p bytes test tests more s)
      (FrontSoFar-lines passes d first next (bytes ++ 10 ∷ []) f)

  -- ---- what was passed whole, and a flush

  -- the lines that end in the bytes are answered
  pub SoFar-ended_lines : (first now : O) (p : Progress) (bytes : List ℕ) → AnsweredSoFar passes d first now p bytes → PassesEnded passes d first now bytes
  SoFar-ended_lines first now p bytes s =
      record {
        ended = s.ended;
        rest = s.last;
        replies = replies_of d s.readings;
        parts = record { whole = s.whole; no_end = s.no_end; unended = s.unended };
        get = get_replies d s.ended s.readings s.come;
        passed = s.passed;
      }

  -- what was passed whole is a front of it
  pub SoFar-front : (first now : O) (p : Progress) (bytes : List ℕ) → AnsweredSoFar passes d first now p bytes → FrontSoFar passes d first now bytes
  SoFar-front first now p bytes s =
      record {
        ended = s.ended;
        rest = s.last;
        readings = s.readings;
        whole = s.whole;
        no_end = s.no_end;
        few = few_ended bytes s.ended s.last s.whole s.no_end s.unended s.few;
        come = s.come;
        front = PassesPart-all passes first now _ s.passed;
      }

  module _ (joins : (s t u : O) (xs ys : List ℕ) → passes s xs t → passes t ys u → passes s (xs ++ ys) u) where
    pub SoFar-still : (first now next : O) (p : Progress) (bytes : List ℕ) → AnsweredSoFar passes d first now p bytes → passes now [] next → AnsweredSoFar passes d first next p bytes
    SoFar-still first now next p bytes s q =
        record {
          ended = s.ended;
          last = s.last;
          readings = s.readings;
          whole = s.whole;
          no_end = s.no_end;
          unended = s.unended;
          few = s.few;
          held = s.held;
          come = s.come;
          left = s.left;
          passed = still passes d joins first now next _ s.passed q;
          line_count = s.line_count;
          reply_count = s.reply_count;
        }

    -- a flush that failed after bytes that were answered, whole or up to the limit
    pub flush_failed : (first now next : O) (p : Progress) (before bytes : List ℕ) (fed : Fed) →
        (fed ≡ feds.Whole → AnsweredSoFar passes d first now p (before ++ bytes)) →
        (fed ≡ feds.PastLimit → LimitSoFar passes d first now before bytes) →
        passes now [] next → FrontSoFar passes d first next (before ++ bytes)
    flush_failed first now next p before bytes feds.Whole whole limit q =
        SoFar-front first next p (before ++ bytes) (SoFar-still first now next p (before ++ bytes) (whole refl) q)
    flush_failed first now next p before bytes feds.PastLimit whole limit q =
        LimitSoFar-front passes d first next before bytes (LimitSoFar-still passes d joins first now next before bytes (limit refl) q)
