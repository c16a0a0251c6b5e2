use Rattle.std.proofs.Common.{◌<◌, ℕ, List, [], ◌∷◌, ◌++◌, length, refl, sym, ap, ◌∙◌, subst, append-nil, append_assoc, length-append, arith}
use Rattle.std.proofs.lemmas.Grind.{common_steps}
use Rattle.pw_info.proofs.PassingFacts.{taken_all}
use Rattle.pw_decl.specs.inside.Fields.{declared}
use Rattle.pw_transcript.specs.inside.Running.{progress}
use Rattle.pw_transcript.specs.Limits.{most_lines}
use Rattle.pw_transcript.specs.inside.Running.{AnsweredSoFar, FrontSoFar}
use Rattle.pw_transcript.proofs.RunParts.{before_rest, line_done}
use Rattle.pw_transcript.proofs.RunLemmas.{SoFar-held, SoFar-limit, FrontSoFar-more}
use Rattle.pw_transcript.proofs.progress.Progress.feed.Goals as goal

pub loop-rest-init : goal.loop-rest-init
loop-rest-init g c = record {
  done = [];
  whole = refl;
  so_far = λ first before s. subst (AnsweredSoFar g.O.Output.passes (declared c.args.declaration.now) first _ _) (sym (append-nil before)) s;
  running = c.requires.running;
}

-- there is a byte after the last line that is answered
pub returns-then-self-eq-MOST_LINES-clause-limit : goal.returns-then-self-eq-MOST_LINES-clause-limit
returns-then-self-eq-MOST_LINES-clause-limit g c = λ _ first before s.
    let inv = c.loop-rest.invariant in
    let some : 0 < length c.loop-rest.rest.now = grind (arith, common_steps) in
    SoFar-limit g.O.Output.passes (declared c.args.declaration.now) first _ (progress c.loop-rest.self) before c.args.bytes.now inv.done c.loop-rest.rest.now (inv.so_far first before s)
    c.if-self-eq-MOST_LINES.true inv.whole some

-- the rest has no line feed
pub returns-in_default-clause-whole : goal.returns-in_default-clause-whole
returns-in_default-clause-whole g c = λ _ first before s.
    let inv = c.loop-rest.invariant in
    let more : c.loop-rest.self.counts.lines < most_lines = grind (arith, common_steps, inv.running.lines) in
    subst (AnsweredSoFar g.O.Output.passes (declared c.args.declaration.now) first _ _) (before_rest before c.args.bytes.now inv.done c.loop-rest.rest.now inv.whole)
    (SoFar-held g.O.Output.passes (declared c.args.declaration.now) first _ (progress c.loop-rest.self) _ (before ++ inv.done) c.loop-rest.rest.now (inv.so_far first before s)
    c.in_default.ensures.none refl refl c.extend.ensures more)

pub returns-in_default-clause-running : goal.returns-in_default-clause-running
returns-in_default-clause-running g c =
    let inv = c.loop-rest.invariant in
    let more : c.loop-rest.self.counts.lines < most_lines = grind (arith, common_steps, inv.running.lines) in
    record {
      left = inv.running.left;
      lines = inv.running.lines;
      replies = inv.running.replies;
      last = λ full. absurd (omega (arith, full, more));
    }

pub returns-in-Err-clause-err : goal.returns-in-Err-clause-err
returns-in-Err-clause-err g c = λ first before s.
    let inv = c.loop-rest.invariant in
    let piece = c.in-Some.piece.now in
    let after = c.in-Some.after.now in
    subst (FrontSoFar g.O.Output.passes (declared c.args.declaration.now) first _)
    (ap (λ (text : List ℕ). text ++ after) (append_assoc before inv.done (piece ++ 10 ∷ []))
    ∙ before_rest before c.args.bytes.now (inv.done ++ (piece ++ 10 ∷ [])) after (line_done c.args.bytes.now inv.done c.loop-rest.rest.now piece after inv.whole c.in-Some.ensures.some.0))
    (FrontSoFar-more g.O.Output.passes (declared c.args.declaration.now) first _ _ after (c.in-Err.ensures.err first _ (inv.so_far first before s)))

pub loop-rest-smaller : goal.loop-rest-smaller
loop-rest-smaller g c = omega (arith, ap length c.in-Some.ensures.some.0, length-append c.in-Some.piece.now (10 ∷ c.in-Some.after.now))

pub loop-rest-preserved : goal.loop-rest-preserved
loop-rest-preserved g c =
    let inv = c.loop-rest.invariant in
    let piece = c.in-Some.piece.now in
    let after = c.in-Some.after.now in
    record {
      done = inv.done ++ (piece ++ 10 ∷ []);
      whole = line_done c.args.bytes.now inv.done c.loop-rest.rest.now piece after inv.whole c.in-Some.ensures.some.0;
      so_far = λ first before s.
          subst (AnsweredSoFar g.O.Output.passes (declared c.args.declaration.now) first _ _) (append_assoc before inv.done (piece ++ 10 ∷ []))
          (c.in-Ok.ensures.ok first _ (inv.so_far first before s));
      running = c.in-Ok.ensures.running;
    }

-- nothing is left
pub returns-clause-whole : goal.returns-clause-whole
returns-clause-whole g c = λ _ first before s.
    let inv = c.loop-rest.invariant in
    subst (AnsweredSoFar g.O.Output.passes (declared c.args.declaration.now) first _ _)
    (ap (λ (text : List ℕ). before ++ text) (taken_all c.args.bytes.now inv.done c.loop-rest.rest.now inv.whole
    (sym c.is_empty.ensures ∙ c.loop-rest-test.false)))
    (inv.so_far first before s)
