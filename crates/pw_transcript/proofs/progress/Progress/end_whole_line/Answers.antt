use Rattle.std.proofs.Common.{ℕ, List, ◌∷◌, [], ◌++◌, Some, refl, subst, append_assoc}
use Rattle.pw_decl.specs.inside.Fields.{declared}
use Rattle.pw_transcript.specs.inside.Running.{progress}
use Rattle.pw_transcript.specs.inside.Running.{Progress, AnsweredSoFar, FrontSoFar}
use Rattle.pw_transcript.proofs.RunParts.{on_err_holds, held_whole}
use Rattle.pw_transcript.proofs.RunLemmas.{SoFar-held, SoFar-ended, SoFar-failed}
use Rattle.pw_transcript.proofs.progress.Progress.end_whole_line.Goals as goal

pub returns-in_err-replied-clause-err : goal.returns-in_err-replied-clause-err
returns-in_err-replied-clause-err g c =
    let line = c.args.line.now in
    let with_line : Progress = record (progress c.args.self.now) { line = Some line } in
    on_err_holds c.from_residual.result
    (λ first before s.
    let held = SoFar-held g.O.Output.passes (declared c.args.declaration.now) first _ (progress c.args.self.now) with_line before line s
    c.requires.no_end refl refl (λ (last : List ℕ). held_whole last line c.args.self.now.line c.requires.fresh c.requires.short) c.requires.more in
    subst (FrontSoFar g.O.Output.passes (declared c.args.declaration.now) first _) (append_assoc before line (10 ∷ []))
    (SoFar-failed g.O.Output.passes (declared c.args.declaration.now) g.met.O.Output.joins first _ _ with_line (before ++ line) held
    c.in_err-replied.ensures.err c.requires.more))

pub returns-clause-ok : goal.returns-clause-ok
returns-clause-ok g c = λ first before s.
    let line = c.args.line.now in
    let with_line : Progress = record (progress c.args.self.now) { line = Some line } in
    let held = SoFar-held g.O.Output.passes (declared c.args.declaration.now) first _ (progress c.args.self.now) with_line before line s
    c.requires.no_end refl refl (λ (last : List ℕ). held_whole last line c.args.self.now.line c.requires.fresh c.requires.short) c.requires.more in
    subst (AnsweredSoFar g.O.Output.passes (declared c.args.declaration.now) first _ _) (append_assoc before line (10 ∷ []))
    (SoFar-ended g.O.Output.passes (declared c.args.declaration.now) g.met.O.Output.joins first _ _ with_line _ c.in_ok-replied.replied (before ++ line) held
    c.in_ok-replied.ensures.ok c.requires.fresh c.and_one-self.ensures.lines c.and_one-self.ensures.replies c.requires.more)
