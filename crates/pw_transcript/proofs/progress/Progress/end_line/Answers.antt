use Rattle.std.proofs.Common.{◌∙◌}
use Rattle.pw_decl.specs.inside.Fields.{declared}
use Rattle.pw_transcript.specs.inside.Running.{progress}
use Rattle.pw_transcript.proofs.RunParts.{on_err_holds}
use Rattle.pw_transcript.proofs.RunLemmas.{SoFar-ended, SoFar-failed}
use Rattle.pw_transcript.proofs.progress.Progress.end_line.Goals as goal

pub returns-in_err-replied-clause-err : goal.returns-in_err-replied-clause-err
returns-in_err-replied-clause-err g c =
    on_err_holds c.from_residual.result
    (λ first bytes s. SoFar-failed g.O.Output.passes (declared c.args.declaration.now) g.met.O.Output.joins first _ _ (progress c.args.self.now) bytes s
    (λ before line left next held. c.in_err-replied.ensures.err before line left next (c.line.ensures ∙ held)) c.requires.more)

pub returns-clause-ok : goal.returns-clause-ok
returns-clause-ok g c = λ first bytes s.
    SoFar-ended g.O.Output.passes (declared c.args.declaration.now) g.met.O.Output.joins first _ _ (progress c.args.self.now) _ c.in_ok-replied.replied bytes s
    (λ before line left next held. c.in_ok-replied.ensures.ok before line left next (c.line.ensures ∙ held))
    c.clear.ensures c.and_one-self.ensures.lines c.and_one-self.ensures.replies c.requires.more
