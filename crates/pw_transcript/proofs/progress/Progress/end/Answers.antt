use Rattle.std.proofs.Common.{[]}
use Rattle.pw_decl.specs.inside.Fields.{declared}
use Rattle.pw_transcript.specs.inside.Running.{progress}
use Rattle.pw_transcript.proofs.RunParts.{on_ok_both, on_err_then}
use Rattle.pw_transcript.proofs.RunLemmas.{SoFar-empty, SoFar-last, SoFar-last_front}
use Rattle.pw_transcript.proofs.RunEnds.{not_full}
use Rattle.pw_transcript.proofs.progress.Progress.end.Goals as goal

pub returns-then-is_empty-clause-ok : goal.returns-then-is_empty-clause-ok
returns-then-is_empty-clause-ok g c = λ first bytes s.
    SoFar-empty g.O.Output.passes (declared c.args.declaration.now) first _ (progress c.args.self.now) bytes c.is_empty.result c.is_empty.ensures.value c.if-is_empty.true s

-- a line has come, so it is not past the last one that is answered
pub end_line-requires-clause-more : goal.end_line-requires-clause-more
end_line-requires-clause-more g c =
    not_full c.args.self.now.counts.lines c.is_empty.result c.requires.running.lines (λ e. c.is_empty.ensures.value [] (c.requires.running.last e)) c.if-is_empty.false

pub returns-clause-ok : goal.returns-clause-ok
returns-clause-ok g c =
    on_ok_both c.end_line.result c.end_line.ensures.ok c.end_line.ensures.empty
    (λ answers empty first bytes s. SoFar-last g.O.Output.passes (declared c.args.declaration.now) first _ _ (progress c.args.self.now) (progress c.end_line.new.self) bytes c.is_empty.result c.is_empty.ensures.value
    c.if-is_empty.false s (answers first bytes s) empty)

pub returns-clause-err : goal.returns-clause-err
returns-clause-err g c =
    on_err_then c.end_line.result c.end_line.ensures.err
    (λ fails first bytes s. SoFar-last_front g.O.Output.passes (declared c.args.declaration.now) first _ _ (progress c.args.self.now) bytes c.is_empty.result c.is_empty.ensures.value c.if-is_empty.false s
    (fails first bytes s))
