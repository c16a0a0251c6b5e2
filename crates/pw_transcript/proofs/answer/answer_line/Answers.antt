use Rattle.std.proofs.Common.{Some, refl}
use Rattle.pw_decl.specs.inside.Fields.{declared}
use Rattle.pw_sessions.specs.inside.Fields.{state}
use Rattle.pw_transcript.specs.inside.Resolving.{IsSpoken}
use Rattle.pw_transcript.proofs.AnswerLemmas.{held_blank, passes_none, still_left}
use Rattle.pw_transcript.proofs.SpokenLemmas.{held_reads}
use Rattle.pw_transcript.proofs.answer.answer_line.Goals as goal

pub returns-in_default-clause-ok : goal.returns-in_default-clause-ok
returns-in_default-clause-ok g c = rw c.in_default.is ((c.answer_refused.ensures (state c.args.workbench.now) c.requires.left).ok _ refl)

pub returns-in_default-clause-err : goal.returns-in_default-clause-err
returns-in_default-clause-err g c = rw c.in_default.is ((c.answer_refused.ensures (state c.args.workbench.now) c.requires.left).err _ refl)

pub returns-in_default-clause-failed : goal.returns-in_default-clause-failed
returns-in_default-clause-failed g c = (c.answer_refused.ensures (state c.args.workbench.now) c.requires.left).failed

pub returns-in_default-clause-works : goal.returns-in_default-clause-works
returns-in_default-clause-works g c = (c.answer_refused.ensures (state c.args.workbench.now) c.requires.left).works

pub returns-in_default-clause-left : goal.returns-in_default-clause-left
returns-in_default-clause-left g c = (c.answer_refused.ensures (state c.args.workbench.now) c.requires.left).left

pub answer_words-requires : goal.answer_words-requires
answer_words-requires g c =
    let spoken : IsSpoken c.in-Some.line.now c.in-Ok-Some.words = rw c.in-Ok-Some.field-0-is at c.in-Ok-Some.ensures.some in
    record {
      left = c.requires.left;
      most = c.requires.most;
      reads = (Some c.in-Some.line.now, held_reads (declared c.args.declaration.now) c.in-Some.line.now c.in-Ok-Some.words spoken);
    }

pub returns-in-Ok-Some-clause-ok : goal.returns-in-Ok-Some-clause-ok
returns-in-Ok-Some-clause-ok g c =
    let spoken : IsSpoken c.in-Some.line.now c.in-Ok-Some.words = rw c.in-Ok-Some.field-0-is at c.in-Ok-Some.ensures.some in
    rw c.in-Some.is (c.answer_words.ensures.ok (Some c.in-Some.line.now) (held_reads (declared c.args.declaration.now) c.in-Some.line.now c.in-Ok-Some.words spoken))

pub returns-in-Ok-Some-clause-err : goal.returns-in-Ok-Some-clause-err
returns-in-Ok-Some-clause-err g c =
    let spoken : IsSpoken c.in-Some.line.now c.in-Ok-Some.words = rw c.in-Ok-Some.field-0-is at c.in-Ok-Some.ensures.some in
    rw c.in-Some.is (c.answer_words.ensures.err (Some c.in-Some.line.now) (held_reads (declared c.args.declaration.now) c.in-Some.line.now c.in-Ok-Some.words spoken))

pub returns-in-Err-clause-ok : goal.returns-in-Err-clause-ok
returns-in-Err-clause-ok g c = rw c.in-Some.is ((c.answer_refused-in-Err.ensures (state c.args.workbench.now) c.requires.left).ok (Some c.in-Some.line.now) (c.in-Err.ensures.err (declared c.args.declaration.now)))

pub returns-in-Err-clause-err : goal.returns-in-Err-clause-err
returns-in-Err-clause-err g c = rw c.in-Some.is ((c.answer_refused-in-Err.ensures (state c.args.workbench.now) c.requires.left).err (Some c.in-Some.line.now) (c.in-Err.ensures.err (declared c.args.declaration.now)))

pub returns-in-Err-clause-failed : goal.returns-in-Err-clause-failed
returns-in-Err-clause-failed g c = (c.answer_refused-in-Err.ensures (state c.args.workbench.now) c.requires.left).failed

pub returns-in-Err-clause-works : goal.returns-in-Err-clause-works
returns-in-Err-clause-works g c = (c.answer_refused-in-Err.ensures (state c.args.workbench.now) c.requires.left).works

pub returns-in-Err-clause-left : goal.returns-in-Err-clause-left
returns-in-Err-clause-left g c = (c.answer_refused-in-Err.ensures (state c.args.workbench.now) c.requires.left).left

pub returns-in-Ok-None-clause-ok : goal.returns-in-Ok-None-clause-ok
returns-in-Ok-None-clause-ok g c =
    rw c.in-Some.is (λ before line left next e.
    passes_none g.O.Output.passes (declared c.args.declaration.now) c.args.number before line (state c.args.workbench.now) c.args.output.now (g.met.O.Output.none c.args.output.now)
    (held_blank (declared c.args.declaration.now) c.limits.ensures (state c.args.workbench.now) (Some c.in-Some.line.now) (rw c.in-Ok-None.field-0-is at c.in-Ok-None.ensures.none)
    before line left e))

pub returns-in-Ok-None-clause-left : goal.returns-in-Ok-None-clause-left
returns-in-Ok-None-clause-left g c = still_left (declared c.args.declaration.now) c.limits.ensures c.args.number (state c.args.workbench.now) c.requires.left
