use Rattle.std.proofs.Common.{Err, Ok}
use Rattle.pw_sessions.specs.inside.Fields.{state}
use Rattle.pw_transcript.proofs.AnswerLemmas.{answers_if, next_if}
use Rattle.pw_transcript.proofs.answer.answer_other.Goals as goal

pub answer_command-requires : goal.answer_command-requires
answer_command-requires g c = next_if (λ held reads. reads (Ok c.in-Ok.command) c.in-Ok.ensures) c.requires.next

pub returns-in-Ok : goal.returns-in-Ok
returns-in-Ok g c = answers_if (λ held reads. reads (Ok c.in-Ok.command) c.in-Ok.ensures) c.answer_command.ensures

pub returns-in-Err : goal.returns-in-Err
returns-in-Err g c =
    answers_if (λ held reads. reads (Err c.in-Err.refusal) c.in-Err.ensures) (c.answer_refused.ensures (state c.args.workbench.now) c.requires.next.left)
