use Rattle.pw_decl.specs.inside.Fields.{declared}
use Rattle.pw_sessions.specs.Reply.{Refused, Says}
use Rattle.pw_transcript.specs.inside.Resolving.{IsSpoken}
use Rattle.pw_transcript.proofs.ReadingLemmas.{one_reading}
use Rattle.pw_transcript.proofs.SpokenLemmas.{spoken_refused, spoken_says}
use Rattle.pw_transcript.proofs.command_text.read_command.Goals as goal

pub returns-in-Ok-clause-reads : goal.returns-in-Ok-clause-reads
returns-in-Ok-clause-reads g c =
    let spoken : IsSpoken c.args.line.now c.in-Ok-Some.words = rw c.in-Ok-Some.field-0-is at c.in-Ok-Some.ensures.some in
    spoken_says (declared c.args.declaration.now) c.args.line.now c.in-Ok-Some.words c.in-Ok.command spoken c.in-Ok.ensures

pub returns-in-Ok-clause-only : goal.returns-in-Ok-clause-only
returns-in-Ok-clause-only g c = λ other h.
    one_reading (declared c.args.declaration.now) c.args.line.now other (Says c.in-Ok.command) c.limits.ensures h (returns-in-Ok-clause-reads g c)

pub returns-in-Err-read_words-clause-reads : goal.returns-in-Err-read_words-clause-reads
returns-in-Err-read_words-clause-reads g c =
    let spoken : IsSpoken c.args.line.now c.in-Ok-Some.words = rw c.in-Ok-Some.field-0-is at c.in-Ok-Some.ensures.some in
    spoken_refused (declared c.args.declaration.now) c.args.line.now c.in-Ok-Some.words c.in-Err-read_words.refusal spoken c.in-Err-read_words.ensures

pub returns-in-Err-read_words-clause-only : goal.returns-in-Err-read_words-clause-only
returns-in-Err-read_words-clause-only g c = λ other h.
    one_reading (declared c.args.declaration.now) c.args.line.now other (Refused c.in-Err-read_words.refusal) c.limits.ensures h (returns-in-Err-read_words-clause-reads g c)

pub returns-in-Err-clause-reads : goal.returns-in-Err-clause-reads
returns-in-Err-clause-reads g c = c.in-Err.ensures.err (declared c.args.declaration.now)

pub returns-in-Err-clause-only : goal.returns-in-Err-clause-only
returns-in-Err-clause-only g c = λ other h.
    one_reading (declared c.args.declaration.now) c.args.line.now other (Refused c.in-Err.refusal) c.limits.ensures h (returns-in-Err-clause-reads g c)
