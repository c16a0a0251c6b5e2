use Rattle.std.proofs.Common.{Option, Ok, subst}
use Rattle.pw_decl.specs.inside.Fields.{declared}
use Rattle.pw_sessions.specs.declared.command.Command.{Command}
use Rattle.pw_sessions.specs.inside.Fields.{state}
use Rattle.pw_sessions.specs.Reply.{Says}
use Rattle.pw_sessions.specs.Reply.{reply_by}
use Rattle.pw_transcript.specs.Reading.{Reads, reading_of}
use Rattle.pw_transcript.proofs.AnswerLemmas.{can_be_carried_out, carried_left, still_left}
use Rattle.pw_test_random.proofs.replying.reply_to.Goals as goal

pub command-requires : goal.command-requires
command-requires g c =
    let reads : Reads (declared c.args.declaration.now) c.args.line.now (Says c.in-Ok-Some.command) =
    subst (λ (o : Option Command). Reads (declared c.args.declaration.now) c.args.line.now (reading_of (Ok o))) c.in-Ok-Some.field-0-is c.in-Ok-Some.ensures.reads in
    can_be_carried_out (declared c.args.declaration.now) c.limits.ensures c.args.line.now c.args.number (state c.args.workbench.now) c.requires.left
    c.in-Ok-Some.command c.requires.most reads

pub returns-in-Ok-Some : goal.returns-in-Ok-Some
returns-in-Ok-Some g c =
    let reads : Reads (declared c.args.declaration.now) c.args.line.now (Says c.in-Ok-Some.command) =
    subst (λ (o : Option Command). Reads (declared c.args.declaration.now) c.args.line.now (reading_of (Ok o))) c.in-Ok-Some.field-0-is c.in-Ok-Some.ensures.reads in
    carried_left (declared c.args.declaration.now) c.limits.ensures c.args.line.now c.args.number (state c.args.workbench.now) c.requires.left
    (state c.command.new.self) c.in-Ok-Some.command (reply_by c.command.result) reads c.command.ensures.carried

pub returns-in_default : goal.returns-in_default
returns-in_default g c =
    still_left (declared c.args.declaration.now) c.limits.ensures c.args.number (state c.args.workbench.now) c.requires.left
