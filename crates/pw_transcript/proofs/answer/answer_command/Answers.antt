use Rattle.pw_decl.specs.inside.Fields.{declared}
use Rattle.pw_sessions.specs.inside.Fields.{state}
use Rattle.pw_transcript.proofs.AnswerLemmas.{answered, broken_off, held_can, held_command}
use Rattle.pw_transcript.proofs.answer.answer_command.Goals as goal

pub command-reply-requires : goal.command-reply-requires
command-reply-requires g c =
    held_can (declared c.args.declaration.now) c.limits.ensures c.args.number (state c.args.workbench.now) c.requires.left c.requires.reads.0 c.args.command.now
    c.requires.reads.1 c.requires.most

pub write_reply-requires : goal.write_reply-requires
write_reply-requires g c = record {
  named = (held_command (declared c.args.declaration.now) c.limits.ensures c.args.number (state c.args.workbench.now) c.requires.left c.requires.reads.0
      c.args.command.now c.requires.reads.1 _ _ c.command-reply.ensures.carried).named;
}

pub returns-in-Ok : goal.returns-in-Ok
returns-in-Ok g c =
    answered
    (held_command (declared c.args.declaration.now) c.limits.ensures c.args.number (state c.args.workbench.now) c.requires.left c.requires.reads.0 c.args.command.now
    c.requires.reads.1 _ _ c.command-reply.ensures.carried).left
    (λ held reads.
    held_command (declared c.args.declaration.now) c.limits.ensures c.args.number (state c.args.workbench.now) c.requires.left held c.args.command.now reads _ _
    c.command-reply.ensures.carried)
    c.in-Ok.ensures

pub returns : goal.returns
returns g c =
    broken_off
    (held_command (declared c.args.declaration.now) c.limits.ensures c.args.number (state c.args.workbench.now) c.requires.left c.requires.reads.0 c.args.command.now
    c.requires.reads.1 _ _ c.command-reply.ensures.carried).left
    (λ held reads.
    held_command (declared c.args.declaration.now) c.limits.ensures c.args.number (state c.args.workbench.now) c.requires.left held c.args.command.now reads _ _
    c.command-reply.ensures.carried)
    c.in-Err.fault c.in-Err.ensures
