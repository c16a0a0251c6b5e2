use Rattle.pw_decl.specs.inside.Fields.{declared}
use Rattle.pw_transcript.proofs.AnswerLemmas.{answered, broken_off, held_refused, still_left}
use Rattle.pw_transcript.proofs.answer.answer_refused.Goals as goal

pub returns-in-Ok : goal.returns-in-Ok
returns-in-Ok g c = λ workbench left.
    answered (still_left (declared c.args.declaration.now) c.limits.ensures c.args.number workbench left)
    (λ held. held_refused (declared c.args.declaration.now) c.limits.ensures c.args.number workbench left held c.args.refusal)
    c.in-Ok.ensures

pub returns : goal.returns
returns g c = λ workbench left.
    broken_off (still_left (declared c.args.declaration.now) c.limits.ensures c.args.number workbench left)
    (λ held. held_refused (declared c.args.declaration.now) c.limits.ensures c.args.number workbench left held c.args.refusal)
    c.in-Err.fault c.in-Err.ensures
