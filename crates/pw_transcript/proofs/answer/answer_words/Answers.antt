use Rattle.pw_decl.specs.inside.Fields.{declared}
use Rattle.pw_sessions.specs.inside.Fields.{state}
use Rattle.pw_transcript.proofs.AnswerLemmas.{answers_if, next_if}
use Rattle.pw_transcript.proofs.SpokenLemmas.{named_words, no_words, one_word}
use Rattle.pw_transcript.proofs.answer.answer_words.Goals as goal

pub returns-in_default : goal.returns-in_default
returns-in_default g c =
    answers_if (λ held. no_words (declared c.args.declaration.now) c.args.words held c.in_default.ensures.0)
    (c.answer_refused.ensures (state c.args.workbench.now) c.requires.left)

pub returns-in_default-next : goal.returns-in_default-next
returns-in_default-next g c =
    answers_if (λ held. one_word (declared c.args.declaration.now) c.args.words c.next.new.self c.in-Some.user.now held c.in-Some.ensures c.in_default-next.ensures.0)
    (c.answer_refused-in_default-next.ensures (state c.args.workbench.now) c.requires.left)

pub answer_named-requires : goal.answer_named-requires
answer_named-requires g c =
    next_if (λ held. named_words (declared c.args.declaration.now) c.args.words c.next.new.self c.next-2.new.self c.in-Some.user.now c.in-Some-next.name.now held
    c.in-Some.ensures c.in-Some-next.ensures)
    c.requires

pub returns : goal.returns
returns g c =
    answers_if (λ held. named_words (declared c.args.declaration.now) c.args.words c.next.new.self c.next-2.new.self c.in-Some.user.now c.in-Some-next.name.now held
    c.in-Some.ensures c.in-Some-next.ensures)
    c.answer_named.ensures
