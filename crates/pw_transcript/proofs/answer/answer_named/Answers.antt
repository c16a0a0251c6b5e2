use Rattle.std.proofs.Common.{sym, ◌∙◌}
use Rattle.pw_decl.specs.inside.Fields.{declared}
use Rattle.pw_transcript.proofs.AnswerLemmas.{answers_if, next_if}
use Rattle.pw_transcript.proofs.SpokenLemmas.{asked_words, told_words}
use Rattle.pw_transcript.proofs.answer.answer_named.Goals as goal

pub answer_tell-requires : goal.answer_tell-requires
answer_tell-requires g c =
    next_if (λ held. told_words (declared c.args.declaration.now) c.args.user.now c.args.name.now c.args.rest held (sym c.is_tell.ensures ∙ c.if-is_tell.true))
    c.requires

pub answer_ask-requires : goal.answer_ask-requires
answer_ask-requires g c =
    next_if (λ held. asked_words (declared c.args.declaration.now) c.args.user.now c.args.name.now c.args.rest held (sym c.is_ask.ensures ∙ c.if-is_ask.true))
    c.requires

pub returns-then-is_tell : goal.returns-then-is_tell
returns-then-is_tell g c =
    answers_if (λ held. told_words (declared c.args.declaration.now) c.args.user.now c.args.name.now c.args.rest held (sym c.is_tell.ensures ∙ c.if-is_tell.true))
    c.answer_tell.ensures

pub returns-then-is_ask : goal.returns-then-is_ask
returns-then-is_ask g c =
    answers_if (λ held. asked_words (declared c.args.declaration.now) c.args.user.now c.args.name.now c.args.rest held (sym c.is_ask.ensures ∙ c.if-is_ask.true))
    c.answer_ask.ensures
