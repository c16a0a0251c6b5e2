use Rattle.std.proofs.Common.{sym, ◌∙◌}
use Rattle.pw_info.proofs.WordLemmas.{no_word, first_word}
use Rattle.pw_info.proofs.words.split_word.Goals as goal

pub returns-then-end-eq0 : goal.returns-then-end-eq0
returns-then-end-eq0 c =
    no_word c.args.bytes.now c.after_blanks-text.result.now c.after_blanks-text.ensures (sym c.word_len-end.ensures.value ∙ c.if-end-eq0.true)

pub returns : goal.returns
returns c =
    first_word c.args.bytes.now c.after_blanks-text.result.now c.split_at.result.0.now c.split_at.result.1.now c.word_len-end.result
    c.after_blanks-text.ensures c.word_len-end.ensures.value c.if-end-eq0.false c.split_at.ensures.front c.split_at.ensures.back
