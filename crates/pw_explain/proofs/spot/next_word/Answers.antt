use Rattle.std.proofs.Common.{◌≡◌, ◌+◌, ℕ, ap, drop, sym, ◌∙◌, arith}
use Rattle.std.specs.List.{prefix_len}
use Rattle.std.proofs.lemmas.List.{take_rest}
use Rattle.pw_info.specs.Words.{is_blank, is_plain}
use Rattle.pw_explain.proofs.WordPlaces.{none_left}
use Rattle.pw_explain.proofs.spot.next_word.Goals as goal

pub returns-then-from-to-clause-none : goal.returns-then-from-to-clause-none
returns-then-from-to-clause-none c =
    let from : ℕ = c.args.at + c.blank_len.result in
    let rest : prefix_len is_plain (drop from c.args.line.now) ≡ c.word_len.result =
    sym (c.word_len.ensures.value ∙ ap (prefix_len is_plain) (take_rest c.args.line.now from)) in
    none_left c.args.line.now c.args.at from (ap (λ (m : ℕ). c.args.at + m) (c.blank_len.ensures.value ∙ ap (prefix_len is_blank) (take_rest c.args.line.now c.args.at)))
    (rest ∙ omega (arith, c.if-from-to.true))
