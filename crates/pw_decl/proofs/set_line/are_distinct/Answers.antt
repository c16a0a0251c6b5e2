use Rattle.std.proofs.Common.{sym, ◌∙◌, refl}
use Rattle.std.proofs.lemmas.Bool.{false≢true}
use Rattle.pw_decl.proofs.MemberLemmas.{distinct_none, repeats, differ_where}
use Rattle.pw_decl.proofs.set_line.are_distinct.Goals as goal

pub returns-then-is_among : goal.returns-then-is_among
returns-then-is_among c =
    let among = sym (rw c.again.ensures at c.is_among.ensures) ∙ c.if-is_among.true in
    let left = rw c.in-Some.ensures at c.loop-word.invariant in
    (λ no. absurd (false≢true no), λ all. absurd (repeats c.in-Some.word.now c.next.new.self among (left.0 all)))

pub loop-word-preserved : goal.loop-word-preserved
loop-word-preserved c =
    let others = differ_where c.in-Some.word.now c.next.new.self (sym (rw c.again.ensures at c.is_among.ensures) ∙ c.if-is_among.false) in
    let left = rw c.in-Some.ensures at c.loop-word.invariant in
    (λ all. others.0 (left.0 all), λ rest. left.1 (others.1 rest))

pub returns : goal.returns
returns c = let left = rw c.in_default.ensures.0 at c.loop-word.invariant in (λ yes. left.1 distinct_none, λ all. refl)
