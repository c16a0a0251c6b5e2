use Rattle.std.proofs.Common.{◌≡◌, ◌+◌, ◌-◌, ◌<◌, List, true, length, vec_len, get_or, take, sym, ◌∙◌, ap, subst, arith}
use Rattle.pw_facts.specs.declared.fact.Fact.{Fact}
use Rattle.pw_cells.specs.Cells.{does_subsume, unsubsumed}
use Rattle.pw_cells.proofs.Rests.{last_dropped, none_dropped}
use Rattle.pw_cells.proofs.subsumed_facts.drop_subsumed.Goals as goal

pub drop_from-requires-clause-before : goal.drop_from-requires-clause-before
drop_from-requires-clause-before g c =
    let place = c.first_subsumed-first.result in
    subst (λ (l : List Fact). take place l ≡ unsubsumed c.args.fact.now (take place l)) c.as_slice.ensures.value c.first_subsumed-first.ensures.before

pub returns-then-first-len-2-clause-rest : goal.returns-then-first-len-2-clause-rest
returns-then-first-len-2-clause-rest g c =
    let fact = c.args.fact.now in
    let all = c.args.kept.now.items in
    let place = c.first_subsumed-first.result in
    let same : c.as_slice.result.now ≡ all = c.as_slice.ensures.value in
    let below : place < length all = omega (arith, c.if-first-len-2.true, c.len-else-first-len.ensures) in
    let last : length all ≡ place + 1 = omega (arith, below, c.if-first-len.false, c.len.ensures) in
    let at : does_subsume fact (get_or all place fact) ≡ true =
    subst (λ (l : List Fact). does_subsume fact (get_or l place fact) ≡ true) same
    (c.first_subsumed-first.ensures.at (subst (λ (l : List Fact). place < length l) (sym same) below) fact) in
    let shorter : vec_len c.args.kept.now - 1 ≡ place = omega (arith, last) in
    c.pop.ensures.rest ∙ ap (λ n. take n all) shorter
    ∙ last_dropped fact all place (subst (λ (l : List Fact). take place l ≡ unsubsumed fact (take place l)) same c.first_subsumed-first.ensures.before) last at

pub returns-else-first-len-2-clause-rest : goal.returns-else-first-len-2-clause-rest
returns-else-first-len-2-clause-rest g c =
    let fact = c.args.fact.now in
    let all = c.args.kept.now.items in
    let place = c.first_subsumed-first.result in
    let same : c.as_slice.result.now ≡ all = c.as_slice.ensures.value in
    none_dropped fact all place (subst (λ (l : List Fact). take place l ≡ unsubsumed fact (take place l)) same c.first_subsumed-first.ensures.before)
    (omega (arith, c.if-first-len-2.false, c.len-else-first-len.ensures))
