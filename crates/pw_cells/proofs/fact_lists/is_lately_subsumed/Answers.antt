use Rattle.std.proofs.Common.{◌-◌, ◌<◌, length, sym, arith}
use Rattle.pw_cells.proofs.fact_lists.is_lately_subsumed.Goals as goal

pub returns-then-subsumes : goal.returns-then-subsumes
returns-then-subsumes g c = λ _.
    let facts = c.args.facts.now in
    let back = c.loop-back.back in
    let below : length facts - back < length facts = omega (arith, c.loop-back.auto.back, c.loop-back-test.true, c.min-back-end.ensures) in
    (c.index-facts-len.result, (length facts - back, below, sym c.index-facts-len.is), c.subsumes.ensures.answer.0 c.if-subsumes.true)
