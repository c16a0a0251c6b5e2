use Rattle.std.proofs.Common.{[], ◌∷◌, ◌++◌, length, take, sym, ◌∙◌, ap, arith}
use Rattle.std.proofs.lemmas.List.{length-take-le, take_all, take_more}
use Rattle.pw_facts.specs.declared.fact.Fact.{Fact}
use Rattle.pw_cells.proofs.fact_lists.all_widened.Goals as goal

pub append-requires : goal.append-requires
append-requires g c =
    let long = length-take-le c.loop-held.held-index c.args.facts.now (omega (arith, c.loop-held-test.true)) in
    omega (arith, ap length c.loop-held.invariant.items, long, c.loop-held.invariant.room, c.requires, c.loop-held-test.true)

pub loop-held-preserved : goal.loop-held-preserved
loop-held-preserved g c =
    let facts = c.args.facts.now in
    let i = c.loop-held.held-index in
    record {
      items =
          c.append.ensures.items
          ∙ ap (λ l. l ++ c.widened.result ∷ []) c.loop-held.invariant.items
          ∙ ap (λ (f : Fact). take i facts ++ f ∷ []) (c.widened.ensures ∙ c.held-item.is)
          ∙ sym (take_more facts i c.held-item.result c.loop-held-test.true);
      room = omega (arith, c.loop-held.invariant.room, c.append.ensures.capacity);
    }

pub loop-held-init : goal.loop-held-init
loop-held-init g c = record { items = c.in_ok-wide.ensures.items; room = c.in_ok-wide.ensures.capacity }

pub returns-clause-items : goal.returns-clause-items
returns-clause-items g c = c.loop-held.invariant.items ∙ take_all c.loop-held.held-index c.args.facts.now c.loop-held-test.false

pub returns-clause-room : goal.returns-clause-room
returns-clause-room g c = c.loop-held.invariant.room
