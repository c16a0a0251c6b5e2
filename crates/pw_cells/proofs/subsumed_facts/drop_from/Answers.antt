use Rattle.std.proofs.Common.{◌≡◌, ℕ, ◌<◌, List, true, false, length, get_or, sym, ◌∙◌, ap, subst, arith}
use Rattle.pw_kinds.proofs.Order.{not_both}
use Rattle.pw_info.specs.Information.{kind_of}
use Rattle.pw_facts.specs.declared.fact.Fact.{Fact}
use Rattle.pw_cells.specs.Cells.{does_subsume}
use Rattle.pw_cells.specs.inside.OneCell.{AreOfKind}
use Rattle.pw_cells.proofs.Late.{unsubsumed_test, subsume_test}
use Rattle.pw_cells.proofs.Rests.{AreSifted, next_of_all, one_dropped, one_stays}
use Rattle.pw_cells.proofs.subsumed_facts.drop_from.Goals as goal

-- the next one is of the fact's kind
kind_of_next : (f x : Fact) (all left : List Fact) (place : ℕ) → AreOfKind (kind_of f.info) all → AreSifted f all left place → place < length left
    → x ≡ get_or left place x → kind_of f.info ≡ kind_of x.info
kind_of_next f x all left place kinds sifted below is =
    let next = next_of_all f all left place x sifted below in
    sym (ap (λ (y : Fact). kind_of y.info) (is ∙ next.1) ∙ kinds sifted.seen x next.0)

pub subsumes-requires : goal.subsumes-requires
subsumes-requires g c =
    kind_of_next c.args.fact.now c.index.result.now c.args.kept.now.items c.loop-place.kept.items c.loop-place.place c.requires.kinds c.loop-place.invariant.sifted
    (omega arith) c.index.ensures

pub loop-place-preserved-then-subsumes : goal.loop-place-preserved-then-subsumes
loop-place-preserved-then-subsumes g c =
    let fact = c.args.fact.now in
    let held : Fact = c.index.result.now in
    let all = c.args.kept.now.items in
    let left = c.loop-place.kept.items in
    let place = c.loop-place.place in
    let sifted = c.loop-place.invariant.sifted in
    let below : place < length left = omega arith in
    let one = kind_of_next fact held all left place c.requires.kinds sifted below c.index.ensures in
    let subsumed : does_subsume fact held ≡ true = subsume_test fact held one (c.subsumes.ensures.answer.0 c.if-subsumes.true) in
    record {
      sifted =
          subst (λ l. AreSifted fact all l place) (sym c.remove.ensures.by_index.2)
          (one_dropped fact held all left place sifted below c.index.ensures subsumed);
      len = omega (arith, c.remove.ensures.len, c.loop-place.invariant.len);
      capacity = c.remove.ensures.capacity ∙ c.loop-place.invariant.capacity;
    }

pub loop-place-preserved : goal.loop-place-preserved
loop-place-preserved g c =
    let fact = c.args.fact.now in
    let held : Fact = c.index.result.now in
    let all = c.args.kept.now.items in
    let left = c.loop-place.kept.items in
    let place = c.loop-place.place in
    let sifted = c.loop-place.invariant.sifted in
    let below : place < length left = omega arith in
    let one = kind_of_next fact held all left place c.requires.kinds sifted below c.index.ensures in
    let other : does_subsume fact held ≡ false =
    unsubsumed_test fact held one (λ subsumed. not_both _ (c.subsumes.ensures.answer.1 subsumed) c.if-subsumes.false) in
    record {
      sifted = one_stays fact held all left place sifted below c.index.ensures other;
      len = c.loop-place.invariant.len;
      capacity = c.loop-place.invariant.capacity;
    }
