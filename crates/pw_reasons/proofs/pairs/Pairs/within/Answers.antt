use Rattle.std.proofs.Common.{◌≡◌, ◌<◌, ◌∙◌, Contains, ℕ, List, false, true, below_more, length, ap, sym, arith, subst}
use Rattle.std.specs.FinSet.{contains}
use Rattle.std.proofs.lemmas.Bool.{false≢true}
use Rattle.pw_premises.specs.Premises.{Premises}
use Rattle.pw_reasons.specs.Nogood.{covers}
use Rattle.pw_reasons.specs.inside.PairRows.{pair, row_of}
use Rattle.pw_reasons.proofs.FamilyLemmas.{and_both}
use Rattle.pw_reasons.proofs.PairLemmas.{makes_none, no_pair, pair_held, pair_within, row_read, row_there}
use Rattle.pw_reasons.proofs.pairs.Pairs.within.Goals.{then-contains+in_default, else-contains}
use Rattle.pw_reasons.proofs.pairs.Pairs.within.Goals as goal

pub loop-premise-init : goal.loop-premise-init
loop-premise-init g c = λ p below q has one. absurd (omega (arith, below))

pub returns-in-Some-clause-some : goal.returns-in-Some-clause-some
returns-in-Some-clause-some g c =
    let rows = c.self.inside.rows.items in
    let here : c.loop-premise.premise < length rows = omega (arith, c.len-premise-end.ensures, c.self.inside.rows.ok, c.loop-premise-test.true) in
    let some = c.in-Some.ensures.some in
    let row = row_read rows c.loop-premise.premise c.index.result.now c.index.ensures here in
    let has : contains (row_of rows c.loop-premise.premise) c.in-Some.other ≡ true = ap (λ (s : Premises). contains s c.in-Some.other) (sym row) ∙ some.1 in
    let there : contains c.args.premises.now c.loop-premise.premise ≡ true = sym c.contains.ensures.member ∙ c.if-contains.true in
    rw c.pair.ensures (
      subst (λ (l : List Premises). Contains l (pair c.loop-premise.premise c.in-Some.other)) c.self.view_is
          (pair_held rows c.loop-premise.premise c.in-Some.other has some.0),
      pair_within c.loop-premise.premise c.in-Some.other c.args.premises.now ∙ and_both _ _ some.2 there,
    )

pub loop-premise-preserved : goal.loop-premise-preserved
loop-premise-preserved g c =
    let rows = c.self.inside.rows.items in
    below_more (λ p. (q : ℕ) → contains (row_of rows p) q ≡ true → contains c.args.premises.now p ≡ true → contains c.args.premises.now q ≡ false)
    c.loop-premise.premise c.loop-premise.invariant (elim c.if-contains.branch [
      | then-contains+in_default w ↦ makes_none rows c.args.premises.now c.loop-premise.premise w.index.result.now w.index.ensures w.in_default.ensures.none
      | else-contains w ↦ λ q has one. absurd (false≢true (sym w.if-contains.false ∙ c.contains.ensures.member ∙ one))
    ])

pub returns-clause-none : goal.returns-clause-none
returns-clause-none g c =
    subst (λ (l : List Premises). covers l c.args.premises.now ≡ false) c.self.view_is
    (no_pair c.self.inside.rows.items c.args.premises.now (λ p q has one.
    let here = row_there c.self.inside.rows.items p q has in
    c.loop-premise.invariant p (omega (arith, here, c.len-premise-end.ensures, c.self.inside.rows.ok, c.loop-premise-test.false)) q has one))
