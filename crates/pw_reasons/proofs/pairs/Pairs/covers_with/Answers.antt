use Rattle.std.proofs.Common.{◌≡◌, ◌<◌, ◌≤◌, ◌∙◌, false, length, not, ap, arith, subst, List}
use Rattle.std.specs.FinSet.{insert}
use Rattle.pw_premises.specs.Premises.{Premises}
use Rattle.pw_reasons.specs.Nogood.{covers}
use Rattle.pw_reasons.proofs.FamilyLemmas.{members_below}
use Rattle.pw_reasons.proofs.PairLemmas.{none_with_one, row_apart, row_read}
use Rattle.pw_reasons.proofs.pairs.Pairs.covers_with.Goals as goal

pub returns-then-premise-len : goal.returns-then-premise-len
returns-then-premise-len g c =
    let rows = c.self.inside.rows.items in
    let past : length rows ≤ c.args.premise = omega (arith, c.len.ensures, c.self.inside.rows.ok, c.if-premise-len.true) in
    let below = members_below c.args.before.now c.numbers-numbers.result c.numbers-numbers.ensures.list c.numbers-numbers.ensures.members in
    subst (λ (l : List Premises). covers l c.args.before.now ≡ false → false ≡ covers l (insert c.args.before.now c.args.premise)) c.self.view_is
    (λ none. none_with_one rows c.args.before.now c.args.premise c.self.invariant below none past) c.requires

pub returns : goal.returns
returns g c =
    let rows = c.self.inside.rows.items in
    let here : c.args.premise < length rows = omega (arith, c.len.ensures, c.self.inside.rows.ok, c.if-premise-len.false) in
    let row = row_read rows c.args.premise c.index-row.result.now c.index-row.ensures here in
    let below = members_below c.args.before.now c.numbers-numbers.result c.numbers-numbers.ensures.list c.numbers-numbers.ensures.members in
    subst (λ (l : List Premises). covers l c.args.before.now ≡ false → not c.is_subset.result ≡ covers l (insert c.args.before.now c.args.premise)) c.self.view_is
    (λ none. ap not (rw c.difference.ensures.difference at c.is_subset.ensures.subset)
    ∙ row_apart rows c.args.before.now c.args.premise c.index-row.result.now row c.self.invariant below none) c.requires
