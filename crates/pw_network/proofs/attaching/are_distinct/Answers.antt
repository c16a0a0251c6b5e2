use Rattle.std.proofs.Common.{◌≡◌, true, take, get_or, nat_eq, eq-eqb, subst, sym, ◌∙◌, arith}
use Rattle.std.specs.List.{AllPairs, list_any}
use Rattle.std.proofs.lemmas.List.{take_all, take_more}
use Rattle.std.proofs.lemmas.List.Folds.{list_any_at}
use Rattle.std.proofs.lemmas.List.Quantifiers.{all_pairs_push}
use Rattle.pw_network.proofs.attaching.are_distinct.Goals as goal

pub loop-place-init : goal.loop-place-init
loop-place-init c = record { differ = λ i j d before there. absurd (omega (arith, there)) }

pub loop-place-preserved : goal.loop-place-preserved
loop-place-preserved c =
    let cells = c.args.cells.now in
    let place = c.loop-place.place in
    let x = get_or cells place 0 in
    let so_far = take place cells in
    record {
      differ = subst (AllPairs (λ m n. m ≡ n → ⊥)) (sym (take_more cells place 0 c.loop-place-test.true))
          (all_pairs_push (λ m n. m ≡ n → ⊥) so_far x c.loop-place.invariant.differ
          (λ k d there same. (let found : list_any (nat_eq x) so_far ≡ true = list_any_at (nat_eq x) so_far k d there (eq-eqb x (get_or so_far k d) (sym same)) in
          let none = sym c.has.ensures ∙ c.if-has.false in
          let e = sym found ∙ none in cc)));
    }

pub returns : goal.returns
returns c = λ yes. subst (AllPairs (λ m n. m ≡ n → ⊥)) (take_all c.loop-place.place c.args.cells.now c.loop-place-test.false) c.loop-place.invariant.differ
