use Rattle.std.proofs.Common.{◌≡◌, ◌∷◌, [], List, ℕ, refl, sym, ap, ◌∙◌}
use Rattle.std.specs.FinSet.{from_list}
use Rattle.std.proofs.lemmas.List.{map-id}
use Rattle.std.proofs.lemmas.Iterator.Consumers.{YieldsList-end, YieldsList-from_first}
use Rattle.pw_premises.specs.Premises.{Premises}
use Rattle.pw_reasons.specs.inside.Families.{sets_of}
use Rattle.pw_reasons.proofs.FamilyLemmas.{chain_longer, made_of_numbers, sets_under}
use Rattle.pw_reasons.proofs.family.chain.Goals as goal

pub loop-premise-init : goal.loop-premise-init
loop-premise-init g c = refl

pub loop-premise-preserved : goal.loop-premise-preserved
loop-premise-preserved g c =
    ap sets_under c.in_ok-branch.ensures.ok
    ∙ chain_longer (sets_of c.loop-premise.family) c.loop-premise.yielded c.in-Some.premise c.loop-premise.invariant

pub returns : goal.returns
returns g c =
    let all = YieldsList-end (YieldsList-from_first (λ x. x) (λ left. left) c.numbers-premise-items.result c.into_iter-premise-iterator.ensures.into_iter_gives)
    c.loop-premise.yielded _ c.loop-premise.yielded_by _ _ c.in-None.is c.next.ensures.steps in
    let numbers : c.loop-premise.yielded ≡ c.numbers-premise-items.result = sym (map-id c.loop-premise.yielded) ∙ all.0 in
    record {
      alone = c.loop-premise.invariant ∙ ap (λ (l : List ℕ). from_list l ∷ []) numbers
          ∙ ap (λ (s : Premises). s ∷ []) (made_of_numbers c.args.premises.now c.numbers-premise-items.result c.numbers-premise-items.ensures.members);
    }
