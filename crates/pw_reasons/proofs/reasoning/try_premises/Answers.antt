use Rattle.std.proofs.Common.{◌≡◌, ap, subst, sym, ◌∙◌}
use Rattle.std.specs.FinSet.{is_subset}
use Rattle.std.proofs.lemmas.List.{map-id}
use Rattle.std.proofs.lemmas.Iterator.Consumers.{YieldsList-end}
use Rattle.pw_premises.specs.Premises.{numbers_of}
use Rattle.pw_premises.specs.Premises.{Premises}
use Rattle.pw_network.specs.Wiring.{wiring}
use Rattle.pw_cells.specs.Cells.{Store}
use Rattle.pw_settle.specs.Settled.{IsSettled, info_at}
use Rattle.pw_settle.specs.Values.{value_in}
use Rattle.pw_reasons.specs.Reason.{tried}
use Rattle.pw_reasons.specs.inside.Reasoning.{AreEnough, AreSettledLast}
use Rattle.pw_reasons.proofs.ReasonLemmas.{after_part, all_tried, one_tried, premises_fall}
use Rattle.pw_reasons.proofs.reasoning.try_premises.Goals as goal

pub try_premise-requires-clause-settled : goal.try_premise-requires-clause-settled
try_premise-requires-clause-settled g c =
    subst (λ (s : Store). IsSettled (wiring c.args.network.now) s c.args.settled.now.worldview c.args.settled.now) (sym {A = Store} c.loop-premise.invariant.same)
    c.requires.settled

pub try_premise-requires-clause-part : goal.try_premise-requires-clause-part
try_premise-requires-clause-part g c =
    ap (λ (s : Premises). is_subset s c.args.settled.now.worldview) c.loop-premise.invariant.left
    ∙ after_part (λ w. value_in (wiring c.args.network.now) c.args.store.now w c.args.cell) c.args.settled.now.worldview c.loop-premise.yielded

pub try_premise-requires-clause-enough : goal.try_premise-requires-clause-enough
try_premise-requires-clause-enough g c =
    subst (λ (s : Store). AreEnough (wiring c.args.network.now) s c.args.cell (info_at c.args.settled.now.infos c.args.cell) c.loop-premise.left.premises
    c.loop-premise.left.support) (sym {A = Store} c.loop-premise.invariant.same) c.loop-premise.invariant.enough

pub try_premise-requires-clause-last : goal.try_premise-requires-clause-last
try_premise-requires-clause-last g c =
    subst (λ (s : Store). AreSettledLast (wiring c.args.network.now) s c.loop-premise.last) (sym {A = Store} c.loop-premise.invariant.same)
    c.loop-premise.invariant.last

pub loop-premise-preserved : goal.loop-premise-preserved
loop-premise-preserved g c =
    let same : c.loop-premise.store ≡ c.args.store.now = c.loop-premise.invariant.same in
    record {
      left = c.in_ok-left.ensures.left
          ∙ (λ i. tried (λ w. value_in (wiring c.args.network.now) (same i) w c.args.cell) c.args.settled.now.worldview (c.loop-premise.invariant.left i) c.in-Some.premise)
          ∙ sym (one_tried (λ w. value_in (wiring c.args.network.now) c.args.store.now w c.args.cell) c.args.settled.now.worldview
          c.loop-premise.yielded c.in-Some.premise);
      enough = subst (λ (s : Store). AreEnough (wiring c.args.network.now) s c.args.cell (info_at c.args.settled.now.infos c.args.cell) c.in_ok-left.left.premises
          c.in_ok-left.left.support) same c.in_ok-left.ensures.enough;
      last = subst (λ (s : Store). AreSettledLast (wiring c.args.network.now) s c.try_premise.new.last) same c.try_premise.ensures.last;
      same = c.try_premise.ensures.unchanged ∙ same;
    }

pub returns-clause-reason : goal.returns-clause-reason
returns-clause-reason g c =
    let all = YieldsList-end (premises_fall (numbers_of c.args.settled.now.worldview) (cc))
    c.loop-premise.yielded _ c.loop-premise.yielded_by _ _ c.in-None.is c.next.ensures.steps in
    all_tried _ c.args.settled.now.worldview c.loop-premise.left.premises c.loop-premise.yielded c.loop-premise.invariant.left
    (sym (map-id c.loop-premise.yielded) ∙ all.0)
