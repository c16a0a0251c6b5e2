use Rattle.std.proofs.Common.{List, ℕ, ap, subst, arith, ◌∙◌}
use Rattle.std.specs.Borrow.{Bor}
use Rattle.pw_decl.specs.inside.Fields.{declared}
use Rattle.pw_explain.specs.Near.{IsNearest}
use Rattle.pw_explain.proofs.NearestNames.{all_kept, offered_next}
use Rattle.pw_explain.proofs.command.nearest_premise.Goals as goal

pub loop-premise-init : goal.loop-premise-init
loop-premise-init g c = (ap (λ (word : Bor (List ℕ)). word.now) c.to-nearest.ensures.word, c.to-nearest.ensures.none)

pub loop-premise-preserved : goal.loop-premise-preserved
loop-premise-preserved g c = (
  ap (λ (word : Bor (List ℕ)). word.now) c.offer.ensures.word ∙ c.loop-premise.invariant.0,
  offered_next (declared c.args.declaration.now).premises c.loop-premise.premise _ _ c.loop-premise.nearest c.offer.new.self
      c.premise_name.ensures.name c.as_bytes.ensures.value c.offer.ensures.nearest c.loop-premise.invariant.1,
)

pub returns : goal.returns
returns g c = subst (λ (word : List ℕ). IsNearest word (declared c.args.declaration.now).premises c.name.result) c.loop-premise.invariant.0
    (c.name.ensures (declared c.args.declaration.now).premises
    (all_kept c.loop-premise.nearest (declared c.args.declaration.now).premises c.loop-premise.premise
    (omega (arith, c.premises-premise-end.ensures.count, c.loop-premise-test.false, c.loop-premise.auto.premise-end)) c.loop-premise.invariant.1))
