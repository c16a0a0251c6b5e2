use Rattle.std.proofs.Common.{List, ℕ, ap, subst, arith, ◌∙◌}
use Rattle.std.specs.Borrow.{Bor}
use Rattle.pw_decl.specs.inside.Fields.{declared}
use Rattle.pw_explain.specs.Near.{IsNearest}
use Rattle.pw_explain.proofs.NearestNames.{all_kept, offered_next}
use Rattle.pw_explain.proofs.command.nearest_user.Goals as goal

pub loop-user-init : goal.loop-user-init
loop-user-init g c = (ap (λ (word : Bor (List ℕ)). word.now) c.to-nearest.ensures.word, c.to-nearest.ensures.none)

pub loop-user-preserved : goal.loop-user-preserved
loop-user-preserved g c = (
  ap (λ (word : Bor (List ℕ)). word.now) c.offer.ensures.word ∙ c.loop-user.invariant.0,
  offered_next (declared c.args.declaration.now).users c.loop-user.user _ _ c.loop-user.nearest c.offer.new.self
      c.user_name.ensures.name c.as_bytes.ensures.value c.offer.ensures.nearest c.loop-user.invariant.1,
)

pub returns : goal.returns
returns g c = subst (λ (word : List ℕ). IsNearest word (declared c.args.declaration.now).users c.name.result) c.loop-user.invariant.0
    (c.name.ensures (declared c.args.declaration.now).users
    (all_kept c.loop-user.nearest (declared c.args.declaration.now).users c.loop-user.user
    (omega (arith, c.users-user-end.ensures.count, c.loop-user-test.false, c.loop-user.auto.user-end)) c.loop-user.invariant.1))
