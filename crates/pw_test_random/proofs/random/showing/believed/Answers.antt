use Rattle.std.proofs.Common.{ℕ, ◌<◌, subst}
use Rattle.pw_decl.specs.inside.Fields.{declared}
use Rattle.pw_test_random.proofs.random.showing.believed.Goals as goal

pub beliefs-requires : goal.beliefs-requires
beliefs-requires g c =
    record {
      declared = declared c.args.declaration.now;
      before = c.requires.left.0;
      left = c.requires.left.2;
      there = subst (λ (users : ℕ). c.args.user < users) c.users.ensures.count c.if-user-users.true;
    }
