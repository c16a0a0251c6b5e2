use Rattle.std.specs.Prelude.{◌≡◌, take}
use Rattle.pw_decl.specs.inside.Fields.{declared}
use Rattle.pw_explain.specs.inside.Kept.{KeepsNearest}
use Rattle.pw_explain.proofs.command.nearest_user.Given as goal

-- what is found is the nearest of those so far
abbrev pub invariant-loop-user : goal.invariant-loop-user
invariant-loop-user g l = (l.nearest.word.now ≡ l.word) × KeepsNearest l.nearest (take l.user (declared l.declaration).users)
