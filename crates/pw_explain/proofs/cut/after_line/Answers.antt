use Rattle.std.proofs.Common.{[], refl}
use Rattle.pw_explain.proofs.CutLemmas.{none_after, rest_after}
use Rattle.pw_explain.proofs.cut.after_line.Goals as goal

pub returns-in-Some : goal.returns-in-Some
returns-in-Some c = rest_after c.args.text.now [] c.args.text.now c.in-Some.field-0-0.now c.in-Some.rest.now refl c.in-Some.ensures.some.0

pub returns-in-None : goal.returns-in-None
returns-in-None c = none_after c.args.text.now
