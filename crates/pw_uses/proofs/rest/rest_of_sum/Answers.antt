use Rattle.pw_uses.proofs.SumLemmas.{answered, refused}
use Rattle.pw_uses.proofs.rest.rest_of_sum.Goals as goal

pub returns-clause-ok : goal.returns-clause-ok
returns-clause-ok c = answered c.args.x c.args.t c.args.text.now _ c.in_ok-over_text.ensures.ok

pub returns-clause-err : goal.returns-clause-err
returns-clause-err c = refused c.args.x c.args.t c.args.text.now _ c.in_ok-over_text.ensures.ok
