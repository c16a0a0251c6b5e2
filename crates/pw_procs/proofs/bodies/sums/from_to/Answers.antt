use Rattle.std.proofs.Common.{◌∙◌, sym, arith}
use Rattle.std.proofs.lemmas.Int.{ints, clamps}
use Rattle.std.proofs.lemmas.Bool.{false≢true}
use Rattle.pw_procs.proofs.Hulls.{between_cut, none_cut}
use Rattle.pw_procs.proofs.bodies.sums.from_to.Goals as goal

pub returns-in-Some : goal.returns-in-Some
returns-in-Some c = λ v.
    c.in-Some.ensures.values v ∙ between_cut c.args.lo c.args.hi _ _ v (omega (arith, ints, clamps)) (omega (arith, ints, clamps))

pub returns-in-None : goal.returns-in-None
returns-in-None c = λ v. c.empty.ensures.values v
    ∙ sym (none_cut c.args.lo c.args.hi _ _ v (omega (arith, ints, clamps)) (omega (arith, ints, clamps)) (λ ends. false≢true (c.in-None.ensures.some.1 ends)))
