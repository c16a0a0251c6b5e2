use Rattle.std.proofs.Common.{refl, ap}
use Rattle.pw_decl.specs.inside.Fields.{placed}
use Rattle.pw_decl.proofs.text.finish.Goals as goal
use Rattle.pw_decl.proofs.text.finish.Goals.{in-BeforeHeader, in-Inside}

pub returns-in-Outside-clause-ok : goal.returns-in-Outside-clause-ok
returns-in-Outside-clause-ok g c = λ d. ap (placed d) c.in-Outside.is

pub returns-clause-err : goal.returns-clause-err
returns-clause-err g c = λ d.
    elim c.match-place.branch [
      | in-BeforeHeader w ↦ (rw (w.in-BeforeHeader.is, w.why-is) refl, refl)
      | in-Inside w ↦ (rw (w.in-Inside.is, w.why-is) refl, refl)
    ]
