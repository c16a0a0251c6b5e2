use Rattle.std.proofs.Common.{sym, arith}
use Rattle.pw_decl.proofs.DeclarationLines.{told_not_allowed}
use Rattle.pw_decl.proofs.line.speaks.Goals as goal

pub returns-then-not-allows_all-clause-err : goal.returns-then-not-allows_all-clause-err
returns-then-not-allows_all-clause-err c = λ so_far.
    told_not_allowed so_far c.args.line.now (omega arith) (sym c.if-idles.ensures) (sym c.if-not-allows_all.ensures)
