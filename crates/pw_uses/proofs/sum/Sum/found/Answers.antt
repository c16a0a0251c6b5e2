use Rattle.std.proofs.Common.{◌<◌, length, sym, arith}
use Rattle.pw_decl.specs.Declaration.{Declared}
use Rattle.pw_decl.specs.inside.Fields.{declared}
use Rattle.pw_procs.specs.Registry.{cells_of}
use Rattle.pw_uses.specs.Sum.{HasCells}
use Rattle.pw_uses.proofs.SumLemmas.{takes_them}
use Rattle.pw_uses.proofs.sum.Sum.found.Goals as goal

pub returns-clause-some : goal.returns-clause-some
returns-clause-some g c =
    let d : Declared = declared c.args.declaration.now in
    let users : 0 < length d.users = omega (arith, c.if-users-eq0.false, c.users.ensures.count) in
    let has : HasCells d c.in_ok-x.x c.in_ok-y.y c.in_ok-t.t =
    record {
      users = users;
      x_cell = c.in_ok-x.ensures.some;
      y_cell = c.in_ok-y.ensures.some;
      t_cell = c.in_ok-t.ensures.some;
    } in
    record {
      cells = has;
      called = sym c.in_ok-callable.ensures.named;
      between = c.in_ok-cells.ensures.cells;
      takes = takes_them d c.in_ok-x.x c.in_ok-y.y c.in_ok-t.t c.in_ok-callable.callable (cells_of c.in_ok-cells.cells) c.requires c.limits.ensures.kinds has
          (sym c.in_ok-callable.ensures.named) c.in_ok-cells.ensures.cells;
    }
