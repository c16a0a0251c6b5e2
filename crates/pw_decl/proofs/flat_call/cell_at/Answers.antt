use Rattle.std.proofs.Common.{◌+◌, sym, arith}
use Rattle.pw_decl.proofs.FlatLemmas.{at_place_within, at_place_past}
use Rattle.pw_decl.proofs.flat_call.cell_at.Goals as goal

pub returns-then-place-cells : goal.returns-then-place-cells
returns-then-place-cells c = sym (at_place_within c.args.cells.now (λ j. c.args.first + j) c.args.place 0 c.if-place-cells.true)

pub returns-else-place-cells : goal.returns-else-place-cells
returns-else-place-cells c = sym (at_place_past c.args.cells.now (λ j. c.args.first + j) c.args.place (omega (arith, c.if-place-cells.false)))
