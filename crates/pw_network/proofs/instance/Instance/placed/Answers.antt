use Rattle.std.proofs.Common.{◌+◌, map, ap, sym, ◌∙◌}
use Rattle.pw_decl.specs.Expansion.{at_place, instance_on}
use Rattle.pw_network.proofs.AttachedCells.{inputs_on, one_placed, two_placed}
use Rattle.pw_network.specs.inside.Held.{cells_placed}
use Rattle.pw_network.proofs.instance.Instance.placed.Goals.{in-len2, in-len3}
use Rattle.pw_network.proofs.instance.Instance.placed.Goals as goal

pub returns-clause-instance : goal.returns-clause-instance
returns-clause-instance c =
    let name = at_place c.args.cells.now (λ j. c.args.first + j) in
    let places = c.cells.result.now in
    let procedure = c.args.call.now.procedure in
    let held = c.if-this-lt3.count in
    let output = c.cell_at-2.result in
    let more = c.in_ok-clone.field-0.value.inputs.items in
    ap (λ l. instance_on procedure (map name l)) (sym c.cells.ensures.cells)
    ∙ (elim c.if-this-lt3.branch [
      | in-len2 w ↦ one_placed procedure output w.cell_at.result name places more held w.in-len2.len_at_least w.in-len2.len_below w.cell_at.ensures w.count-is
          c.cell_at-2.ensures
      | in-len3 w ↦ two_placed procedure output w.cell_at-one.result w.cell_at-in-len3.result name places more held w.in-len3.len_at_least w.in-len3.len_below
          w.cell_at-one.ensures w.cell_at-in-len3.ensures w.count-is c.cell_at-2.ensures
    ])

pub returns-clause-inputs : goal.returns-clause-inputs
returns-clause-inputs c =
    inputs_on c.args.call.now.procedure (cells_placed c.args.cells.now c.args.first c.args.call.now) _ (returns-clause-instance c)
