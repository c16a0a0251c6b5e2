use Rattle.std.proofs.Common.{◌≡◌, ◌+◌, ◌≤◌, ◌++◌, ◌∙◌, List, map, length, sym, ap, subst, arith}
use Rattle.std.proofs.lemmas.List.{length-append, length-map}
use Rattle.pw_cells.specs.Cells.{Cell, Store, new_cell}
use Rattle.pw_cells.specs.inside.OneCell.{AreRight}
use Rattle.pw_cells.proofs.Continuing.{continues_longer}
use Rattle.pw_cells.proofs.RightAnswers.{more_cells, slots_still}
use Rattle.pw_cells.proofs.cell_store.CellStore.add_cells.Goals as goal

pub invariant_of-self : goal.invariant_of-self
invariant_of-self g c = rw c.reserve.ensures.items c.self.invariant

pub invariant_of-self-2 : goal.invariant_of-self-2
invariant_of-self-2 g c =
    let items : c.append_cells.new.cells.items ≡ c.self.inside.cells.items ++ map new_cell c.args.kinds.now = c.append_cells.ensures ∙ ap (λ l. l ++ map new_cell c.args.kinds.now) c.reserve.ensures.items in
    let old : length c.self.inside.cells.items ≡ length c.args.self.now.cells = ap (λ (s : Store). length s.cells) c.self.view_is in
    let long : length c.append_cells.new.cells.items ≡ length c.self.inside.cells.items + length c.args.kinds.now =
    ap length items ∙ length-append c.self.inside.cells.items (map new_cell c.args.kinds.now) ∙ ap (λ n. length c.self.inside.cells.items + n) (length-map c.args.kinds.now new_cell) in
    let longer : length c.self.inside.cells.items ≤ length (c.self.inside.cells.items ++ map new_cell c.args.kinds.now) = omega (arith, sym (ap length items), long) in (
      omega (arith, long, old, c.requires),
      slots_still (AreRight c.self.inside.cells.items) (AreRight c.append_cells.new.cells.items) c.self.inside.recalled.slots
          (λ answers right. subst (λ (l : List Cell). AreRight l answers) (sym {A = List Cell} items)
          (more_cells c.self.inside.cells.items (map new_cell c.args.kinds.now) answers longer right)) c.self.invariant.1,
    )

pub returns-clause-continues : goal.returns-clause-continues
returns-clause-continues g c =
    continues_longer c.args.self.now _ (map new_cell c.args.kinds.now)
    (c.append_cells.ensures ∙ ap (λ l. l ++ map new_cell c.args.kinds.now) (c.reserve.ensures.items ∙ ap (λ (s : Store). s.cells) c.self.view_is))
    (ap (λ (s : Store). s.arrivals) c.self.view_is)
