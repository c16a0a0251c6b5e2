use Rattle.std.proofs.Common.{◌≡◌, ◌++◌, map, replicate, ap, ◌∙◌}
use Rattle.pw_cells.specs.Cells.{Arrivals, new_cell}
use Rattle.pw_decl.specs.inside.Fields.{declared}
use Rattle.pw_network.specs.Wiring.{wiring}
use Rattle.pw_sessions.specs.Beliefs.{premises_below}
use Rattle.pw_sessions.specs.Workbench.{Workbench}
use Rattle.pw_sessions.proofs.WorkbenchLemmas.{IsLeftBy-new}
use Rattle.pw_sessions.proofs.workbench.Workbench.new.Goals as goal

pub returns-clause-left : goal.returns-clause-left
returns-clause-left g c =
    let bench : Workbench = record {
      network = wiring c.args.network;
      store = c.add_cells.new.self;
      nogoods = c.new.result;
      beliefs = c.in_ok-beliefs.beliefs.items;
      snapshots = c.in_ok-snapshots.snapshots.items;
      calls = 0;
    } in
    let new = c.in_ok-add_cells.ensures.cells
    ∙ ap (λ cs. cs ++ map new_cell c.kinds.result.now) c.new-store.ensures.cells ∙ ap (map new_cell) c.kinds.ensures.kinds in
    let quiet = ap (λ (l : Arrivals). l.list) c.in_ok-add_cells.ensures.arrivals ∙ c.new-store.ensures.arrivals in
    let believed : c.in_ok-beliefs.beliefs.items ≡ replicate c.users-users.result (premises_below c.premises.result) =
    c.in_ok-beliefs.ensures.items_if_clones_equal (λ y same. same) ∙ (λ i. replicate (c.from.ensures i) (c.first-premises.ensures.below i)) in
    IsLeftBy-new (declared c.args.declaration.now) c.kinds.ensures.each bench c.users-users.result c.premises.result c.requires new quiet c.new.ensures believed c.in_ok-snapshots.ensures.items
    c.users-users.ensures.count c.premises.ensures.count
