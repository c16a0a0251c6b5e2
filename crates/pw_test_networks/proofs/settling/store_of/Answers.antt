use Rattle.std.proofs.Common.{◌≡◌, List, [], ◌++◌, map, ap, ◌∙◌}
use Rattle.pw_cells.specs.Cells.{Cell, new_cell}
use Rattle.pw_network.specs.Wiring.{wiring}
use Rattle.pw_settle.proofs.SoundStores.{sound_new}
use Rattle.pw_settle.proofs.StoreCells.{kinds_added}
use Rattle.pw_test_networks.proofs.settling.store_of.Goals as goal

pub returns : goal.returns
returns g c =
    let none : c.new-store.result.cells ≡ [] = search in
    let new : c.add_cells.new.self.cells ≡ map new_cell c.in_ok-kinds.kinds.items =
    c.in_ok-add_cells.ensures.cells ∙ ap (λ (cs : List Cell). cs ++ map new_cell c.deref.result.now) none ∙ ap (map new_cell) c.deref.ensures.value in
    let kinds = ap (map (λ (x : Cell). x.kind)) new ∙ kinds_added [] c.in_ok-kinds.kinds.items ∙ c.in_ok-kinds.ensures in
    record {
      kinds = kinds;
      sound = sound_new (wiring c.args.network.now) c.add_cells.new.self c.in_ok-kinds.kinds.items kinds new;
    }
