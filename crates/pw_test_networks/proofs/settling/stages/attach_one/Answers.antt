use Rattle.std.proofs.Common.{◌++◌, List, map, ap, ◌∙◌, arith}
use Rattle.pw_info.specs.declared.kind.Kind.{Kind}
use Rattle.pw_procs.specs.Registry.{cells_of}
use Rattle.pw_cells.specs.Cells.{new_cell}
use Rattle.pw_decl.specs.Declaration.{Declared}
use Rattle.pw_decl.specs.Expansion.{inner_kinds_of}
use Rattle.pw_network.specs.Wiring.{wiring}
use Rattle.pw_network.specs.Network.{Network}
use Rattle.pw_settle.proofs.StoreCells.{room_for_inner}
use Rattle.pw_test_networks.proofs.StageLemmas.{fits_attached, sound_for_attached}
use Rattle.pw_test_networks.proofs.settling.stages.attach_one.Goals as goal

pub add_cells-requires : goal.add_cells-requires
add_cells-requires g c =
    let room = room_for_inner (wiring c.args.network.now) c.args.store.now c.args.network.now.well c.requires.kinds in
    omega (arith, c.inner_kinds_of-kinds.ensures.most)

pub returns : goal.returns
returns g c =
    let own = c.inner_kinds_of-kinds.ensures.kinds
    ∙ ap (λ (d : Declared). inner_kinds_of d.compounds c.in_ok-callable.callable)
    (c.declaration.ensures ∙ ap (λ (n : Network). n.declared) c.in-Ok.ensures.ok) in
    let are = c.in_ok-add_cells.ensures ∙ ap (λ (ks : List Kind). c.args.store.now.cells ++ map new_cell ks) own in
    record {
      sound = sound_for_attached (wiring c.args.network.now) c.args.attachment.now.line c.in_ok-callable.callable (cells_of c.in_ok-callable.cells)
          c.args.attachment.now.support (wiring c.attach.new.self) c.args.network.now.well c.attach.new.self.well c.in-Ok.ensures.ok
          c.args.store.now c.add_cells.new.store are c.requires;
      fits = fits_attached (wiring c.args.network.now) c.args.attachment.now.line c.in_ok-callable.callable (cells_of c.in_ok-callable.cells)
          c.args.attachment.now.support (wiring c.attach.new.self) c.args.network.now.well c.attach.new.self.well c.in-Ok.ensures.ok
          c.args.store.now c.add_cells.new.store are c.requires;
    }
