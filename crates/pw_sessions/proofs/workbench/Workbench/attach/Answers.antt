use Rattle.std.proofs.Common.{◌≡◌, List, ◌++◌, length, map, refl, sym, ap, ◌∙◌, subst, arith}
use Rattle.pw_info.specs.declared.kind.Kind.{Kind}
use Rattle.pw_cells.specs.Cells.{Cell, new_cell}
use Rattle.pw_decl.specs.Declaration.{Declared}
use Rattle.pw_decl.specs.Expansion.{inner_kinds_of}
use Rattle.pw_network.specs.Network.{Network}
use Rattle.pw_network.specs.Wiring.{wiring}
use Rattle.pw_procs.specs.Registry.{cells_of}
use Rattle.pw_settle.proofs.StoreCells.{room_for_inner}
use Rattle.pw_sessions.specs.inside.Fields.{state}
use Rattle.pw_sessions.specs.inside.Steps.{IsAttached}
use Rattle.pw_sessions.specs.Workbench.{Workbench}
use Rattle.pw_sessions.proofs.workbench.Workbench.attach.Goals as goal

pub add_cells-requires : goal.add_cells-requires
add_cells-requires g c =
    let room = room_for_inner (wiring c.args.self.now.network) c.args.self.now.store c.args.self.now.network.well c.requires.fits.sound.kinds in
    let same = ap length c.reserve.ensures.cells in
    omega (arith, c.inner_kinds_of-kinds.ensures.most)

pub returns-clause-ok : goal.returns-clause-ok
returns-clause-ok g c =
    let kinds : c.inner_kinds_of-kinds.result.now ≡ inner_kinds_of (wiring c.args.self.now.network).declared.compounds c.args.callable =
    c.inner_kinds_of-kinds.ensures.kinds
    ∙ ap (λ (d : Declared). inner_kinds_of d.compounds c.args.callable) (c.declaration.ensures ∙ ap (λ (n : Network). n.declared) c.in-Ok.ensures.ok) in
    subst (IsAttached (state c.args.self.now) c.args.line c.args.callable (cells_of c.args.cells) c.args.support) (sym {A = Workbench} c.note_entry.ensures)
    (record {
      network = c.in-Ok.ensures.ok;
      cells_are = c.in-Ok-add_cells.ensures.cells ∙ ap (λ (cs : List Cell). cs ++ map new_cell c.inner_kinds_of-kinds.result.now) c.reserve.ensures.cells
          ∙ ap (λ (ks : List Kind). c.args.self.now.store.cells ++ map new_cell ks) kinds;
      arrivals = c.in-Ok-add_cells.ensures.arrivals ∙ c.reserve.ensures.arrivals;
      continues = λ mark w count known was.
          c.in-Ok-add_cells.ensures.continues mark w count known (c.reserve.ensures.continues mark w count known was);
      nogoods = refl;
      beliefs = refl;
      snapshots = refl;
    })
