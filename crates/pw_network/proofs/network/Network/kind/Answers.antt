use Rattle.std.proofs.Common.{◌-◌, ◌∙◌, refl, sym, arith}
use Rattle.std.proofs.lemmas.List.{length-map}
use Rattle.pw_info.specs.declared.kind.Kind.TheVariants as kinds
use Rattle.pw_network.specs.Wiring.{wiring}
use Rattle.pw_network.specs.inside.Held.{inner_of}
use Rattle.pw_network.proofs.CellLemmas.{after_declared}
use Rattle.pw_network.proofs.network.Network.kind.Goals as goal

pub returns : goal.returns
returns g c =
    let network = wiring c.args.self.now in
    let inner = c.args.self.now.inner.items in
    let many = length-map inner inner_of in
    after_declared (λ cell. cell.kind) network.declared.kinds inner c.cells-declared.result c.args.cell (c.args.cell - c.cells-declared.result) c.index.result.now kinds.Interval
    (c.args.self.now.well.declared.kinds ∙ sym c.cells-declared.ensures.count) (omega (arith, c.if-cell-declared.false)) refl
    (omega (arith, many, c.requires, c.if-cell-declared.false, c.cells-declared.ensures.count)) c.index.ensures
