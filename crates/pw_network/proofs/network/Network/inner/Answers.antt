use Rattle.std.proofs.Common.{ℕ, ◌-◌, ◌∙◌, Option, Some, None, map, refl, sym, ap, arith}
use Rattle.std.proofs.lemmas.List.{length-map}
use Rattle.pw_network.specs.Wiring.{wiring}
use Rattle.pw_network.specs.inside.Held.{inner_of}
use Rattle.pw_network.proofs.CellLemmas.{after_declared, among_declared}
use Rattle.pw_network.proofs.network.Network.inner.Goals as goal

abbrev no_origin : Option (ℕ × ℕ)
no_origin = None

pub returns-then-cell-declared-clause-origin : goal.returns-then-cell-declared-clause-origin
returns-then-cell-declared-clause-origin g c =
    let network = wiring c.args.self.now in
    among_declared network.declared.cells (map (λ inner. Some (inner.line, inner.number)) network.inner) c.args.cell None
    (omega (arith, c.if-cell-declared.true, c.cells-declared.ensures.count))

pub returns-clause-origin : goal.returns-clause-origin
returns-clause-origin g c =
    let network = wiring c.args.self.now in
    let inner = c.args.self.now.inner.items in
    let many = length-map inner inner_of in
    let named = length-map network.declared.cells (λ name. no_origin) in
    ap (λ n. Some (c.index-inner.result.now.line, n)) c.from.ensures ∙ after_declared (λ cell. Some (cell.line, cell.number)) (map (λ name. no_origin) network.declared.cells) inner c.cells-declared.result c.args.cell (c.args.cell - c.cells-declared.result) c.index-inner.result.now None
    (named ∙ sym c.cells-declared.ensures.count) (omega (arith, c.if-cell-declared.false)) refl
    (omega (arith, many, c.requires, c.if-cell-declared.false, c.cells-declared.ensures.count)) c.index-inner.ensures
