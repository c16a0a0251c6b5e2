use Rattle.std.proofs.Common.{◌≤◌, length, sym, ◌∙◌, arith}
use Rattle.std.proofs.lemmas.List.{length-map}
use Rattle.pw_network.specs.inside.Held.{inner_of}
use Rattle.pw_network.specs.Wiring.{wiring}
use Rattle.pw_network.proofs.CompoundListLemmas.{unread_past}
use Rattle.pw_network.proofs.network.Network.inner_readers.Goals as goal

pub returns-in-None-clause-some : goal.returns-in-None-clause-some
returns-in-None-clause-some g c =
    let network = c.args.self.now in
    let past : length network.inner.items ≤ c.in_ok-place.place = omega (arith, c.in-None.ensures.lookup, c.deref.ensures.len, network.inner.ok.0) in
    let many = length-map network.inner.items inner_of in
    c.none.ensures
    ∙ sym (unread_past (wiring network) network.well c.args.cell (omega (arith, past, many, c.in_ok-place.ensures, c.len.ensures, network.declared_cells)))
