use Rattle.std.proofs.Common.{map, ap, subst, sym, ◌∙◌, arith}
use Rattle.pw_network.specs.Batches.{numbers_in}
use Rattle.pw_network.specs.inside.Batches.{AreThere, batch_of}
use Rattle.pw_network.specs.inside.Lists.{listed_by, numbers_for}
use Rattle.pw_network.proofs.ReaderLemmas.{from_none}
use Rattle.pw_network.proofs.network.Network.reader_batches.Goals as goal

pub new-requires : goal.new-requires
new-requires g c =
    let same = c.numbers.ensures ∙ from_none (numbers_for c.args.cell (map listed_by c.args.self.now.readers.links.items)) in
    subst (λ l. AreThere l c.numbers.result) (sym c.deref.ensures.value)
    (subst (AreThere c.args.self.now.calls.items) (sym same)
    (c.args.self.now.listed.read.there c.args.cell (omega (arith, c.requires, c.args.self.now.declared_cells))))

pub returns : goal.returns
returns g c =
    let same = c.numbers.ensures ∙ from_none (numbers_for c.args.cell (map listed_by c.args.self.now.readers.links.items)) in
    ap numbers_in c.new.ensures
    ∙ ap (λ l. numbers_in (map (batch_of l (map listed_by c.args.self.now.readers.links.items)) c.numbers.result)) c.deref.ensures.value
    ∙ ap (λ l. numbers_in (map (batch_of c.args.self.now.calls.items (map listed_by c.args.self.now.readers.links.items)) l)) same
    ∙ c.args.self.now.listed.read.are c.args.cell (omega (arith, c.requires, c.args.self.now.declared_cells))
