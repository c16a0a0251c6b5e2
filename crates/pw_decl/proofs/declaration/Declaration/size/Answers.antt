use Rattle.std.proofs.Common.{◌<◌, List, length, sym, subst, arith}
use Rattle.std.specs.Prelude.{All}
use Rattle.pw_decl.specs.Compound.{Size}
use Rattle.pw_decl.specs.inside.Held.{compound_of, size_of}
use Rattle.pw_decl.specs.WellDeclared.{IsSmall}
use Rattle.std.proofs.lemmas.List.{length-map}
use Rattle.pw_decl.proofs.KeptLemmas.{holds_at}
use Rattle.pw_decl.proofs.declaration.Declaration.size.Goals as goal

pub returns-in-Compound-clause-small : goal.returns-in-Compound-clause-small
returns-in-Compound-clause-small g c =
    let compounds = c.args.self.now.compounds.items in
    let many = length-map compounds compound_of in
    let asked = rw c.in-Compound.is at c.requires in
    let there : c.from.result < length compounds = omega (arith, many, asked, c.from.ensures) in
    let small = subst (λ (sizes : List Size). All IsSmall sizes) (sym c.args.self.now.sized) c.args.self.now.well.expansions in
    holds_at IsSmall (λ kept. size_of kept.size) compounds c.from.result c.index.result.now small there c.index.ensures
