use Rattle.std.proofs.Common.{◌<◌, length, ap, arith}
use Rattle.pw_decl.specs.inside.Held.{compound_of, steps_of}
use Rattle.std.proofs.lemmas.List.{length-map}
use Rattle.pw_decl.proofs.KeptLemmas.{got}
use Rattle.pw_decl.proofs.declaration.Declaration.steps.Goals as goal

pub returns : goal.returns
returns g c =
    let compounds = c.args.self.now.compounds.items in
    let many = length-map compounds compound_of in
    let there : c.args.compound < length compounds = omega (arith, many, c.requires) in
    let read = rw c.from.ensures at c.index.ensures in
    (compound_of c.index.result.now, got compound_of compounds c.args.compound c.index.result.now there read, ap steps_of c.deref.ensures.value)
