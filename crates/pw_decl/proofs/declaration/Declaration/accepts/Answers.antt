use Rattle.std.proofs.Common.{◌<◌, length, arith}
use Rattle.pw_procs.specs.Procedure.{procedure_of}
use Rattle.pw_procs.specs.Registry.{procedures_in}
use Rattle.pw_decl.specs.inside.Held.{compound_of, compounds_of}
use Rattle.std.proofs.lemmas.List.{length-map}
use Rattle.pw_decl.proofs.KeptLemmas.{got, stored_accepts, compound_accepts}
use Rattle.pw_decl.proofs.declaration.Declaration.accepts.Goals as goal

pub returns-in-Stored : goal.returns-in-Stored
returns-in-Stored g c =
    rw c.in-Stored.is
    (stored_accepts (procedures_in c.args.self.now.registry.now) c.in-Stored.number (procedure_of c.get.result.now) c.args.kinds.now c.accepts.result c.get.ensures
    (rw c.signature.ensures.signature at c.accepts.ensures))

pub returns-in-Compound : goal.returns-in-Compound
returns-in-Compound g c =
    let compounds = c.args.self.now.compounds.items in
    let many = length-map compounds compound_of in
    let asked = rw c.in-Compound.is at c.requires in
    let there : c.in-Compound.number < length compounds = omega (arith, many, asked) in
    let read = rw c.from.ensures at c.index.ensures in
    rw c.in-Compound.is
    (compound_accepts (compounds_of compounds) c.in-Compound.number (compound_of c.index.result.now) c.args.kinds.now c.are_equal_kinds.result
    (got compound_of compounds c.in-Compound.number c.index.result.now there read) (rw c.deref.ensures.value at c.are_equal_kinds.ensures))
