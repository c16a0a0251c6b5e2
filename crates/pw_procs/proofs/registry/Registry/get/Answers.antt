use Rattle.std.proofs.Common.{◌<◌, length, arith}
use Rattle.std.proofs.lemmas.List.{length-map}
use Rattle.pw_procs.specs.Procedure.{procedure_of}
use Rattle.pw_procs.proofs.RegistryNames.{made_there}
use Rattle.pw_procs.proofs.registry.Registry.get.Goals as goal

pub index-requires : goal.index-requires
index-requires g c = omega (arith, c.requires, length-map c.args.self.now.entries.items procedure_of)

pub returns : goal.returns
returns g c =
    let within : c.args.number < length c.args.self.now.entries.items = omega (arith, c.requires, length-map c.args.self.now.entries.items procedure_of) in
    made_there procedure_of c.args.self.now.entries.items c.args.number c.index.result.now within c.index.ensures
