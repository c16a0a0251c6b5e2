use Rattle.std.proofs.Common.{◌≡◌, ◌∙◌, map}
use Rattle.pw_procs.specs.Registering.{place_of_name}
use Rattle.pw_procs.specs.inside.Shapes.{name_bytes}
use Rattle.pw_procs.proofs.PlaceLemmas.{place}
use Rattle.pw_procs.proofs.name_table.NameTable.find.Goals as goal

pub returns-then-len-le-FEW-clause-number : goal.returns-then-len-le-FEW-clause-number
returns-then-len-le-FEW-clause-number g c =
    let keys = c.self.inside.set.keys in
    let at : c.place_among.result ≡ place_of_name (map name_bytes keys) c.args.word.now =
    rw c.as_slice.ensures.keys at (c.place_among.ensures.number ∙ place name_bytes c.args.word.now c.as_slice.result.now) in
    rw (← c.self.view_is) at
