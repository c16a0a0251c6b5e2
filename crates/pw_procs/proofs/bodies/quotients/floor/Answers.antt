use Rattle.std.proofs.Common.{◌∙◌, SFits, w64, rules}
use Rattle.std.proofs.lemmas.Int.{to_z-of_z}
use Rattle.pw_procs.proofs.Division.{floor_is}
use Rattle.pw_procs.proofs.bodies.quotients.floor.Goals as goal

pub returns-clause-below : goal.returns-clause-below
returns-clause-below c =
    let fits : SFits w64 c.div_euclid.result = search rules in
    let t = to_z-of_z w64 c.args.t c.ranges.t in
    let x = to_z-of_z w64 c.args.x c.ranges.x in
    floor_is c.args.t c.args.x _ c.requires.positive (to_z-of_z w64 c.div_euclid.result fits ∙ (rw (t, x) at c.div_euclid.ensures))
