use Rattle.std.proofs.Common.{◌≡◌, w64, arith, to_z, of_z}
use Rattle.std.proofs.lemmas.Int.{ints, fits_signed_mul, to_z-of_z}
use Rattle.pw_procs.proofs.bodies.products.times.Goals as goal

pub overflow_mul-result : goal.overflow_mul-result
overflow_mul-result c =
    let same_a : to_z w64 (of_z w64 c.args.a) ≡ c.args.a = omega (arith, ints, c.ranges.a) in
    let same_b : to_z w64 (of_z w64 c.args.b) ≡ c.args.b = omega (arith, ints, c.ranges.b) in
    rw (same_a, same_b) (fits_signed_mul w64 c.args.a c.args.b 1000000 1000000 (omega (arith, ints)) (omega (arith, ints)) (omega arith))

pub returns : goal.returns
returns c =
    let one = c.ranges.a in
    let another = c.ranges.b in
    let fits = fits_signed_mul w64 c.args.a c.args.b 1000000 1000000 (omega (arith, ints)) (omega (arith, ints)) (omega arith) in
    simp to_z-of_z
