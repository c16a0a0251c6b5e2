use Rattle.std.proofs.Common.{◌≡◌, ℤ, SFits, to_z, of_z, w64}
use Rattle.std.specs.Int.{int_max, int_min}
use Rattle.std.proofs.lemmas.Int.{to_z-of_z}
use Rattle.pw_procs.proofs.Hulls.{from_equal_ends}
use Rattle.pw_procs.proofs.bodies.products.spanning.Goals as goal

-- a number as the code passes it on
abbrev passed : ℤ → ℤ
passed z = to_z w64 (of_z w64 z)

-- what is made of four numbers in three steps
of_four : (f : ℤ → ℤ → ℤ) (a b c d first second all : ℤ) → SFits w64 a → SFits w64 b → SFits w64 c → SFits w64 d
    → SFits w64 first → SFits w64 second → SFits w64 all → first ≡ f (passed a) (passed b) → second ≡ f (passed c) (passed d)
    → all ≡ f (passed first) (passed second) → passed all ≡ f (f a b) (f c d)
of_four f a b c d first second all fits_a fits_b fits_c fits_d fits_first fits_second fits_all is_first is_second is_all =
    let same_a = to_z-of_z w64 a fits_a in
    let same_b = to_z-of_z w64 b fits_b in
    let same_c = to_z-of_z w64 c fits_c in
    let same_d = to_z-of_z w64 d fits_d in
    let same_first = to_z-of_z w64 first fits_first in
    let same_second = to_z-of_z w64 second fits_second in
    let same_all = to_z-of_z w64 all fits_all in
    cc

pub returns : goal.returns
returns c =
    let n = c.args in
    let r = c.ranges in
    from_equal_ends c.from_to.result _ _ (int_min (int_min n.a n.b) (int_min n.c n.d)) (int_max (int_max n.a n.b) (int_max n.c n.d))
    (of_four int_min n.a n.b n.c n.d c.min.result c.min-2.result c.min-3.result r.a r.b r.c r.d
    (record { sfits = c.min.type_inv }) (record { sfits = c.min-2.type_inv }) (record { sfits = c.min-3.type_inv })
    c.min.ensures.value c.min-2.ensures.value c.min-3.ensures.value)
    (of_four int_max n.a n.b n.c n.d c.max.result c.max-2.result c.max-3.result r.a r.b r.c r.d
    (record { sfits = c.max.type_inv }) (record { sfits = c.max-2.type_inv }) (record { sfits = c.max-3.type_inv })
    c.max.ensures.value c.max-2.ensures.value c.max-3.ensures.value)
    c.from_to.ensures
