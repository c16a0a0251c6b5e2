use Rattle.std.proofs.Common.{◌≡◌, ◌<◌, ◌^◌, ◌==◌, true, arith, refl, ap, subst, ◌∙◌}
use Rattle.std.specs.Int.{bit_at}
use Rattle.pw_kinds.proofs.Masks.{high_bit, set_one, one_set, bit_below}
use Rattle.pw_kinds.proofs.members.Members.of.Goals as goal

pub returns-then-mask-full_mask-clause-some : goal.returns-then-mask-full_mask-clause-some
returns-then-mask-full_mask-clause-some c = (
  λ e. absurd (cc),
  λ h. let below : c.args.mask < 2 ^ c.args.size = high_bit c.args.mask c.args.size h.1 in absurd (omega arith),
)

pub returns-clause-some : goal.returns-clause-some
returns-clause-some c = let below : c.args.mask < 2 ^ c.args.size = omega arith in (
  λ e. ((omega arith, omega arith), λ k set. bit_below c.args.mask c.args.size k below (set_one c.args.mask k set)),
  λ h. refl,
)

pub of_mask-requires : goal.of_mask-requires
of_mask-requires c = record { fewest = omega arith; most = omega arith; below = omega arith }

pub returns-clause-values : goal.returns-clause-values
returns-clause-values c = λ k. (
  λ one. one_set c.args.mask k (subst (λ mask. (bit_at mask k == 1) ≡ true) c.of_mask.ensures.mask one),
  λ set. ap (λ mask. bit_at mask k == 1) c.of_mask.ensures.mask ∙ set_one c.args.mask k set,
)
