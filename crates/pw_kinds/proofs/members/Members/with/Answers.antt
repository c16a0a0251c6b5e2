use Rattle.std.proofs.Common.{◌<◌, ◌*◌, ◌^◌, ◌%◌, ap, arith, bit_or, subst, sym, ◌∙◌}
use Rattle.pw_kinds.specs.Members.{mask_in}
use Rattle.pw_kinds.specs.Places.{IsMask, mask_allows}
use Rattle.pw_kinds.proofs.Masks.{with_bit_below}
use Rattle.pw_kinds.proofs.MemberSets.{with_values}
use Rattle.pw_kinds.proofs.members.Members.with.Goals as goal

pub of_mask-requires : goal.of_mask-requires
of_mask-requires c =
    let places = c.args.self.places in
    let narrow : c.args.place < 128 = omega (arith, places.most, c.requires) in
    subst (IsMask c.args.self.size) (ap (λ mask. bit_or mask (1 * 2 ^ c.args.place % 340282366920938463463374607431768211456)) (sym c.bits.ensures))
    (record {
      fewest = places.fewest;
      most = places.most;
      below = with_bit_below (mask_in c.args.self) c.args.self.size c.args.place places.below c.requires narrow;
    })

pub returns-clause-values : goal.returns-clause-values
returns-clause-values c v =
    let places = c.args.self.places in
    ap (λ mask. mask_allows mask v) (c.of_mask.ensures.mask ∙ ap (λ mask. bit_or mask (1 * 2 ^ c.args.place % 340282366920938463463374607431768211456)) c.bits.ensures)
    ∙ with_values (mask_in c.args.self) c.args.place (omega (arith, places.most, c.requires)) v
