use Rattle.std.proofs.Common.{◌≡◌, ap, bit_and, subst, sym, ◌∙◌}
use Rattle.pw_kinds.specs.Members.{mask_in}
use Rattle.pw_kinds.specs.Places.{IsMask, mask_allows}
use Rattle.pw_kinds.proofs.MemberSets.{and_fits, both_values, meet_mask_is}
use Rattle.pw_kinds.proofs.members.Members.meet.Goals as goal

pub of_mask-requires : goal.of_mask-requires
of_mask-requires c =
    subst (IsMask c.args.self.size) (sym (λ i. bit_and (c.bits.ensures i) (c.bits-2.ensures i)))
    (and_fits c.args.self.size (mask_in c.args.self) (mask_in c.args.other) c.args.self.places)

pub returns-clause-values : goal.returns-clause-values
returns-clause-values c v =
    let both : mask_in c.of_mask.result ≡ bit_and (mask_in c.args.self) (mask_in c.args.other) = c.of_mask.ensures.mask ∙ (λ i. bit_and (c.bits.ensures i) (c.bits-2.ensures i)) in
    ap (λ mask. mask_allows mask v) both ∙ both_values (mask_in c.args.self) (mask_in c.args.other) v

pub returns-clause-exact : goal.returns-clause-exact
returns-clause-exact c = meet_mask_is c.args.self c.args.other c.of_mask.result c.of_mask.ensures.size (c.of_mask.ensures.mask ∙ (λ i. bit_and (c.bits.ensures i) (c.bits-2.ensures i)))
