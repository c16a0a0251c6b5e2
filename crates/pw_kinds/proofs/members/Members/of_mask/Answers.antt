use Rattle.std.proofs.Common.{subst, sym}
use Rattle.pw_kinds.specs.Masks.{bits_again, mask_fits, words_fit}
use Rattle.pw_kinds.specs.Places.{IsMask}
use Rattle.pw_kinds.proofs.members.Members.of_mask.Goals as goal

pub invariant_of-result : goal.invariant_of-result
invariant_of-result c = record {
  words = words_fit c.args.mask (mask_fits c.args.size c.args.mask c.requires);
  places = subst (IsMask c.args.size) (sym (bits_again c.args.mask)) c.requires;
}

pub returns-clause-mask : goal.returns-clause-mask
returns-clause-mask c = bits_again c.args.mask
