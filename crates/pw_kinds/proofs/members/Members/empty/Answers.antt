use Rattle.std.proofs.Common.{ap, ◌∙◌}
use Rattle.pw_kinds.specs.Places.{mask_allows}
use Rattle.pw_kinds.proofs.MemberSets.{zero_values, empty_fits, empty_mask_exact}
use Rattle.pw_kinds.proofs.members.Members.empty.Goals as goal

pub of_mask-requires : goal.of_mask-requires
of_mask-requires c = empty_fits c.args.size c.requires

pub returns-clause-values : goal.returns-clause-values
returns-clause-values c v = ap (λ mask. mask_allows mask v) c.of_mask.ensures.mask ∙ zero_values v

pub returns-clause-exact : goal.returns-clause-exact
returns-clause-exact c = empty_mask_exact c.args.size c.of_mask.result c.of_mask.ensures.size c.of_mask.ensures.mask
