use Rattle.std.proofs.Common.{ap, ◌+◌, ◌∙◌}
use Rattle.pw_kinds.specs.Members.{mask_in}
use Rattle.pw_kinds.proofs.MemberSets.{full_fits, full_values, full_mask_exact}
use Rattle.pw_kinds.proofs.members.Members.full.Goals as goal

pub of_mask-requires : goal.of_mask-requires
of_mask-requires c = full_fits c.args.size c.full_mask.result c.requires c.full_mask.ensures

pub returns-clause-values : goal.returns-clause-values
returns-clause-values c = full_values c.args.size (mask_in c.of_mask.result) (ap (λ mask. mask + 1) c.of_mask.ensures.mask ∙ c.full_mask.ensures)

pub returns-clause-exact : goal.returns-clause-exact
returns-clause-exact c = full_mask_exact c.args.size c.of_mask.result c.of_mask.ensures.size (ap (λ mask. mask + 1) c.of_mask.ensures.mask ∙ c.full_mask.ensures)
