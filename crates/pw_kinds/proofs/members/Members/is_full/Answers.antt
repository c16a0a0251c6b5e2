use Rattle.std.proofs.Common.{sym, ◌∙◌}
use Rattle.std.proofs.lemmas.Bool.{eqb-true, eq-eqb}
use Rattle.pw_kinds.proofs.MemberSets.{mask_full, full_mask_is}
use Rattle.pw_kinds.proofs.members.Members.is_full.Goals as goal

pub returns : goal.returns
returns c = (
  λ e. mask_full c.args.self c.full_mask.result c.full_mask.ensures (sym c.bits.ensures ∙ eqb-true c.bits.result c.full_mask.result e),
  λ h. eq-eqb c.bits.result c.full_mask.result (c.bits.ensures ∙ full_mask_is c.args.self c.full_mask.result c.full_mask.ensures h),
)
