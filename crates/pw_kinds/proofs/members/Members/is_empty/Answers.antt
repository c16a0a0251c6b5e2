use Rattle.std.proofs.Common.{sym, ◌∙◌}
use Rattle.std.proofs.lemmas.Bool.{eqb-true, eq-eqb}
use Rattle.pw_kinds.proofs.MemberSets.{empty_values, empty_mask_is}
use Rattle.pw_kinds.proofs.members.Members.is_empty.Goals as goal

pub returns : goal.returns
returns c = (
  λ e. empty_values c.args.self (sym c.bits.ensures ∙ eqb-true c.bits.result 0 e),
  λ h. eq-eqb c.bits.result 0 (c.bits.ensures ∙ empty_mask_is c.args.self h),
)
