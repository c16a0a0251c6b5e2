use Rattle.std.proofs.Common.{refl}
use Rattle.pw_kinds.proofs.Order.{not_both}
use Rattle.pw_kinds.proofs.Exacts.{is_empty_is}
use Rattle.pw_kinds.proofs.exact.Exact.is_empty.Goals as goal

pub returns-in_default : goal.returns-in_default
returns-in_default c = (λ f. absurd (not_both _ f refl), λ h. absurd (c.in_default.not-Empty (is_empty_is c.args.self h)))
