use Rattle.pw_kinds.proofs.Exacts.{not_one}
use Rattle.pw_kinds.proofs.exact.Exact.number.Goals as goal

pub returns-in_default : goal.returns-in_default
returns-in_default c = λ n. (λ e. absurd (cc), λ h. absurd (not_one c.args.self n c.in_default.not-One h))
