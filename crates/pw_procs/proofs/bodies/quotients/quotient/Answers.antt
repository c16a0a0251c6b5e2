use Rattle.std.proofs.Common.{refl}
use Rattle.pw_kinds.proofs.Order.{not_both}
use Rattle.pw_procs.proofs.Division.{no_quotient}
use Rattle.pw_procs.proofs.bodies.quotients.quotient.Goals as goal

pub returns-then-is_empty : goal.returns-then-is_empty
returns-then-is_empty c = no_quotient c.args.t c.args.x c.args.t (c.if-is_empty.ensures.0 refl) (λ a b a_here b_here. not_both _ a_here (c.if-is_empty.ensures.0 refl a))

pub returns-then-is_empty-2 : goal.returns-then-is_empty-2
returns-then-is_empty-2 c = no_quotient c.args.t c.args.x c.args.x (c.if-is_empty-2.ensures.0 refl) (λ a b a_here b_here. not_both _ b_here (c.if-is_empty-2.ensures.0 refl b))
