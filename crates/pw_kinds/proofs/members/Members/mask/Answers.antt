use Rattle.std.proofs.Common.{subst, sym, IsBitSet}
use Rattle.pw_kinds.specs.Members.{mask_in}
use Rattle.pw_kinds.proofs.Masks.{set_one, one_set}
use Rattle.pw_kinds.proofs.members.Members.mask.Goals as goal

pub returns : goal.returns
returns c = λ k. (
  λ set. set_one (mask_in c.args.self) k (subst (λ bits. IsBitSet bits k) c.bits.ensures set),
  λ one. subst (λ bits. IsBitSet bits k) (sym c.bits.ensures) (one_set (mask_in c.args.self) k one),
)
