use Rattle.std.proofs.Common.{◌≡◌, ◌-◌, ◌^◌, ◌≤◌, arith, ap}
use Rattle.std.proofs.lemmas.Nat.{pow_pos}
use Rattle.std.proofs.lemmas.Nat.Bits.{ones_shr}
use Rattle.pw_kinds.proofs.members.full_mask.Goals as goal

pub returns : goal.returns
returns c =
    let back : 128 - (128 - c.args.size) ≡ c.args.size = omega arith in
    let within : 128 - c.args.size ≤ 128 = omega arith in
    omega (arith, ones_shr 128 (128 - c.args.size) within, ap (λ k. 2 ^ k) back, pow_pos c.args.size)
