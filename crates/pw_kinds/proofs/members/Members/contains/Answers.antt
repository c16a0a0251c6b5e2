use Rattle.std.proofs.Common.{◌≡◌, ◌≤◌, false, nat_lt, arith, ◌∙◌, sym}
use Rattle.pw_kinds.proofs.MemberSets.{allows_past}
use Rattle.pw_kinds.proofs.members.Members.contains.Goals as goal

pub returns-else-place-self : goal.returns-else-place-self
returns-else-place-self c =
    let past : c.args.self.size ≤ c.args.place = omega arith in
    let outside : nat_lt c.args.place c.args.self.size ≡ false = grind arith in
    outside ∙ sym (allows_past c.args.self c.args.place past)
