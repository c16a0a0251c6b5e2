use Rattle.std.proofs.Common.{◌++◌, length, ◌+◌, ◌-◌, arith, ap, ◌∙◌}
use Rattle.std.proofs.lemmas.Grind.{common_steps}
use Rattle.pw_transcript.proofs.HeldFacts.{held-put_mid}
use Rattle.pw_transcript.proofs.gathered.Held.add.Goals as goal

pub returns-clause-added : goal.returns-clause-added
returns-clause-added c =
    let inside = c.self.inside in
    let count = length c.args.bytes.now in
    let new = c.copy_from_slice.new.self in
    held-put_mid inside.start inside.end (inside.end + count) (inside.end + count - inside.end) inside.bytes new (grind (arith, common_steps)) (grind (arith, common_steps)) (grind (arith, common_steps))
    ∙ ap (λ l. l ++ new) c.self.view_is ∙ ap (λ l. c.args.self.now ++ l) (grind (arith, common_steps))
