use Rattle.std.proofs.Common.{◌≡◌, ◌++◌, ◌+◌, ◌-◌, arith, ap, ◌∙◌}
use Rattle.std.proofs.lemmas.Grind.{common_steps}
use Rattle.pw_transcript.proofs.HeldFacts.{held-put_mid, held-empty}
use Rattle.pw_transcript.proofs.gathered.Held.fill.Goals as goal

pub returns-clause-added : goal.returns-clause-added
returns-clause-added c =
    let inside = c.self.inside in
    let count = c.min-count.result in
    let new = c.copy_from_slice.new.self in
    held-put_mid inside.start inside.end (inside.end + count) (inside.end + count - inside.end) inside.bytes new (grind (arith, common_steps)) (grind (arith, common_steps)) (grind (arith, common_steps))
    ∙ ap (λ l. l ++ new) c.self.view_is ∙ ap (λ l. c.args.self.now ++ l) (grind (arith, common_steps))

pub returns-clause-some : goal.returns-clause-some
returns-clause-some c = λ none some.
    let inside = c.self.inside in
    let same : inside.start ≡ inside.end = held-empty inside.start inside.end inside.bytes (omega arith) (omega arith) (c.self.view_is ∙ none) in
    let room : inside.end ≡ 0 = c.self.invariant.2 same in
    grind (arith, common_steps)
