use Rattle.std.proofs.Common.{take, drop, sym, ap, ◌∙◌}
use Rattle.std.proofs.lemmas.List.{drop-drop}
use Rattle.pw_transcript.proofs.gathered.Held.release.Goals as goal

pub returns : goal.returns
returns c =
    sym (drop-drop c.args.count c.self.inside.start (take c.self.inside.end c.self.inside.bytes))
    ∙ ap (drop c.args.count) c.self.view_is
