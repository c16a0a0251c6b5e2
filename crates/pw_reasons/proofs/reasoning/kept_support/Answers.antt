use Rattle.std.proofs.Common.{sym, ◌∙◌}
use Rattle.pw_network.specs.Wiring.{wiring}
use Rattle.pw_settle.proofs.KeptFacts.{kind-in_value}
use Rattle.pw_reasons.proofs.reasoning.kept_support.Goals as goal

pub implies-requires : goal.implies-requires
implies-requires g c =
    c.kept-kept.ensures.kind
    ∙ sym (kind-in_value (wiring c.args.network.now) c.args.store.now c.requires.sound.kinds c.args.worldview.now c.args.cell) ∙ c.requires.kind
