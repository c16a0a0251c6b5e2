use Rattle.std.proofs.Common.{sym, ◌∙◌}
use Rattle.pw_premises.specs.PremiseSubsets.{is_subset_refl}
use Rattle.pw_network.specs.Wiring.{wiring}
use Rattle.pw_settle.proofs.KeptFacts.{kind_there}
use Rattle.pw_settle.proofs.settling_aside.value_aside.Goals as goal

pub returns-clause-kind : goal.returns-clause-kind
returns-clause-kind g c =
    c.start_value.ensures.found.kind ∙ sym (kind_there (wiring c.args.network.now) c.args.store.now c.requires.sound.kinds c.args.cell)

pub returns-clause-within : goal.returns-clause-within
returns-clause-within g c = c.start_value.ensures.found.within

pub returns-clause-follows : goal.returns-clause-follows
returns-clause-follows g c = c.start_value.ensures.found.follows c.requires.sound.sound c.start_value.result.support (is_subset_refl c.start_value.result.support)
