use Rattle.std.proofs.Common.{◌∙◌}
use Rattle.pw_network.specs.Wiring.{wiring}
use Rattle.pw_settle.proofs.FittingLaws.{fits_more}
use Rattle.pw_settle.proofs.SoundStores.{more_kept, sound_told}
use Rattle.pw_test_networks.proofs.settling.tell_once.Goals as goal

pub returns : goal.returns
returns g c = record {
  sound = record {
    kinds = c.in_ok-tell.ensures.kinds ∙ c.requires.sound.kinds;
    sound = sound_told (wiring c.args.network.now) c.args.network.now.well c.args.store.now c.tell.new.self c.args.cell c.args.fact
        c.requires.sound.kinds c.requires.kind c.in_ok-tell.ensures.told c.in_ok-tell.ensures.kept c.in_ok-tell.ensures.others
        c.in_ok-tell.ensures.kinds c.requires.sound.sound;
  };
  fits = λ settled. fits_more (wiring c.args.network.now) c.args.store.now c.tell.new.self settled
      (more_kept (wiring c.args.network.now) c.args.store.now c.tell.new.self c.requires.sound.kinds c.args.cell c.args.fact c.requires.kind
      c.in_ok-tell.ensures.kept c.in_ok-tell.ensures.others);
}
