use Rattle.std.proofs.Common.{rules}
use Rattle.pw_info.specs.Information.{IsContradiction}
use Rattle.pw_network.specs.Network.{Network}
use Rattle.pw_network.specs.Wiring.{wiring}
use Rattle.pw_cells.specs.Cells.{Store}
use Rattle.pw_settle.specs.Values.{value_in}
use Rattle.pw_reasons.proofs.NogoodLemmas.{still_contradictory}
use Rattle.pw_reasons.proofs.trying.clashes_at.Goals as goal

pub returns-then-clashes-clause-some : goal.returns-then-clashes-clause-some
returns-then-clashes-clause-some g c = λ is.
    let network : Network = wiring c.args.network.now in
    let store : Store = c.args.store.now in
    let contradictory : IsContradiction c.value_aside-fact.result.info = search rules in
    record {
      part = c.value_aside-fact.ensures.within;
      contradicts = record {
        cell = c.args.cell;
        here = c.requires.cell;
        contradictory = still_contradictory (value_in network store c.value_aside-fact.result.support c.args.cell) c.value_aside-fact.result.info
            c.value_aside-fact.ensures.follows contradictory;
      };
    }
