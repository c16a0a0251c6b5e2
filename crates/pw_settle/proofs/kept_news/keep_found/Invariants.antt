use Rattle.pw_network.specs.Wiring.{wiring}
use Rattle.pw_settle.proofs.KeptFound.{AreKeptTo}
use Rattle.pw_settle.proofs.kept_news.keep_found.Given as goal

abbrev pub invariant-loop-cell : goal.invariant-loop-cell
invariant-loop-cell g l = record {
  kept : AreKeptTo (wiring l.network) l.fn.store l.worldview l.found.infos.items l.found.supports l.cell l.store;
}
