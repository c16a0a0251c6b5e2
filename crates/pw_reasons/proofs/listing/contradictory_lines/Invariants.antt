use Rattle.pw_network.specs.Wiring.{wiring}
use Rattle.pw_settle.specs.Settled.{info_at}
use Rattle.pw_reasons.proofs.ConflictLemmas.{AreLinesBelow}
use Rattle.pw_reasons.proofs.listing.contradictory_lines.Given as goal

abbrev pub invariant-loop-cell : goal.invariant-loop-cell
invariant-loop-cell g l = AreLinesBelow (wiring l.network) (info_at l.settled.infos) l.cell l.lines.items
