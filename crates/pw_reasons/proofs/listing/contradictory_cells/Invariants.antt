use Rattle.std.proofs.Common.{◌≡◌, filter}
use Rattle.std.specs.List.{range_with_len}
use Rattle.pw_reasons.specs.SameInfo.{is_contradiction}
use Rattle.pw_settle.specs.Settled.{info_at}
use Rattle.pw_reasons.proofs.listing.contradictory_cells.Given as goal

abbrev pub invariant-loop-cell : goal.invariant-loop-cell
invariant-loop-cell g l =
    l.cells.items ≡ filter (λ cell. is_contradiction (info_at l.settled.infos cell)) (range_with_len 0 l.cell)
