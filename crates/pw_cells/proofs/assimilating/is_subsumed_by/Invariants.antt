use Rattle.std.proofs.Common.{take}
use Rattle.std.specs.Prelude.{All}
use Rattle.pw_facts.specs.Facts.{Subsumes}
use Rattle.pw_cells.proofs.assimilating.is_subsumed_by.Given as goal

abbrev pub invariant-loop-held : goal.invariant-loop-held
invariant-loop-held g l = All (λ f. Subsumes f l.fact → ⊥) (take l.held-index l.facts)
