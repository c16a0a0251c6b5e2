use Rattle.std.proofs.Common.{◌≡◌, take}
use Rattle.std.specs.List.{fold}
use Rattle.pw_info.specs.Information.{meet}
use Rattle.pw_facts.specs.Facts.{shows}
use Rattle.pw_cells.proofs.told_facts.narrowed.Given as goal

abbrev pub invariant-loop-held : goal.invariant-loop-held
invariant-loop-held g l = l.merge ≡ fold (λ merge fact. meet merge (shows l.worldview fact)) l.fn.info (take l.held-index l.facts)
