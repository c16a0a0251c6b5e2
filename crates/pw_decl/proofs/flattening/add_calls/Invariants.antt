use Rattle.std.proofs.Common.{◌≡◌, ◌+◌, ◌++◌, map, take}
use Rattle.pw_decl.specs.Expansion.{at_place, renamed}
use Rattle.pw_decl.specs.inside.Held.{instances_of}
use Rattle.pw_decl.proofs.flattening.add_calls.Given as goal

-- the calls so far are added
abbrev pub invariant-loop-call : goal.invariant-loop-call
invariant-loop-call g l =
    instances_of l.added.items
    ≡ instances_of l.fn.added.items ++ map (renamed (at_place l.cells (λ j. l.first + j))) (instances_of (take l.call-index l.calls))
