use Rattle.std.proofs.Common.{◌≡◌, take}
use Rattle.pw_procs.specs.Procedure.{procedures_of, names_of}
use Rattle.pw_procs.proofs.registry.names_of.Given as goal

-- the names so far
abbrev pub invariant-loop-entry : goal.invariant-loop-entry
invariant-loop-entry g l = l.names ≡ names_of (take l.entry-index (procedures_of l.entries))
