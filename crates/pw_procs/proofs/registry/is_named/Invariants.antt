use Rattle.std.proofs.Common.{take}
use Rattle.std.specs.Prelude.{Contains}
use Rattle.pw_procs.specs.Procedure.{procedures_of, names_of}
use Rattle.pw_procs.proofs.registry.is_named.Given as goal

-- no procedure so far has the name
abbrev pub invariant-loop-entry : goal.invariant-loop-entry
invariant-loop-entry g l = Contains (names_of (take l.entry-index (procedures_of l.entries))) l.name → ⊥
