use Rattle.std.proofs.Common.{◌≤◌, length}
use Rattle.pw_procs.specs.Procedure.{procedures_of, names_of}
use Rattle.pw_procs.specs.Registering.{AreFreeBelow}
use Rattle.pw_procs.proofs.registry.first_fault.Given as goal

-- nothing is wrong so far
abbrev pub invariant-loop-place : goal.invariant-loop-place
invariant-loop-place g l = record {
  within : l.place ≤ length l.entries;
  free : AreFreeBelow (names_of (procedures_of l.entries)) l.place;
}
