use Rattle.std.proofs.Common.{◌≡◌, [], ◌∷◌}
use Rattle.pw_info.specs.declared.kind.Kind.TheVariants as kinds
use Rattle.pw_cells.specs.Cells.{kinds_of}
use Rattle.pw_test_parts.proofs.store.marks.tell_often.Given as goal

abbrev pub invariant-loop : goal.invariant-loop
invariant-loop l = kinds_of l.store ≡ kinds.Interval ∷ kinds.Exact ∷ []
