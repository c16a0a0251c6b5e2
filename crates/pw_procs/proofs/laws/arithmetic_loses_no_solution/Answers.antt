use Rattle.std.proofs.Common.{◌+ℤ◌, ◌-ℤ◌, ◌*ℤ◌}
use Rattle.pw_procs.specs.Values.{input}
use Rattle.pw_procs.proofs.HullLaws.{one_holds, two_holds}
use Rattle.pw_procs.proofs.MeaningLaws.{quotient_holds}
use Rattle.pw_procs.proofs.laws.arithmetic_loses_no_solution.Goals as goal

pub returns : goal.returns
returns c = record {
  adder = λ output xs a b. two_holds (λ a b. a +ℤ b) (input xs 0) (input xs 1) a b;
  subtractor = λ output xs a b. two_holds (λ a b. a -ℤ b) (input xs 0) (input xs 1) a b;
  multiplier = λ output xs a b. two_holds (λ a b. a *ℤ b) (input xs 0) (input xs 1) a b;
  squarer = λ output xs a. one_holds (λ a. a *ℤ a) (input xs 0) a;
  divider = λ output xs a b q. quotient_holds (input xs 0) (input xs 1) q a b;
}
