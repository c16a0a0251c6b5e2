use Rattle.pw_procs.proofs.KindLaws.{value_kind}
use Rattle.pw_procs.proofs.laws.values_have_the_output_kind.Goals as goal

pub returns : goal.returns
returns c = λ output meaning slots are xs fit. value_kind output meaning slots xs are fit
