use Rattle.pw_procs.proofs.MeaningLaws.{value_mono}
use Rattle.pw_procs.proofs.laws.meanings_are_monotone.Goals as goal

pub returns : goal.returns
returns c = λ output meaning ys xs same implied. value_mono output ys xs same implied meaning
