use Rattle.pw_procs.specs.Values.{input}
use Rattle.pw_procs.proofs.MeaningLaws.{value_none, switched_none}
use Rattle.pw_procs.proofs.laws.contradictory_inputs_give_contradictions.Goals as goal

pub returns : goal.returns
returns c = record {
  value = λ output meaning slots other are xs fit. value_none output meaning slots xs other are fit;
  switch = λ output xs none. switched_none (input xs 0) (input xs 1) none;
}
