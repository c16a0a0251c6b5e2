use Rattle.pw_settle.proofs.SettledValues.{all_placed, are_over}
use Rattle.pw_settle.proofs.laws.networks_meet_the_laws.Goals as goal

pub returns : goal.returns
returns g = λ network store w well same. are_over network store w same (all_placed network well)
