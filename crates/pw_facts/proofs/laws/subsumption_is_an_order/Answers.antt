use Rattle.pw_facts.proofs.Shown.{subsumes_refl, subsumes_trans, subsumes_antisym}
use Rattle.pw_facts.proofs.laws.subsumption_is_an_order.Goals as goal

pub returns : goal.returns
returns c = record { reflexive = subsumes_refl; transitive = subsumes_trans; antisymmetric = subsumes_antisym }
