use Rattle.pw_info.proofs.Informations.{Implies-antisym, meet_implied, implied_from_meet, implies_nothing}
use Rattle.pw_info.proofs.laws.implication_is_an_order.Goals as goal

pub returns : goal.returns
returns c = record {
  reflexive = λ a v e. e;
  transitive = λ a b d p q v e. q v (p v e);
  antisymmetric = Implies-antisym;
  merge = λ a b k. (meet_implied a b k, implied_from_meet a b k);
  nothing = implies_nothing;
}
