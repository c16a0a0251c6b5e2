use Rattle.pw_facts.proofs.Merges as merges
use Rattle.pw_facts.proofs.laws.one_merge.Goals as goal

pub returns : goal.returns
returns c = λ a b m n _. merges.one_merge a b m n
