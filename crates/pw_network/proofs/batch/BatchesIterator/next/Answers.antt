use Rattle.std.proofs.Common.{◌≡◌, ℕ, ◌+◌, ◌<◌, List, ◌∷◌, length, subst}
use Rattle.std.proofs.lemmas.List.Elements.{All-tail}
use Rattle.pw_network.specs.declared.batch.Calls.{Calls}
use Rattle.pw_network.specs.inside.Batches.{AreThere, least_calls}
use Rattle.pw_network.proofs.batch.BatchesIterator.next.Goals as goal

rest_there : (calls : List Calls) (number : ℕ) (left rest : List ℕ) → left ≡ number ∷ rest → AreThere calls left → AreThere calls rest
rest_there calls number left rest steps there =
    All-tail (λ n. n < least_calls + length calls) number rest (subst (AreThere calls) steps there)

pub invariant_of-self-then-number : goal.invariant_of-self-then-number
invariant_of-self-then-number g c =
    rest_there c.self.inside.calls.now c.in_ok-number.number c.self.inside.numbers c.next.new.self c.in_ok-number.ensures.steps c.self.invariant

pub invariant_of-self-2 : goal.invariant_of-self-2
invariant_of-self-2 g c =
    rest_there c.self.inside.calls.now c.in_ok-number.number c.self.inside.numbers c.next.new.self c.in_ok-number.ensures.steps c.self.invariant
