use Rattle.std.proofs.Common.{◌+◌, map, sym, ap, ◌∙◌, arith}
use Rattle.pw_network.specs.declared.instance_lists.Link.{Link}
use Rattle.pw_network.proofs.WalkLemmas.{walk_on, walk_steps}
use Rattle.pw_network.proofs.instance_numbers.InstanceNumbersIterator.next.Goals as goal

abbrev no_link : Link
no_link = record { list = 0; number = 0; next = 0 }

pub invariant_of-self : goal.invariant_of-self
invariant_of-self c = walk_on c.self.inside.links.now c.self.inside.list c.self.inside.at no_link c.if-self.true c.self.invariant

pub returns-then-self-clause-steps : goal.returns-then-self-clause-steps
returns-then-self-clause-steps c =
    sym c.self.view_is ∙ ap (map (λ n. c.self.inside.first + n)) (walk_steps c.self.inside.links.now c.self.inside.list c.self.inside.at no_link c.if-self.true c.self.invariant)

pub returns-then-self-clause-goes : goal.returns-then-self-clause-goes
returns-then-self-clause-goes c = let steps = returns-then-self-clause-steps c in grind (arith, steps)
