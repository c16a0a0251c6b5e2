use Rattle.std.proofs.Common.{◌≡◌, ◌+◌, ◌≤◌, ◌++◌, ◌∷◌, [], ◌∙◌, length, sym, rules, arith}
use Rattle.pw_network.specs.inside.Lists.{no_place}
use Rattle.pw_network.proofs.LinkLemmas.{linked_after}
use Rattle.pw_network.proofs.instance_lists.InstanceLists.link.Goals as goal

pub invariant_of-self : goal.invariant_of-self
invariant_of-self g c =
    let pushed : c.push_reserved.new.self.items ≡ c.lead.new.links.items ++ record { list = c.args.list; number = c.args.number; next = no_place } ∷ [] = search rules in
    let few : c.len-at.result + 1 ≤ no_place = omega (arith, c.len-at.ensures, c.requires.few) in
    let many : length c.args.self.now.ends.items ≡ c.args.self.now.ends.len = sym c.args.self.now.ends.ok.0 in
    record {
      few = omega (arith, c.push_reserved.ensures.len, c.lead.ensures.len, c.requires.few);
      few_lists = omega (arith, c.args.self.now.few_lists);
      linked = linked_after c.args.self.now.links.items c.lead.new.links.items c.push_reserved.new.self.items c.args.self.now.ends.items c.index-ends.result.now
          (record { list = c.args.list; number = c.args.number }) c.len-at.result c.min.result few
          (sym c.args.self.now.links.ok.0 ∙ sym c.len-at.ensures) (omega (arith, c.requires.here)) c.index-ends.ensures
          c.lead.ensures.listed c.lead.ensures.nexts pushed c.min.ensures c.args.self.now.linked;
    }
