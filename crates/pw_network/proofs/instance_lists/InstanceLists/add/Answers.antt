use Rattle.std.proofs.Common.{◌+◌, refl, arith}
use Rattle.pw_network.specs.declared.instance_lists.Ends.{Ends}
use Rattle.pw_network.specs.inside.Lists.{no_place}
use Rattle.pw_network.proofs.LinkLemmas.{linked_resized}
use Rattle.pw_network.proofs.instance_lists.InstanceLists.add.Goals as goal

pub invariant_of-self : goal.invariant_of-self
invariant_of-self g c =
    let none : Ends = record { first = no_place; last = no_place } in
    let ends = c.args.self.now.ends in
    let links = c.args.self.now.links in
    let done = c.resize.ensures.succeeds (omega (arith, c.requires.room, c.len.ensures)) in
    record {
      few = c.args.self.now.few;
      few_lists = let all = rw done at c.resize.ensures.len in omega (arith, all, c.len.ensures, c.requires.few);
      linked = linked_resized links.items ends.items c.resize.new.self.items none ends.len (c.len.result + c.args.count) c.args.count
          (omega (arith, links.ok.0, c.args.self.now.few)) refl refl ends.ok.0 (omega (arith, c.len.ensures))
          (rw done at c.resize.ensures.items) c.args.self.now.linked;
    }
