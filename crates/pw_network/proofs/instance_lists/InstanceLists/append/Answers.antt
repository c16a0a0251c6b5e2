use Rattle.std.proofs.Common.{map, get_or, refl, sym, ◌∙◌, arith}
use Rattle.pw_network.specs.inside.Lists.{listed_by}
use Rattle.pw_network.proofs.AppendedLemmas.{appended_now}
use Rattle.pw_network.proofs.instance_lists.InstanceLists.append.Goals as goal

pub loop-place-preserved : goal.loop-place-preserved
loop-place-preserved g c =
    let cells = c.args.cells.now in
    let place = c.loop-place.place in
    record {
      added = appended_now c.args.base c.args.count c.args.number cells place (get_or cells place 0) c.loop-place-test.true refl
          (map listed_by c.args.self.now.links.items) (map listed_by c.loop-place.self.links.items) c.loop-place.invariant.added
          (map listed_by c.link.new.self.links.items) (omega (arith, c.if-cell-count.false)) (sym c.has.ensures ∙ c.if-has.false) c.link.ensures.listed;
      lists = omega (arith, c.loop-place.invariant.lists, c.link.ensures.lists);
      links = omega (arith, c.loop-place.invariant.links, c.link.ensures.links);
      room = omega (arith, c.loop-place.invariant.room, c.link.ensures.room);
    }
