use Rattle.std.proofs.Common.{◌<◌, length, map, arith}
use Rattle.std.proofs.lemmas.List.{length-map}
use Rattle.pw_network.specs.inside.Lists.{next_of, no_place, listed_by}
use Rattle.pw_network.proofs.WalkLemmas.{first_all, first_walk, past_all}
use Rattle.pw_network.proofs.instance_lists.InstanceLists.first.Goals as goal

pub returns-then-list-len-clause-all : goal.returns-then-list-len-clause-all
returns-then-list-len-clause-all g c =
    let links = c.args.self.now.links.items in
    past_all (map listed_by links) (map next_of links) c.args.self.now.ends.items c.args.self.now.linked c.args.list no_place
    (omega (arith, length-map links listed_by, c.args.self.now.links.ok.0, c.args.self.now.few))
    (omega (arith, c.if-list-len.true, c.len.ensures, c.args.self.now.ends.ok.0))

pub returns : goal.returns
returns g c =
    let links = c.args.self.now.links.items in
    let ends = c.args.self.now.ends.items in
    let e = c.index.result.now in
    let there : c.args.list < length ends = omega (arith, c.if-list-len.false, c.len.ensures, c.args.self.now.ends.ok.0) in
    let linked = c.args.self.now.linked in
    record {
      walk = first_walk (map listed_by links) (map next_of links) ends linked c.args.list e there c.index.ensures;
      all = first_all (map listed_by links) (map next_of links) ends linked c.args.list e there c.index.ensures;
    }
