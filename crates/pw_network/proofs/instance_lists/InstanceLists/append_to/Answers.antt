use Rattle.std.proofs.Common.{map}
use Rattle.pw_network.specs.inside.Lists.{listed_by}
use Rattle.pw_network.proofs.AppendedLemmas.{added_one}
use Rattle.pw_network.proofs.instance_lists.InstanceLists.append_to.Goals as goal

pub returns-then-list-len-clause-added : goal.returns-then-list-len-clause-added
returns-then-list-len-clause-added g c =
    added_one c.args.self.now.ends.len c.args.list c.args.number (map listed_by c.args.self.now.links.items) (map listed_by c.link.new.self.links.items) c.link.ensures.listed
