use Rattle.std.proofs.Common.{◌≡◌, ◌+◌, ◌≤◌, map, take, vec_len, vec_capacity}
use Rattle.pw_network.specs.inside.Lists.{AddsNumber, listed_by}
use Rattle.pw_network.proofs.instance_lists.InstanceLists.append.Given as goal

abbrev pub invariant-loop-place : goal.invariant-loop-place
invariant-loop-place g l = record {
  added : AddsNumber l.base l.count (take l.place l.cells) l.number (map listed_by l.fn.self.links.items) (map listed_by l.self.links.items);
  lists : vec_len l.self.ends ≡ vec_len l.fn.self.ends;
  links : vec_len l.self.links ≤ vec_len l.fn.self.links + l.place;
  room : vec_capacity l.fn.self.links ≤ vec_capacity l.self.links;
}
