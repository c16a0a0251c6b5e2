use Rattle.std.proofs.Common.{◌≡◌, ◌+◌, ◌≤◌, ◌++◌, map, take, vec_len, vec_capacity}
use Rattle.pw_network.specs.inside.Batches.{AddsCalls, calls_from, least_calls}
use Rattle.pw_network.specs.inside.Lists.{listed_by}
use Rattle.pw_network.proofs.attaching.list_calls.Given as goal

abbrev pub invariant-loop-place : goal.invariant-loop-place
invariant-loop-place g l = record {
  calls : l.calls.items ≡ l.fn.calls.items ++ calls_from l.first l.list l.place;
  len : vec_len l.calls ≡ vec_len l.fn.calls + l.place;
  capacity : vec_capacity l.calls ≡ vec_capacity l.fn.calls;
  added : AddsCalls (vec_len l.fn.lists.ends) (least_calls + vec_len l.fn.calls) (take l.place l.cells) (map listed_by l.fn.lists.links.items) (map listed_by l.lists.links.items);
  lists : vec_len l.lists.ends ≡ vec_len l.fn.lists.ends;
  links : vec_len l.lists.links ≤ vec_len l.fn.lists.links + l.place;
  room : vec_capacity l.fn.lists.links ≤ vec_capacity l.lists.links;
}
