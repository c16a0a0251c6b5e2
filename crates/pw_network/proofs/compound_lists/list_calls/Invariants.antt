use Rattle.std.proofs.Common.{◌≡◌, ◌+◌, ◌*◌, ◌≤◌, length, map, take, vec_len, vec_capacity}
use Rattle.pw_network.specs.inside.CompoundLists.{ListsCalls, attached_calls}
use Rattle.pw_network.specs.inside.Lists.{LeavesBelow, listed_by, no_place}
use Rattle.pw_network.specs.Readers.{reads}
use Rattle.pw_network.specs.Writers.{writes}
use Rattle.pw_network.proofs.compound_lists.list_calls.Given as goal

abbrev pub invariant-loop-number : goal.invariant-loop-number
invariant-loop-number g l = record {
  kept : LeavesBelow (vec_len l.fn.lists.ends) (map listed_by l.fn.lists.links.items) (map listed_by l.lists.links.items);
  read : ListsCalls reads (map listed_by l.lists.links.items) l.first l.places (take l.number l.calls);
  written : ListsCalls writes (map listed_by l.lists.links.items) (l.first + l.places) l.places (take l.number l.calls);
  count : length (attached_calls (take l.number l.calls)) ≡ l.number;
  first : l.first ≡ vec_len l.fn.lists.ends;
  lists : vec_len l.lists.ends ≡ l.first + 2 * l.places;
  few : vec_len l.fn.lists.links + 9 * length l.calls ≤ no_place;
  links : vec_len l.lists.links ≤ vec_len l.fn.lists.links + 9 * l.number;
  room : vec_len l.fn.lists.links + 9 * length l.calls ≤ vec_capacity l.lists.links;
}
