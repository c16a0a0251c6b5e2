use Rattle.std.proofs.Common.{◌≡◌, ◌+◌, ◌-◌, ◌*◌, ◌≤◌, map, take, vec_len, vec_capacity}
use Rattle.pw_network.specs.inside.Batches.{AddsInstances}
use Rattle.pw_network.specs.inside.Lists.{LeavesFrom, listed_by}
use Rattle.pw_network.specs.Readers.{reads}
use Rattle.pw_network.specs.Writers.{writes}
use Rattle.pw_network.proofs.attaching.list_instances.Given as goal

abbrev pub invariant-loop-number : goal.invariant-loop-number
invariant-loop-number g l = record {
  readers : AddsInstances reads (vec_len l.fn.writers.ends) (take l.number l.instances) l.fn.first (map listed_by l.fn.readers.links.items) (map listed_by l.readers.links.items);
  writers : AddsInstances writes (vec_len l.fn.writers.ends) (take l.number l.instances) l.fn.first (map listed_by l.fn.writers.links.items) (map listed_by l.writers.links.items);
  kept : LeavesFrom (vec_len l.fn.writers.ends) (vec_len l.fn.readers.ends) (map listed_by l.fn.readers.links.items) (map listed_by l.readers.links.items);
  lists : vec_len l.readers.ends ≡ vec_len l.fn.readers.ends;
  writer_lists : vec_len l.writers.ends ≡ vec_len l.fn.writers.ends;
  reader_links : vec_len l.readers.links ≤ vec_len l.fn.readers.links + 8 * (l.number - l.fn.first);
  reader_room : vec_capacity l.fn.readers.links ≤ vec_capacity l.readers.links;
  writer_links : vec_len l.writers.links ≤ vec_len l.fn.writers.links + (l.number - l.fn.first);
  writer_room : vec_capacity l.fn.writers.links ≤ vec_capacity l.writers.links;
}
