-- Room in the lists of a network.
use Rattle.std.specs.Prelude.{ℕ, ◌+◌, ◌*◌, ◌≤◌, vec_capacity, vec_len}
use Rattle.pw_network.specs.declared.instance_lists.InstanceLists.{InstanceLists}
use Rattle.pw_network.specs.inside.Lists.{no_place}

-- there is room for the links of this many more instances: each reads eight cells at most, and writes one
pub record HaveRoomFor {A : Type 0} (count : ℕ) (readers writers : InstanceLists A) : Type 0 where
  pub to_read : vec_len readers.links + 8 * count ≤ vec_capacity readers.links
  pub places_read : vec_len readers.links + 8 * count ≤ no_place
  pub to_write : vec_len writers.links + count ≤ vec_capacity writers.links
  pub places_written : vec_len writers.links + count ≤ no_place
