use Rattle.std.proofs.Common.{◌≡◌, ◌+◌, ◌≤◌, drop, length, map, take, vec_len, vec_capacity}
use Rattle.std.specs.Prelude.{All}
use Rattle.pw_decl.specs.Expansion.{at_place, renamed}
use Rattle.pw_network.specs.inside.Held.{attachment}
use Rattle.pw_decl.specs.inside.Held.{instances_of}
use Rattle.pw_network.specs.Network.{attached_at}
use Rattle.pw_network.proofs.attaching.push_calls.Given as goal

abbrev pub invariant-loop-call : goal.invariant-loop-call
invariant-loop-call g l = record {
  first : take (length l.fn.instances.items) l.instances.items ≡ l.fn.instances.items;
  made : map attachment (drop (length l.fn.instances.items) l.instances.items)
      ≡ map (attached_at l.attached.value.line l.attached.value.support) (map (renamed (at_place l.cells (λ j. l.first + j))) (instances_of (take l.call-index l.calls)));
  len : vec_len l.instances ≡ vec_len l.fn.instances + l.call-index;
  room : vec_capacity l.fn.instances ≤ vec_capacity l.instances;
  few : All (λ instance. length (attachment instance).instance.inputs ≤ 8) (drop (length l.fn.instances.items) l.instances.items);
}
