use Rattle.std.proofs.Common.{◌≡◌, ◌+◌, ◌≤◌, ◌++◌, length, take, vec_len, vec_capacity}
use Rattle.pw_network.specs.inside.CompoundLists.{inner_made}
use Rattle.pw_network.proofs.attaching.append_inner.Given as goal

abbrev pub invariant-loop-number : goal.invariant-loop-number
invariant-loop-number g l = record {
  items : l.inner.items ≡ l.fn.inner.items ++ inner_made l.line l.first l.list 0 (take l.number l.kinds);
  room : vec_len l.inner + length l.kinds ≤ vec_capacity l.inner + l.number;
}
