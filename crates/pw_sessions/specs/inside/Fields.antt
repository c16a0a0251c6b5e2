-- What a workbench in the code is.
--
-- Contracts speak of the state of a workbench before and after a call, and never of its fields, so
-- that they do not depend on how a field holds what it holds: beliefs are a list here, one entry a
-- user, in the order of the users' numbers. When a snapshot was used last is no part of the state, and
-- neither is the place at which the snapshot of a user's beliefs was last. The network is seen as its
-- wiring: what is declared, and what was attached at which line. The store and the noted sets are
-- seen as they are, since their types have views of their own. What a workbench allocates for itself
-- is no part of its state, and neither is the allocator. `calls` counts what the last command called
-- for a settling.
use Rattle.pw_network.specs.Wiring.{wiring}
use Rattle.pw_sessions.specs.declared.workbench.Workbench.{Workbench as WorkbenchType}
use Rattle.pw_sessions.specs.Workbench.{Workbench}

-- its network, its store, the noted sets, the beliefs of its users, the snapshots, and the calls of
-- the last command
abbrev pub state : {A : _} {X : Type 0} {F : X → Type 0} {C : _} → WorkbenchType A X F C → Workbench
state workbench =
    record {
      network = wiring workbench.network;
      store = workbench.store;
      nogoods = workbench.nogoods;
      beliefs = workbench.beliefs.items;
      snapshots = workbench.snapshots.items;
      calls = workbench.calls;
    }
