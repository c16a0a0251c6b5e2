-- What snapshots say rests only on premises upstream: as more is given and attached, and as they note
-- something.
use Rattle.std.proofs.Common.{◌≡◌, ℕ, ◌<◌, Bool, true, List, All, length, get_or, map, sym, subst, arith}
use Rattle.std.proofs.lemmas.List.Elements.{All-map, All-weaker}
use Rattle.pw_premises.specs.Premises.{Premises}
use Rattle.pw_facts.specs.declared.fact.Fact.{Fact}
use Rattle.pw_cells.specs.Cells.{Store}
use Rattle.pw_network.specs.Network.{Network}
use Rattle.pw_settle.specs.Growth.{IsWider}
use Rattle.pw_settle.specs.Settled.{Settled, support_at}
use Rattle.pw_settle.specs.Sound.{LieUpstream, RestsUpstream}
use Rattle.pw_settle.proofs.SoundStores.{lie_still}
use Rattle.pw_settle.proofs.WiderNetworks.{wide_self}
use Rattle.pw_sessions.specs.Snapshot.{AllRestUpstream, EachBecomes, IsAfterTell, Snapshot, after_entry}

-- the premises of the values of a snapshot lie upstream
abbrev pub Rests : Network → (ℕ → ℕ → Bool) → Snapshot → Type 0
Rests network given snapshot = LieUpstream network given snapshot.values.supports

module _ (network wider : Network) (wide : IsWider network wider) (given more : ℕ → ℕ → Bool) (all : (c p : ℕ) → given c p ≡ true → more c p ≡ true) where
  -- what a snapshot says rests upstream if more is attached and more was given
  rests_still : (snapshot : Snapshot) → Rests network given snapshot → Rests wider more snapshot
  rests_still snapshot rests cell = lie_still network wider wide given more all cell (support_at snapshot.values.supports cell) (rests cell)

  -- after something was attached
  pub snapshots_rest_attached : (support : Premises) (snapshots : List Snapshot) → All (Rests network given) snapshots →
      All (Rests wider more) (map (after_entry support) snapshots)
  snapshots_rest_attached support snapshots rest =
      All-map (Rests wider more) (after_entry support) snapshots (All-weaker (Rests network given) (Rests wider more) rests_still snapshots rest)

-- after a fact was told
pub snapshots_rest_told : (network : Network) (given more : ℕ → ℕ → Bool) → ((c p : ℕ) → given c p ≡ true → more c p ≡ true) → (cell : ℕ) (fact : Fact)
    (snapshots after : List Snapshot) → EachBecomes (IsAfterTell cell fact) snapshots after → All (Rests network given) snapshots → All (Rests network more) after
snapshots_rest_told network given more all cell fact snapshots after became rest place d there =
    let was : place < length snapshots = omega (arith, there, became.many) in
    subst (λ (values : Settled). LieUpstream network more values.supports) (sym (became.each place d was).values)
    (rests_still network network (wide_self network) given more all (get_or snapshots place d) (rest place d was))

-- if what is kept changes, and the snapshots stay
pub rest_with : (network : Network) (given : ℕ → ℕ → Bool) (old new : Store) (snapshots : List Snapshot) → RestsUpstream network given new →
    AllRestUpstream network given old snapshots → AllRestUpstream network given new snapshots
rest_with network given old new snapshots kept rest = record { kept = kept; snapshots = rest.snapshots }
