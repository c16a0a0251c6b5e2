-- Soundness of a store: it keeps only what follows, and what it keeps rests on no premise that has
-- no say there.
use Rattle.std.specs.Prelude.{◌≡◌, ◌⊎◌, ℕ, Bool, true, All, Contains, List}
use Rattle.std.specs.FinSet.{contains}
use Rattle.pw_info.specs.Information.{Implies}
use Rattle.pw_premises.specs.Premises.{Premises}
use Rattle.pw_cells.specs.declared.arrival.Arrival.{Arrival}
use Rattle.pw_cells.specs.Cells.{Store, kept_at, kept_in, kinds_of}
use Rattle.pw_network.specs.Network.{Attached, Network}
use Rattle.pw_settle.specs.Settled.{support_at}
use Rattle.pw_settle.specs.Values.{kinds_in, value_in}

-- only what follows is kept: in every worldview the value of a cell says at least what is kept of
-- it there
abbrev pub IsSound : Network → Store → Type 0
IsSound network store = (w : Premises) (cell : ℕ) →
    Implies (value_in network store w cell) (kept_in store cell w)

-- the store has the cells of the network, with their kinds, and is sound
pub record IsSoundFor (network : Network) (store : Store) : Type 0 where
  pub kinds : kinds_of store ≡ kinds_in network
  pub sound : IsSound network store

-- a set of cells, as a test: with each cell that an instance writes, it has every cell that the
-- instance reads
abbrev pub IsUpstream : Network → (ℕ → Bool) → Type 0
IsUpstream network cells =
    All (λ (a : Attached). cells a.instance.output ≡ true →
    All (λ input. cells input ≡ true) a.instance.inputs) network.attached

-- the premise belongs to a fact that was told about one of these cells, or to an instance that
-- writes one of them. Only a history says which premises were given with which cell: a store merges
-- what it is told
abbrev pub IsGivenTo : Network → (ℕ → ℕ → Bool) → (ℕ → Bool) → ℕ → Type 0
IsGivenTo network given cells premise =
    ((cell : ℕ) × (cells cell ≡ true) × (given cell premise ≡ true))
    ⊎ ((a : Attached) × Contains network.attached a × (cells a.instance.output ≡ true)
    × (contains a.support premise ≡ true))

-- the premises lie upstream of the cell: each was given to each set of cells of this form that has
-- the cell
abbrev pub LiesUpstream : Network → (ℕ → ℕ → Bool) → ℕ → Premises → Type 0
LiesUpstream network given cell premises =
    (cells : ℕ → Bool) → IsUpstream network cells → cells cell ≡ true →
    (premise : ℕ) → contains premises premise ≡ true → IsGivenTo network given cells premise

-- each fact that is kept of a cell, or came to be kept lately, rests only on premises upstream of it
pub record RestsUpstream (network : Network) (given : ℕ → ℕ → Bool) (store : Store) : Type 0 where
  pub kept : (cell : ℕ) → All (λ fact. LiesUpstream network given cell fact.support)
      (kept_at store cell)
  pub lately : All (λ (a : Arrival). LiesUpstream network given a.cell a.fact.support)
      store.arrivals.list

-- the premises that are listed for each cell lie upstream of it
abbrev pub LieUpstream : Network → (ℕ → ℕ → Bool) → List Premises → Type 0
LieUpstream network given supports = (cell : ℕ) →
    LiesUpstream network given cell (support_at supports cell)
