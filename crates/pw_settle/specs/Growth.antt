-- How a store and a network grow, and what it is for the values of an earlier settling to fit what
-- is there now.
use Rattle.std.specs.Prelude.{◌≡◌, ℕ, ◌<◌, ◌≤◌, true, false, length, slice_index_or, Bool, List, ◌++◌}
use Rattle.pw_info.specs.Information.{kind_of, nothing, Implies}
use Rattle.pw_info.specs.declared.info.Info.{Info}
use Rattle.std.specs.FinSet.{is_subset}
use Rattle.pw_facts.specs.Facts.{IsLeastAbove}
use Rattle.pw_cells.specs.Arrivals.{Continues, IsAccounted}
use Rattle.pw_cells.specs.Cells.{Store, kept_in, kinds_of, told_in}
use Rattle.pw_network.specs.Network.{Attached, Network, cells_in}
use Rattle.pw_settle.specs.Calls.{is_instance_visible, visible_at}
use Rattle.pw_settle.specs.Values.{IsSatisfied, attached_no, kinds_in, numbered, value_in}
use Rattle.pw_settle.specs.Settled.{Settled, info_at, support_at, IsSettled}
use Rattle.pw_premises.specs.Premises.{Premises}
use Rattle.pw_settle.specs.Sound.{IsSound, LieUpstream, RestsUpstream}
use Rattle.pw_info.specs.declared.kind.Kind.{Kind}

-- what the settled values say about a cell; nothing about a cell that did not exist then
abbrev pub said_of : Network → Settled → ℕ → Info
said_of network settled cell = slice_index_or settled.infos cell
    (nothing ((numbered (kinds_in network)).kind cell))

-- the settled values fit: cells and instances were at most added; for each of their cells, what is
-- kept in their worldview says at least as much; and they satisfy each instance that existed then
-- and is visible in it
pub record IsFitting (network : Network) (store : Store) (settled : Settled) : Type 0 where
  pub instances : settled.instances ≤ length network.attached
  pub cells : length settled.infos ≤ cells_in network
  pub kinds : (cell : ℕ) → cell < length settled.infos → kind_of (info_at settled.infos cell)
      ≡ (numbered (kinds_in network)).kind cell
  pub kept : (cell : ℕ) → cell < length settled.infos →
      Implies (kept_in store cell settled.worldview) (info_at settled.infos cell)
  pub satisfied : (number : ℕ) (d : Attached) → number < settled.instances →
      is_instance_visible settled.worldview (attached_no network number d) ≡ true →
      IsSatisfied network (said_of network settled) (attached_no network number d)

-- a settling in the same worldview can continue from the settled values: each rests on premises of
-- the worldview under which as much is kept; and together with what came since their mark, they say
-- what is kept there
pub record CanContinue (store : Store) (settled : Settled) : Type 0 where
  pub as_many : length settled.supports ≡ length settled.infos
  pub within : (cell : ℕ) → is_subset (support_at settled.supports cell) settled.worldview ≡ true
  pub enough : (cell : ℕ) → cell < length settled.infos →
      IsLeastAbove (support_at settled.supports cell) (kept_in store cell)
      (info_at settled.infos cell)
  pub accounted : IsAccounted store settled.mark settled.worldview (length settled.infos)
      (info_at settled.infos)

-- nothing is new to the settled values: they say what is kept in their worldview, and no instance came
-- since that is visible there
pub record IsUpToDate (network : Network) (store : Store) (settled : Settled) : Type 0 where
  pub said : (cell : ℕ) → kept_in store cell settled.worldview ≡ said_of network settled cell
  pub none_newer : (number : ℕ) → settled.instances ≤ number →
      visible_at network settled.worldview number ≡ false

-- a settling that continued from earlier values was refused: they still fit, and a settling can still
-- continue from them. If nothing was new to them, they are unchanged
pub record IsInterrupted (network : Network) (old new : Store) (before values : Settled) : Type 0
  where
    pub worldview : values.worldview ≡ before.worldview
    pub cells : length before.infos ≤ length values.infos
    pub fits : IsFitting network new values
    pub continues : CanContinue new values
    pub unchanged : IsUpToDate network old before → values ≡ before

-- these premises of the cells lie upstream, if what was kept rested only on premises upstream
abbrev pub RestOnUpstream : Network → Store → List Premises → Type 0
RestOnUpstream network old supports =
    (given : ℕ → ℕ → Bool) → RestsUpstream network given old → LieUpstream network given supports

-- the cells are those that existed, and were told what they were told; no less is kept of any cell,
-- in any worldview, and if the store was sound, it still is
pub record KeepsMore (network : Network) (old new : Store) : Type 0 where
  pub kinds : kinds_of new ≡ kinds_of old
  pub told : (cell : ℕ) (w : Premises) → told_in new cell w ≡ told_in old cell w
  pub more : (cell : ℕ) (w : Premises) → Implies (kept_in new cell w) (kept_in old cell w)
  pub sound : IsSound network old → IsSound network new
  -- what accounted for what was kept still does, with what came since
  pub continues : Continues old new

-- if what was kept rested only on premises upstream, so does what is kept now
abbrev pub StaysUpstream : Network → Store → Store → Type 0
StaysUpstream network old new =
    (given : ℕ → ℕ → Bool) → RestsUpstream network given old → RestsUpstream network given new

-- what is kept now rests only on premises upstream, if what was kept did, and the earlier premises of
-- the cells lay upstream
abbrev pub StaysUpstreamAfter : Network → List Premises → Store → Store → Type 0
StaysUpstreamAfter network before old new =
    (given : ℕ → ℕ → Bool) → RestsUpstream network given old → LieUpstream network given before →
    RestsUpstream network given new

-- and these premises lie upstream
abbrev pub RestOnUpstreamAfter : Network → List Premises → Store → List Premises → Type 0
RestOnUpstreamAfter network before old supports =
    (given : ℕ → ℕ → Bool) → RestsUpstream network given old → LieUpstream network given before →
    LieUpstream network given supports

-- one network has all cells and instances that the other has, by the same numbers, and perhaps
-- more, as after attachments
pub record IsWider (network wider : Network) : Type 0 where
  pub declared : wider.declared ≡ network.declared
  pub own : List Kind
  pub kinds_are : kinds_in wider ≡ kinds_in network ++ own
  pub more : List Attached
  pub attached_are : wider.attached ≡ network.attached ++ more

-- where the store is sound, these are the values in the worldview
abbrev pub IsSettledIfSound : Network → Store → Premises → Settled → Type 0
IsSettledIfSound network store w settled = IsSound network store → IsSettled network store w settled

-- where the store was sound, what is kept of each cell in the worldview is its value there
abbrev pub KeepsIfSound : Network → Store → Store → Premises → Type 0
KeepsIfSound network old new w =
    IsSound network old → (cell : ℕ) → kept_in new cell w ≡ value_in network old w cell

-- what a settling in a worldview answers: the values there, if the store was sound, one for each
-- cell. They were found with all instances that there are, and a later settling may go on from them
pub record HasValues (network : Network) (old new : Store) (w : Premises) (values : Settled)
    : Type 0 where
  pub settled : IsSettledIfSound network old w values
  pub cells : length values.infos ≡ cells_in network
  pub fits : IsFitting network new values
  pub continues : CanContinue new values
  pub worldview : values.worldview ≡ w
  pub instances : values.instances ≡ length network.attached
