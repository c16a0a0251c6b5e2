-- What is known about each cell in a worldview while its value is found beside the store, which
-- keeps nothing of it.
use Rattle.std.specs.Prelude.{◌≡◌, ℕ, ◌<◌, ◌*◌, Bool, true, false, List, length}
use Rattle.std.specs.FinSet.{is_subset}
use Rattle.pw_info.specs.declared.info.Info.{Info}
use Rattle.pw_info.specs.Information.{kind_of, Implies}
use Rattle.pw_info.specs.Rank.{rank_of}
use Rattle.pw_premises.specs.Premises.{Premises}
use Rattle.pw_facts.specs.Facts.{IsLeastAbove}
use Rattle.pw_cells.specs.Cells.{Store, kinds_of, told_in}
use Rattle.pw_network.specs.Network.{Attached, Network}
use Rattle.pw_settle.specs.Calls.{is_instance_visible, is_set, reader_count, sum_below}
use Rattle.pw_settle.specs.Growth.{RestOnUpstreamAfter}
use Rattle.pw_settle.specs.Settled.{IsSettled, Settled, info_at, support_at}
use Rattle.pw_settle.specs.Sound.{IsSound, IsSoundFor}
use Rattle.pw_settle.specs.Values.{IsSatisfied, attached_no, kinds_in, numbered, value_in}
use Rattle.pw_settle.specs.inside.Progress.{AreQueuedVisible, AreSatisfied}

-- values at hand, from which those of another worldview are found: the store is sound for the
-- network, and the values are what follows in their own worldview
pub record CanStart (network : Network) (store : Store) (before : Settled) : Type 0 where
  pub sound : IsSoundFor network store
  pub settled : IsSettled network store before.worldview before

-- what is known about a cell in the worldview: it rests on premises of the worldview, follows in
-- each worldview that has these, if the store is sound, and says at least what was told
pub record IsFound (network : Network) (store : Store) (w : Premises) (cell : ℕ) (info : Info)
    (support : Premises) : Type 0 where
  pub kind : kind_of info ≡ (numbered (kinds_in network)).kind cell
  pub within : is_subset support w ≡ true
  pub follows : IsSound network store → IsLeastAbove support (λ v. value_in network store v cell) info
  pub told : Implies info (told_in store cell w)

-- the same of all cells
pub record AreFound (network : Network) (store : Store) (w : Premises) (infos : List Info)
    (supports : List Premises) : Type 0 where
  pub many : length infos ≡ length (kinds_in network)
  pub as_many : length supports ≡ length infos
  pub each : (cell : ℕ) →
      IsFound network store w cell (info_at infos cell) (support_at supports cell)

-- what is known about a cell while an earlier value grows: it rests on premises of the worldview,
-- follows in each worldview that has these, if the store is sound, and says no less than the earlier
-- value
pub record IsGrown (network : Network) (store : Store) (earlier w : Premises) (cell : ℕ)
    (info : Info) (support : Premises) : Type 0 where
  pub kind : kind_of info ≡ (numbered (kinds_in network)).kind cell
  pub within : is_subset support w ≡ true
  pub follows : IsSound network store → IsLeastAbove support (λ v. value_in network store v cell) info
  pub more : cell < length (kinds_in network) → Implies info (value_in network store earlier cell)

-- the same of all cells. What is known about those below this number says at least what was told,
-- and each instance that is visible and not queued is satisfied
pub record AreGrownTo (network : Network) (store : Store) (earlier w : Premises) (count : ℕ)
    (infos : List Info) (supports : List Premises) (queued : List Bool) : Type 0 where
  pub many : length infos ≡ length (kinds_in network)
  pub as_many : length supports ≡ length infos
  pub each : (cell : ℕ) →
      IsGrown network store earlier w cell (info_at infos cell) (support_at supports cell)
  pub told : (cell : ℕ) → cell < count → Implies (info_at infos cell) (told_in store cell w)
  pub flags : length queued ≡ length network.attached
  pub seen : AreQueuedVisible network w queued
  pub satisfied : AreSatisfied network w (info_at infos) queued

-- the instance of this number was visible, and no less is known now of the cell that it writes
pub record StaysMet (network : Network) (was_visible : List Bool) (before now : List Info)
    (number : ℕ) : Type 0 where
  pub visible : is_set was_visible number ≡ true
  pub output : (d : Attached) →
      Implies (info_at now (attached_no network number d).instance.output)
      (info_at before (attached_no network number d).instance.output)

-- the visible instances are queued that do not stay met, and nothing else
pub record AreOthersMet (network : Network) (visible was_visible : List Bool)
    (before now : List Info) (queued : List Bool) : Type 0 where
  pub flags : length queued ≡ length visible
  pub seen : (number : ℕ) → is_set queued number ≡ true → is_set visible number ≡ true
  pub unmet : (number : ℕ) → is_set queued number ≡ true →
      StaysMet network was_visible before now number → ⊥
  pub others : (number : ℕ) → number < length visible → is_set visible number ≡ true →
      is_set queued number ≡ false → StaysMet network was_visible before now number

-- what may still be found out: the sum over the cells of the rank of what is known, times the
-- visible readers
abbrev pub weight_of : Network → Premises → List Info → ℕ
weight_of network w infos = sum_below (length infos) (λ cell.
    rank_of (info_at infos cell) * reader_count network w cell)

-- of each cell no less is known than before; where no more is, it rests on the same premises
pub record SaysMore (infos new_infos : List Info) (supports new_supports : List Premises)
    : Type 0 where
  pub more : (cell : ℕ) → Implies (info_at new_infos cell) (info_at infos cell)
  pub same : (cell : ℕ) → Implies (info_at infos cell) (info_at new_infos cell) →
      support_at new_supports cell ≡ support_at supports cell

-- values are being found beside the store: what is known about the cells is found, only visible
-- instances are queued, and each other visible one is satisfied
pub record IsUnderwayAside (network : Network) (store : Store) (w : Premises) (infos : List Info)
    (supports : List Premises) (queued : List Bool) : Type 0 where
  pub kinds : kinds_of store ≡ kinds_in network
  pub found : AreFound network store w infos supports
  pub flags : length queued ≡ length network.attached
  pub seen : AreQueuedVisible network w queued
  pub satisfied : AreSatisfied network w (info_at infos) queued

-- more was found, and they are still being found: no less is known than before, and it rests on
-- premises upstream, if that did
pub record IsFurtherAside (network : Network) (store : Store) (w : Premises) (infos : List Info)
    (supports : List Premises) (new_infos : List Info) (new_supports : List Premises)
    (queued : List Bool) : Type 0 where
  pub underway : IsUnderwayAside network store w new_infos new_supports queued
  pub more : SaysMore infos new_infos supports new_supports
  pub lie : RestOnUpstreamAfter network supports store new_supports

-- each visible instance is satisfied
abbrev pub AreAllSatisfied : Network → Premises → (ℕ → Info) → Type 0
AreAllSatisfied network w known =
    (number : ℕ) (d : Attached) → number < length network.attached →
    is_instance_visible w (attached_no network number d) ≡ true →
    IsSatisfied network known (attached_no network number d)
