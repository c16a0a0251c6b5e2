-- What is known about each cell while a settling takes in what came since an earlier one.
use Rattle.std.specs.Prelude.{◌≡◌, ◌++◌, ℕ, Bool, ◌<◌, ◌≤◌, true, false, List, Some, length, map}
use Rattle.std.specs.FinSet.{is_subset}
use Rattle.pw_info.specs.declared.info.Info.{Info}
use Rattle.pw_info.specs.Information.{Implies, kind_of}
use Rattle.pw_premises.specs.Premises.{Premises}
use Rattle.pw_facts.specs.declared.fact.Fact.{Fact}
use Rattle.pw_facts.specs.Facts.{shows}
use Rattle.pw_cells.specs.declared.arrival.Arrival.{Arrival}
use Rattle.pw_cells.specs.Arrivals.{since}
use Rattle.pw_cells.specs.Cells.{Store, IsUnsaid, fact_on, kept_in, kind_in_store}
use Rattle.pw_cells.specs.Shown.{IsKeptIn}
use Rattle.pw_network.specs.Network.{Network}
use Rattle.pw_settle.specs.Calls.{is_instance_visible}
use Rattle.pw_settle.specs.Growth.{CanContinue}
use Rattle.pw_settle.specs.Settled.{Settled, info_at, support_at}
use Rattle.pw_settle.specs.inside.Queueing.{HasChanged, QueuesReaders}
use Rattle.pw_settle.specs.inside.Known.{AreKept, TakesIn, TakesInKept}

-- the store remembers all that came since the mark
abbrev pub KnowsWhatCame : Store → ℕ → Type 0
KnowsWhatCame store mark = (list : List Arrival) × (since store mark ≡ Some list)

-- what is known about the cells, as the values of a settling in this worldview that was marked so
abbrev pub known_at : List Info → List Premises → Premises → ℕ → Settled
known_at infos supports w mark = record {
  infos = infos;
  supports = supports;
  worldview = w;
  instances = 0;
  calls = 0;
  mark = mark;
}

-- something of its kind is known about each cell of the store, and a settling can continue from it
pub record IsAtHand (store : Store) (w : Premises) (mark : ℕ) (infos : List Info)
    (supports : List Premises) : Type 0 where
  pub many : length infos ≡ length store.cells
  pub kinds : (cell : ℕ) → cell < length infos →
      kind_of (info_at infos cell) ≡ kind_in_store store cell
  pub continues : CanContinue store (known_at infos supports w mark)

-- more is kept of some cell in the worldview than is known about it
abbrev pub IsBehind : Store → Premises → List Info → Type 0
IsBehind store w infos =
    (cell : ℕ) × (cell < length infos) × IsUnsaid (info_at infos cell) (kept_in store cell w)

-- the list begins with the other one
abbrev pub BeginsWith : {A : Type 0} → List A → List A → Type 0
BeginsWith {A} first list = (more : List A) × (list ≡ first ++ more)

-- of the first cells the same is known as before, and of the next ones, below this number, what is
-- kept
pub record AreReadTo (store : Store) (w : Premises) (count : ℕ) (infos new_infos : List Info)
    (supports new_supports : List Premises) : Type 0 where
  pub many : length new_infos ≡ count
  pub as_many : length new_supports ≡ count
  pub infos_stay : (cell : ℕ) → cell < length infos →
      info_at new_infos cell ≡ info_at infos cell
  pub supports_stay : (cell : ℕ) → cell < length infos →
      support_at new_supports cell ≡ support_at supports cell
  pub read : (cell : ℕ) → length infos ≤ cell → cell < count →
      IsKeptIn store cell w (fact_on (info_at new_infos cell) (support_at new_supports cell))

-- what is known about the cell says what the fact shows in the worldview, and stays
pub record IsKnown (cell : ℕ) (fact : Fact) (w : Premises) (infos new_infos : List Info)
    (supports new_supports : List Premises) : Type 0 where
  pub says : Implies (info_at infos cell) (shows w fact)
  pub infos_stay : new_infos ≡ infos
  pub supports_stay : new_supports ≡ supports

-- the fact is shown in the worldview and is news, and is merged into what is known about the cell
pub record IsNewHere (cell : ℕ) (fact : Fact) (w : Premises) (infos new_infos : List Info)
    (supports new_supports : List Premises) : Type 0 where
  pub within : is_subset fact.support w ≡ true
  pub unsaid : IsUnsaid (info_at infos cell) fact.info
  pub taken : TakesIn cell fact infos new_infos supports new_supports

-- what is kept of the cell was merged into what is known about it, and if it was news, the visible
-- readers of the cell were queued
pub record IsReadAgain (network : Network) (store : Store) (cell : ℕ) (w : Premises)
    (infos new_infos : List Info) (supports new_supports : List Premises)
    (queued new_queued : List Bool) : Type 0 where
  pub is_news : Bool
  pub taken : TakesInKept store cell w is_news infos new_infos supports new_supports
  pub news : is_news ≡ true → QueuesReaders network
      (map (is_instance_visible w) network.attached) (λ c. c ≡ cell) queued new_queued
  pub none : is_news ≡ false → new_queued ≡ queued

-- the visible readers of the cells are queued of which more is known now than was found before, and
-- nothing else
abbrev pub QueuesChanged : Network → List Bool → List Info → List Info → List Bool → List Bool
    → Type 0
QueuesChanged network visible before now old queued =
    QueuesReaders network visible (λ cell. (cell < length now) × HasChanged before now cell) old
    queued

-- what was new to what is known is taken in: what is known now is what is kept, and the visible
-- readers of the cells about which more is known than before are queued
pub record TakesInNews (network : Network) (store : Store) (w : Premises)
    (infos new_infos : List Info) (new_supports : List Premises) (queued new_queued : List Bool)
    : Type 0 where
  pub kept : AreKept store w new_infos new_supports
  pub queues : QueuesChanged network (map (is_instance_visible w) network.attached) infos new_infos
      queued new_queued

-- some of it is not: what is known is still at hand, and more is kept of a cell than was known before
abbrev pub LeavesNews : Store → Premises → ℕ → List Info → List Info → List Premises → Type 0
LeavesNews store w mark infos new_infos new_supports =
    IsAtHand store w mark new_infos new_supports × IsBehind store w infos
