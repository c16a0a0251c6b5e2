-- The laws of this crate that are longer than a line: each is the contract of a function in
-- `src/laws.rt`.
use Rattle.std.specs.Prelude.{◌≡◌, ◌≢◌, ◌<◌, ◌↔◌, ℕ, true}
use Rattle.std.specs.FinSet.{contains, is_subset, remove}
use Rattle.pw_info.specs.declared.info.Info.{Info}
use Rattle.pw_premises.specs.Premises.{Premises, most_premises}
use Rattle.pw_cells.specs.Cells.{Store, kinds_of, told_in}
use Rattle.pw_network.specs.Network.{Network as Networks, IsWellNetwork, cells_in}
use Rattle.pw_reasons.specs.Nogood.{IsNogood}
use Rattle.pw_reasons.specs.Reason.{Grows, before_and_after, reason_of}
use Rattle.pw_info.specs.Information.{Implies}
use Rattle.pw_settle.specs.Values.{kinds_in, value_in}
use Rattle.pw_settle.specs.Growth.{IsWider}

-- a reason has only premises of its worldview
abbrev pub ReasonsArePremisesOfTheirWorldview : Type 0
ReasonsArePremisesOfTheirWorldview =
    (value : Premises → Info) (worldview : Premises) →
    is_subset (reason_of value worldview) worldview ≡ true

-- the premises of a reason alone give the value
abbrev pub ReasonsGiveTheSameValue : Type 0
ReasonsGiveTheSameValue =
    (value : Premises → Info) (worldview : Premises) → value (reason_of value worldview)
    ≡ value worldview

-- without any one of its premises the value differs
abbrev pub ReasonsAreIrredundant : Type 0
ReasonsAreIrredundant =
    (value : Premises → Info) (worldview : Premises) → Grows value →
    (premise : ℕ) → premise < most_premises → contains (reason_of value worldview) premise ≡ true →
    value (remove (reason_of value worldview) premise) ≢ value worldview

-- which premises of the worldview a reason has
abbrev pub ReasonsKeepWhatIsNeeded : Type 0
ReasonsKeepWhatIsNeeded =
    (value : Premises → Info) (worldview : Premises) (premise : ℕ) →
    premise < most_premises → contains worldview premise ≡ true →
    (contains (reason_of value worldview) premise ≡ true)
    ↔ (value (before_and_after worldview (reason_of value worldview) premise) ≢ value worldview)

-- more is known of each cell of a network where more is believed
abbrev pub ValuesGrow : Type 0
ValuesGrow =
    (network : Networks) (store : Store) → IsWellNetwork network →
    kinds_of store ≡ kinds_in network → (cell : ℕ) → Grows (λ w. value_in network store w cell)

-- a set with all premises of a nogood is a nogood
abbrev pub LargerNogoods : Type 0
LargerNogoods =
    (network : Networks) (store : Store) → IsWellNetwork network →
    kinds_of store ≡ kinds_in network →
    (part premises : Premises) → is_subset part premises ≡ true →
    IsNogood network store part → IsNogood network store premises

-- a nogood is one in a wider network and a store that was told more
abbrev pub WiderNogoods : Type 0
WiderNogoods =
    (network wider : Networks) → IsWellNetwork network → IsWellNetwork wider →
    IsWider network wider → (old new : Store) →
    kinds_of old ≡ kinds_in network → kinds_of new ≡ kinds_in wider →
    (premises : Premises) →
    ((cell : ℕ) → cell < cells_in network →
    Implies (told_in new cell premises) (told_in old cell premises)) →
    IsNogood network old premises → IsNogood wider new premises
