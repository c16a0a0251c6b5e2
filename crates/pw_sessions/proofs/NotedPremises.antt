-- Premises that contradict themselves still do so after more is told and attached.
use Rattle.std.proofs.Common.{◌≡◌, ℕ, List, ◌++◌, map, sym, ap, ◌∙◌, arith}
use Rattle.std.proofs.lemmas.List.Elements.{All-weaker}
use Rattle.pw_info.specs.declared.kind.Kind.{Kind}
use Rattle.pw_info.specs.Information.{kind_of}
use Rattle.pw_premises.specs.Premises.{Premises}
use Rattle.pw_facts.specs.declared.fact.Fact.{Fact}
use Rattle.pw_cells.specs.Cells.{Cell, Store, kind_in_store, kinds_of, new_cell, told_in, told_of}
use Rattle.pw_network.specs.Network.{IsWellNetwork, Network}
use Rattle.pw_settle.specs.Values.{kinds_in}
use Rattle.pw_settle.specs.Growth.{IsWider}
use Rattle.pw_settle.proofs.KeptFacts.{also_implies}
use Rattle.pw_settle.proofs.WiderNetworks.{wide_self}
use Rattle.pw_reasons.specs.Nogood.{AreNogoods, IsNogood}
use Rattle.pw_reasons.proofs.NogoodLemmas.{nogoods_same, wider_nogood}
use Rattle.pw_settle.proofs.SoundStores.{cell_stays, more_told}
use Rattle.pw_sessions.specs.inside.Steps.{TakesFact}
use Rattle.pw_settle.proofs.StoreCells.{cells_kept}

-- if a fact is told
pub nogoods_told : (network : Network) → IsWellNetwork network → (old new : Store) (cell : ℕ) (fact : Fact) → kinds_of old ≡ kinds_in network →
    kind_of fact.info ≡ kind_in_store old cell → TakesFact cell fact old new → (nogoods : List Premises) → AreNogoods network old nogoods →
    AreNogoods network new nogoods
nogoods_told network well old new cell fact same kind takes =
    All-weaker (IsNogood network old) (IsNogood network new)
    (λ premises. wider_nogood network network well well (wide_self network) old new same (takes.kinds ∙ same) premises
    (λ c there. more_told network old new same cell fact kind takes.told takes.others c premises))

-- if more is attached, and new cells are added
pub nogoods_attached : (network wider : Network) → IsWider network wider → IsWellNetwork network → IsWellNetwork wider → (old new : Store)
    (own : List Kind) → kinds_of old ≡ kinds_in network → kinds_of new ≡ kinds_in wider → new.cells ≡ old.cells ++ map new_cell own →
    (nogoods : List Premises) → AreNogoods network old nogoods → AreNogoods wider new nogoods
nogoods_attached network wider wide well also old new own same fits are =
    All-weaker (IsNogood network old) (IsNogood wider new)
    (λ premises. wider_nogood network wider well also wide old new same fits premises
    (λ c there. also_implies (told_in old c premises) (told_in old c premises) (told_in new c premises)
    (sym (ap (λ (x : Cell). told_of x premises)
    (cell_stays old new own are c (let many = cells_kept network old well same in omega (arith, many, there)))))
    (λ v possible. possible)))

-- if the cells are the same
pub nogoods_kept : (network : Network) (old new : Store) → new.cells ≡ old.cells → (nogoods : List Premises) → AreNogoods network old nogoods →
    AreNogoods network new nogoods
nogoods_kept network old new same nogoods =
    nogoods_same network old new (λ cell w. ap (λ (cs : List Cell). told_in (record { cells = cs; room = 0; arrivals = old.arrivals }) cell w) same) nogoods
