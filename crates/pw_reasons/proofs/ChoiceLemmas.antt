-- Choosing: what settled values and noted sets say of a worldview, and what stays where a store keeps
-- more.
use Rattle.std.proofs.Common.{◌≡◌, ℕ, ◌<◌, true, Option, None, Some, Result, Ok, Err, List, All, sym, ◌∙◌, subst}
use Rattle.std.specs.Prelude.{IfNone, IfOk, IfSome}
use Rattle.std.specs.FinSet.{is_subset}
use Rattle.std.proofs.lemmas.List.Elements.{All-weaker}
use Rattle.std.proofs.lemmas.List.Folds.{Any-from_list_any}
use Rattle.pw_info.specs.Information.{IsContradiction}
use Rattle.pw_premises.specs.Premises.{Premises}
use Rattle.pw_premises.specs.PremiseSubsets.{is_subset_trans}
use Rattle.pw_cells.specs.Cells.{Store, kinds_of}
use Rattle.pw_network.specs.Network.{Network, IsWellNetwork, cells_in}
use Rattle.pw_settle.specs.Growth.{KeepsMore}
use Rattle.pw_settle.specs.Settled.{IsSettled, Settled, info_at, support_at}
use Rattle.pw_settle.specs.Values.{kinds_in}
use Rattle.pw_settle.proofs.Growing.{same_value, settled_still}
use Rattle.pw_reasons.specs.Choice.{IsConsistent}
use Rattle.pw_reasons.specs.inside.Reasoning.{AreSettledLast}
use Rattle.pw_reasons.specs.inside.Searching.{IsNogoodWithin}
use Rattle.pw_reasons.specs.Nogood.{AreNogoods, IsNogood, covers}
use Rattle.pw_reasons.proofs.NogoodLemmas.{larger_nogood, nogoods_same}

-- ---- answers

-- what is said of the one case holds in it
pub if_some : {X : Type 0} (P : X → Type 0) (found : Option X) (x : X) → found ≡ Some x → IfSome found P → P x
if_some P found x is holds = subst (λ o. IfSome o P) is holds

pub if_none : {X : Type 0} (P : Type 0) (found : Option X) → found ≡ None → IfNone found P → P
if_none P found is holds = subst (λ o. IfNone o P) is holds

-- ---- covered sets, and settled values

module _ (network : Network) (store : Store) where
  -- what noted nogoods cover is a nogood
  pub covered_nogood : IsWellNetwork network → kinds_of store ≡ kinds_in network → (nogoods : List Premises) → AreNogoods network store nogoods →
      (w : Premises) → covers nogoods w ≡ true → IsNogood network store w
  covered_nogood well same nogoods are w covered =
      let some = Any-from_list_any (λ noted. is_subset noted w) nogoods covered in
      larger_nogood network store well same some.1 w some.4 (subst (IsNogood network store) some.3 (are some.0 some.1 some.2))

  pub covered_nogoods : IsWellNetwork network → kinds_of store ≡ kinds_in network → (nogoods : List Premises) → AreNogoods network store nogoods →
      (ws : List Premises) → All (λ w. covers nogoods w ≡ true) ws → AreNogoods network store ws
  covered_nogoods well same nogoods are ws =
      All-weaker (λ w. covers nogoods w ≡ true) (IsNogood network store) (covered_nogood well same nogoods are) ws

  module _ (w : Premises) (settled : Settled) (are : IsSettled network store w settled) where
    -- the support of a contradiction is a nogood
    pub support_nogood : (cell : ℕ) → cell < cells_in network → IsContradiction (info_at settled.infos cell) →
        IsNogood network store (support_at settled.supports cell)
    support_nogood cell below contradictory = record {
      cell = cell;
      here = below;
      contradictory = subst IsContradiction (are.values cell below ∙ sym (are.enough cell below)) contradictory;
    }

    -- within the worldview
    pub contradiction_nogood : (nogood : Premises) → (cell : ℕ) × (cell < cells_in network) × IsContradiction (info_at settled.infos cell)
        × (nogood ≡ support_at settled.supports cell) → IsNogoodWithin network store w nogood
    contradiction_nogood nogood some = record {
      part = subst (λ s. is_subset s w ≡ true) (sym some.3) (are.within some.0);
      contradicts = subst (IsNogood network store) (sym some.3) (support_nogood some.0 some.1 some.2);
    }

    -- where no cell has one, the worldview is consistent
    pub none_contradictory : ((cell : ℕ) → cell < cells_in network → IsContradiction (info_at settled.infos cell) → ⊥) → IsConsistent network store w
    none_contradictory none is =
        none is.cell is.here (subst IsContradiction (sym (are.values is.cell is.here)) is.contradictory)

-- ---- a store that keeps more

module _ (network : Network) (old new : Store) (grows : KeepsMore network old new) where
  -- nogoods are those that were
  pub nogoods_now : (nogoods : List Premises) → AreNogoods network old nogoods → AreNogoods network new nogoods
  nogoods_now = nogoods_same network old new grows.told

  pub nogoods_then : (nogoods : List Premises) → AreNogoods network new nogoods → AreNogoods network old nogoods
  nogoods_then = nogoods_same network new old (λ cell w. sym (grows.told cell w))

  -- and so is what is consistent
  pub consistent_then : (w : Premises) → IsConsistent network new w → IsConsistent network old w
  consistent_then w consistent is = consistent (record {
    cell = is.cell;
    here = is.here;
    contradictory = subst IsContradiction (sym (same_value network old new grows.told w is.cell)) is.contradictory;
  })

  -- so are the values found last
  pub last_now : (last : Option Settled) → AreSettledLast network old last → AreSettledLast network new last
  last_now None are = are
  last_now (Some values) are = settled_still network old new values.worldview values grows are

  pub last_then : (last : Option Settled) → AreSettledLast network new last → AreSettledLast network old last
  last_then None are = are
  last_then (Some values) are = record {
    worldview_is = are.worldview_is;
    cells = are.cells;
    values = λ cell below. are.values cell below ∙ same_value network old new grows.told values.worldview cell;
    supports = are.supports;
    within = are.within;
    enough = λ cell below.
        sym (same_value network old new grows.told (support_at values.supports cell) cell) ∙ are.enough cell below
        ∙ same_value network old new grows.told values.worldview cell;
  }

  -- and what is found of nogoods and of what is consistent
  pub nogood_then : (w nogood : Premises) → IsNogoodWithin network new w nogood → IsNogoodWithin network old w nogood
  nogood_then w nogood is = record {
    part = is.part;
    contradicts = record {
      cell = is.contradicts.cell;
      here = is.contradicts.here;
      contradictory = subst IsContradiction (same_value network old new grows.told nogood is.contradicts.cell) is.contradicts.contradictory;
    };
  }

  pub some_then : {E : Type 0} (w : Premises) (result : Result (Option Premises) E) → IfOk result (λ found. IfSome found (IsNogoodWithin network new w)) →
      IfOk result (λ found. IfSome found (IsNogoodWithin network old w))
  some_then w (Ok (Some nogood)) is = nogood_then w nogood is
  some_then w (Ok None) is = is
  some_then w (Err e) is = is

  pub none_then : {E : Type 0} (w : Premises) (result : Result (Option Premises) E) → IfOk result (λ found. IfNone found (IsConsistent network new w)) →
      IfOk result (λ found. IfNone found (IsConsistent network old w))
  none_then w (Ok (Some nogood)) is = is
  none_then w (Ok None) is = consistent_then w is
  none_then w (Err e) is = is

-- a nogood within a part is within the whole
pub within_whole : (network : Network) (store : Store) (part w nogood : Premises) → is_subset part w ≡ true → IsNogoodWithin network store part nogood →
    IsNogoodWithin network store w nogood
within_whole network store part w nogood within is = record {
  part = is_subset_trans nogood part w is.part within;
  contradicts = is.contradicts;
}
