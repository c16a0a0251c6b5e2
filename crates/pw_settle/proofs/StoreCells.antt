-- A store that has the kinds of a network has its cells, and room for more.
use Rattle.std.proofs.Common.{◌≡◌, ◌+◌, ◌≤◌, List, [], ◌∷◌, ◌++◌, length, map, refl, ap, ◌∙◌, arith}
use Rattle.std.proofs.lemmas.List.{length-append, length-map, map-append}
use Rattle.pw_info.specs.declared.kind.Kind.{Kind}
use Rattle.pw_cells.specs.Cells as cells
use Rattle.pw_cells.specs.Cells.{Cell, Store, kinds_of, new_cell}
use Rattle.pw_decl.specs.Limits.{most_inner_cells}
use Rattle.pw_network.specs.Network.{InnerCell, IsWellNetwork, Network, cells_in}
use Rattle.pw_settle.specs.Values.{kinds_in}

-- new cells have the kinds that they were made with
kinds_again : (ks : List Kind) → map (λ (c : Cell). c.kind) (map new_cell ks) ≡ ks
kinds_again [] = refl
kinds_again (k ∷ ks) = ap (λ (l : List Kind). k ∷ l) (kinds_again ks)

-- new cells have their kinds, after the others
pub kinds_added : (cs : List Cell) (ks : List Kind) → map (λ (c : Cell). c.kind) (cs ++ map new_cell ks) ≡ map (λ (c : Cell). c.kind) cs ++ ks
kinds_added cs ks =
    map-append (λ (c : Cell). c.kind) cs (map new_cell ks) ∙ ap (λ (l : List Kind). map (λ (c : Cell). c.kind) cs ++ l) (kinds_again ks)

-- if the store has the kinds of a network, it has its cells
pub cells_kept : (network : Network) (store : Store) → IsWellNetwork network → kinds_of store ≡ kinds_in network → length store.cells ≡ cells_in network
cells_kept network store well fits =
    let kept = length-map store.cells (λ (c : Cell). c.kind) in
    let same = ap length fits in
    let all = length-append network.declared.kinds (map (λ (inner : InnerCell). inner.kind) network.inner) in
    let inner = length-map network.inner (λ (inner : InnerCell). inner.kind) in
    omega (arith, well.declared.kinds)

-- so there is room for the inner cells of one more attachment
pub room_for_inner : (network : Network) (store : Store) → IsWellNetwork network → kinds_of store ≡ kinds_in network →
    length store.cells + most_inner_cells ≤ cells.most_store_cells
room_for_inner network store well fits =
    let same = cells_kept network store well fits in
    omega (arith, well.lines, well.few, well.declared.cells)
