-- The store of a workbench: it has the cells of the network, and was told what the entries tell
-- about each cell.
use Rattle.std.proofs.Common.{◌≡◌, ◌≢◌, ℕ, ◌+◌, ◌<◌, List, [], ◌∷◌, ◌++◌, true, false, length, get_or, map, sym, ap, ◌∙◌, subst, inl, inr, arith}
use Rattle.std.specs.Prelude.{nat_eq}
use Rattle.std.proofs.lemmas.Bool.{cases_Bool}
use Rattle.std.proofs.lemmas.List.{length-map, get_or_append_left, get_or-append-add}
use Rattle.std.proofs.Math.ListN.{get_or-map}
use Rattle.pw_info.specs.declared.kind.Kind.{Kind}
use Rattle.pw_info.specs.declared.kind.Kind.TheVariants as kinds
use Rattle.pw_info.specs.declared.info.Info.{Info}
use Rattle.pw_info.specs.Information.{kind_of, meet, nothing}
use Rattle.pw_info.proofs.Informations.{kind-closest}
use Rattle.pw_premises.specs.Premises.{Premises}
use Rattle.pw_facts.specs.declared.fact.Fact.{Fact}
use Rattle.pw_facts.specs.Facts.{shows}
use Rattle.pw_cells.specs.Cells as cells
use Rattle.pw_cells.specs.Cells.{Arrivals, Cell, Store, cell_at, kind_in_store, kinds_of, new_cell, told_in}
use Rattle.pw_decl.specs.declared.step.Callable.{Callable}
use Rattle.pw_decl.specs.Declaration.{Declared}
use Rattle.pw_decl.specs.Expansion.{inner_kinds_of}
use Rattle.pw_network.specs.Wiring.{Name, DeclaredCell, name_in}
use Rattle.pw_network.specs.Network.{Network, cells_in, kind_in, with_attached}
use Rattle.pw_network.proofs.NameLemmas.{declared_name, kept_name}
use Rattle.pw_settle.specs.Fixpoint.{unknown_at, told_alone}
use Rattle.pw_settle.specs.Values.{nat_eq_decides}
use Rattle.pw_settle.specs.Values.{kinds_in}
use Rattle.pw_sessions.specs.Values.{sources_after, visible_in}
use Rattle.pw_sessions.specs.CellNames.{kind_by_name, named_cells, same_name, same_name_decides}
use Rattle.pw_sessions.specs.Entries.{Entry, Told, Attached, RiseFrom}
use Rattle.pw_sessions.specs.Workbench.{WasTold, network_after}
use Rattle.pw_sessions.proofs.EntryLemmas.{attachment_tells_nothing, inner_untold, tells_alone, told_by, told_elsewhere, told_here}
use Rattle.pw_sessions.proofs.NetworkKinds.{kinds_by_name, kinds_many}
use Rattle.pw_sessions.proofs.NetworkNames.{names_apart, name_of_new, which_cell}

-- ---- kinds

-- the kind of a cell of a store, found among all of them
pub kind_found : (store : Store) (cell : ℕ) → get_or (kinds_of store) cell kinds.Interval ≡ kind_in_store store cell
kind_found store cell = get_or-map (λ (c : Cell). c.kind) store.cells cell (new_cell kinds.Interval)

-- stores of the same kinds have them cell by cell
kind_still : (old new : Store) (cell : ℕ) → kinds_of new ≡ kinds_of old → kind_in_store new cell ≡ kind_in_store old cell
kind_still old new cell still =
    sym (kind_found new cell) ∙ ap (λ (ks : List Kind). get_or ks cell kinds.Interval) still ∙ kind_found old cell

-- a new cell was told nothing
told_nothing : (c : Cell) (k : Kind) (w : Premises) → c ≡ new_cell k → cells.told_of c w ≡ nothing c.kind
told_nothing c k w new = ap (λ (x : Cell). cells.told_of x w) new ∙ ap (λ (x : Cell). nothing x.kind) (sym new)

-- ---- what the store was told, cell by cell

-- of each cell it was told, in every worldview, what the visible entries tell about it by its name
abbrev pub TellsEntries : Declared → List Entry → Network → Store → Type 0
TellsEntries d entries network store =
    (cell : ℕ) (w : Premises) → cell < cells_in network
    → told_in store cell w ≡ told_by d entries w (name_in network cell) (nothing (kind_in_store store cell))

-- before the first entry new cells were told nothing
pub tells_of_new : (d : Declared) (network : Network) (store : Store) (ks : List Kind) → store.cells ≡ map new_cell ks → TellsEntries d [] network store
tells_of_new d network store ks new cell w within =
    told_nothing (cell_at store cell) (get_or ks cell kinds.Interval) w
    (ap (λ (cs : List Cell). get_or cs cell (new_cell kinds.Interval)) new ∙ get_or-map new_cell ks cell kinds.Interval)

module _ (d : Declared) (many : length d.kinds ≡ length d.cells) (entries : List Entry) (rise : RiseFrom 0 entries)
    (network : Network) (store : Store) (is : network ≡ network_after d entries) (fits : kinds_of store ≡ kinds_in network) where
  -- there are as many cells as in the network
  pub cells_many : length store.cells ≡ cells_in network
  cells_many =
      sym (length-map store.cells (λ (c : Cell). c.kind)) ∙ ap length fits
      ∙ subst (λ n. length (kinds_in n) ≡ cells_in n) (sym is) (kinds_many d entries many)

  -- the kind of a cell in the store goes with its name
  kind_by_its_name : (cell : ℕ) → cell < cells_in network → kind_by_name d entries (name_in network cell) ≡ kind_in_store store cell
  kind_by_its_name cell within =
      let named = subst (λ n. cell < cells_in n → kind_in n cell ≡ kind_by_name d entries (name_in n cell)) (sym is) (kinds_by_name d entries many rise cell) in
      sym (named within) ∙ ap (λ (ks : List Kind). get_or ks cell kinds.Interval) (sym fits) ∙ kind_found store cell

  -- what the definition merges of a cell
  told_by_name : (cell : ℕ) (w : Premises) → cell < cells_in network →
      told_alone (named_cells d entries) (sources_after d (visible_in entries w)) (name_in network cell)
      ≡ told_by d entries w (name_in network cell) (nothing (kind_in_store store cell))
  told_by_name cell w within =
      tells_alone d entries (unknown_at (named_cells d entries)) (name_in network cell) (nothing (kind_by_name d entries (name_in network cell)))
      (sources_after d (visible_in entries w))
      ∙ ap (λ k. told_by d entries w (name_in network cell) (nothing k)) (kind_by_its_name cell within)

  -- so it was told by the definition if it was told cell by cell
  pub WasTold-from_tells : TellsEntries d entries network store → WasTold d entries network store
  WasTold-from_tells tells cell w within = tells cell w within ∙ sym (told_by_name cell w within)

  -- and the other way
  pub tells_from_WasTold : WasTold d entries network store → TellsEntries d entries network store
  tells_from_WasTold told cell w within = told cell w within ∙ told_by_name cell w within

  -- ---- a fact is told

  -- the name of a declared cell is not a name of another
  other_name : (at cell : ℕ) → network.declared ≡ d → at < length d.cells → cell < cells_in network → nat_eq at cell ≡ false →
      same_name (DeclaredCell at) (name_in network cell) ≡ false
  other_name at cell over there within apart =
      let declared : at < length network.declared.cells = subst (λ (e : Declared). at < length e.cells) (sym over) there in
      let own : name_in network at ≡ DeclaredCell at = declared_name network at declared in
      let one = subst (λ n. (b c : ℕ) → b < cells_in n → c < cells_in n → name_in n b ≡ name_in n c → b ≡ c) (sym is) (names_apart d entries rise) in
      elim (cases_Bool (same_name (DeclaredCell at) (name_in network cell))) [
        | inl same ↦
            let e : at ≡ cell =
            one at cell (omega (arith, declared)) within (own ∙ (same_name_decides (DeclaredCell at) (name_in network cell)).0 same) in
            absurd (let yes = (nat_eq_decides at cell).1 e in cc)
        | inr other ↦ other
      ]

  -- the name of a declared cell is its own
  own_name : (at cell : ℕ) → network.declared ≡ d → at < length d.cells → at ≡ cell → same_name (DeclaredCell at) (name_in network cell) ≡ true
  own_name at cell over there same =
      let declared : at < length network.declared.cells = subst (λ (e : Declared). at < length e.cells) (sym over) there in
      (same_name_decides (DeclaredCell at) (name_in network cell)).1 (sym (declared_name network at declared) ∙ ap (name_in network) same)

  -- with one more fact
  pub tells_more : (new : Store) (line at : ℕ) (fact : Fact) → network.declared ≡ d → at < length d.cells →
      kind_of fact.info ≡ kind_in_store store at →
      ((w : Premises) → told_in new at w ≡ meet (told_in store at w) (shows w fact)) → ((c : ℕ) → c ≢ at → cell_at new c ≡ cell_at store c) →
      kinds_of new ≡ kinds_of store → TellsEntries d entries network store → TellsEntries d (entries ++ Told line at fact ∷ []) network new
  tells_more new line at fact over there of_kind gained others still tells cell w within =
      let name : Name = name_in network cell in
      let more : Kind → Info = λ k. told_by d (entries ++ Told line at fact ∷ []) w name (nothing k) in
      let kind : kind_in_store new cell ≡ kind_in_store store cell = kind_still store new cell still in
      elim (cases_Bool (nat_eq at cell)) [
        | inl here ↦
            let same : at ≡ cell = (nat_eq_decides at cell).0 here in
            let fits : kind_of (nothing (kind_in_store store cell)) ≡ kind_of fact.info =
            kind-closest (kind_in_store store cell) (λ v. true) ∙ ap (kind_in_store store) (sym same) ∙ sym of_kind in
            ap (λ c. told_in new c w) (sym same) ∙ gained w
            ∙ ap (λ c. meet (told_in store c w) (shows w fact)) same
            ∙ ap (λ i. meet i (shows w fact)) (tells cell w within)
            ∙ sym (told_here d entries w name (nothing (kind_in_store store cell)) line at fact fits (own_name at cell over there same))
            ∙ ap more (sym kind)
        | inr apart ↦
            ap (λ (c : Cell). cells.told_of c w) (others cell (λ e. let yes = (nat_eq_decides at cell).1 (sym e) in cc))
            ∙ tells cell w within
            ∙ sym (told_elsewhere d entries w name (nothing (kind_in_store store cell)) line at fact (other_name at cell over there within apart))
            ∙ ap more (sym kind)
      ]

  -- ---- a callable is attached

  -- with its inner cells, of which nothing was told
  pub tells_attached : (line : ℕ) (callable : Callable) (on : List ℕ) (support : Premises) (room : ℕ) (arrivals : Arrivals) →
      TellsEntries d entries network store →
      TellsEntries d (entries ++ Attached line callable on support ∷ []) (with_attached network line callable on support)
      (record { cells = store.cells ++ map new_cell (inner_kinds_of network.declared.compounds callable); room = room; arrivals = arrivals })
  tells_attached line callable on support room arrivals tells cell w within =
      let own : List Kind = inner_kinds_of network.declared.compounds callable in
      let added : List Cell = map new_cell own in
      let new : Store = record { cells = store.cells ++ added; room = room; arrivals = arrivals } in
      let after : List Entry = entries ++ Attached line callable on support ∷ [] in
      let made : Network = with_attached network line callable on support in
      let blank : Cell = new_cell kinds.Interval in
      elim (which_cell network line callable on support cell within) [
        | inl old ↦
            let same : cell_at new cell ≡ cell_at store cell = let l = cells_many in get_or_append_left store.cells added blank cell (omega arith) in
            ap (λ (c : Cell). cells.told_of c w) same
            ∙ tells cell w old
            ∙ sym (attachment_tells_nothing d entries w (name_in network cell) (nothing (kind_in_store store cell)) line callable on support)
            ∙ ap (λ n. told_by d after w n (nothing (kind_in_store store cell))) (sym (kept_name network line callable on support cell old))
            ∙ ap (λ (c : Cell). told_by d after w (name_in made cell) (nothing c.kind)) (sym same)
        | inr fresh ↦
            let at : cell ≡ length store.cells + fresh.0 = let l = cells_many in let is = fresh.2 in omega arith in
            let new_one : cell_at new cell ≡ new_cell (get_or own fresh.0 kinds.Interval) =
            ap (λ n. get_or (store.cells ++ added) n blank) at
            ∙ get_or-append-add store.cells added fresh.0 blank ∙ get_or-map new_cell own fresh.0 kinds.Interval in
            told_nothing (cell_at new cell) (get_or own fresh.0 kinds.Interval) w new_one
            ∙ sym (inner_untold d (visible_in after w) line fresh.0 (nothing (kind_in_store new cell)))
            ∙ ap (λ n. told_by d after w n (nothing (kind_in_store new cell))) (sym (name_of_new network line callable on support fresh.0 cell fresh.1 fresh.2))
      ]
