-- What settles in the network that entries make is what follows from the visible entries by name.
use Rattle.std.proofs.Common.{◌≡◌, ℕ, ◌<◌, List, [], ◌++◌, length, map, map-id, refl, sym, ap, ◌∙◌, arith, All, Contains}
use Rattle.std.specs.List.{range_with_len}
use Rattle.std.proofs.lemmas.List.{map-append}
use Rattle.std.proofs.lemmas.List.Elements.{All-append, All-contains, All-filter, All-map, All-weaker}
use Rattle.std.proofs.lemmas.List.Folds.{map_fixed}
use Rattle.std.proofs.lemmas.Simd.{map-map}
use Rattle.pw_info.specs.declared.info.Info.{Info}
use Rattle.pw_premises.specs.Premises.{Premises}
use Rattle.pw_cells.specs.Cells.{Store, told_in}
use Rattle.pw_decl.specs.Compound.{AreCompoundsAfter}
use Rattle.pw_decl.specs.Declaration.{Declared}
use Rattle.pw_decl.specs.WellDeclared.{IsWellDeclared}
use Rattle.pw_decl.proofs.FlatKept.{range_below}
use Rattle.pw_network.specs.Wiring.{Name, DeclaredCell, name_in}
use Rattle.pw_network.specs.Network.{Network, cells_in}
use Rattle.pw_settle.specs.Sources as sources
use Rattle.pw_settle.specs.Sources.{Names, Propagator, Source, source_renamed}
use Rattle.pw_settle.specs.Fixpoint.{AreNamesOf, AreOver, fixpoint, told_in_one, told_alone}
use Rattle.pw_settle.specs.Values as values
use Rattle.pw_settle.specs.Values.{kinds_in, numbered, numbers_of_cells, propagators_of, sources_in, told_sources, visible_instances}
use Rattle.pw_settle.proofs.FixpointLemmas.{fixpoint_wider}
use Rattle.pw_settle.proofs.Membership.{same_on}
use Rattle.pw_settle.proofs.MergedTells.{told_merged}
use Rattle.pw_settle.proofs.Renaming.{fixpoint_renamed}
use Rattle.pw_sessions.specs.Values.{is_visible, sources_after, value_by_name, cell_value, visible_in}
use Rattle.pw_sessions.specs.CellNames.{kind_by_name, named_cells, names_after}
use Rattle.pw_sessions.specs.Entries.{Entry, FitsDeclared, RiseFrom}
use Rattle.pw_sessions.specs.Workbench.{WasTold, network_after}
use Rattle.pw_sessions.proofs.EntriesRise.{FindsKinds, finds_kinds, rise_kept}
use Rattle.pw_sessions.proofs.NameMembers.{AreNamed, declared_named, inner_named, same_kinds}
use Rattle.pw_settle.proofs.Propagators.{propagators_name}
use Rattle.pw_sessions.proofs.NamedSources.{sources_named, sources_over}
use Rattle.pw_sessions.proofs.NamedNetworks.{IsNamedAfter, declared_here, named_after, visible_propagators, visible_stay}

-- ---- from the names of all entries to those of some

-- under the same names a source is unchanged
source_same : {C : Type 0} (source : Source C) → source_renamed (λ c. c) source ≡ source
source_same (sources.Told cell info) = refl
source_same (Propagator procedure inputs output) = ap (λ l. Propagator procedure l output) (map-id inputs)

-- what some entries say comes to the same over the names of all and over theirs
pub values_same : (d : Declared) (all some : List Entry) → length d.kinds ≡ length d.cells →
    ∥ AreCompoundsAfter d.procedures [] d.compounds ∥₁ →
    All (FitsDeclared d) some → All (FindsKinds d all) some → All (FindsKinds d some) some → All (AreNamed d all) some →
    (name : Name) → Contains (names_after d some) name →
    fixpoint (named_cells d all) (names_after d all) (sources_after d some) name ≡ value_by_name d some name
values_same d all some many steps fit finds also named name here =
    let said : List (Source Name) = sources_after d some in
    let wide : AreOver (named_cells d all) (names_after d all) said = sources_over d all many steps some fit finds named in
    let own : AreOver (named_cells d some) (names_after d some) said = sources_over d some many steps some fit also (inner_named d some) in
    let narrow : AreOver (named_cells d all) (names_after d some) said = record { fit = wide.fit; within = own.within } in
    let are : AreNamesOf (named_cells d all) (named_cells d some) (Contains (names_after d some)) (λ n. n) =
    record {
      apart = λ b c first second same. same;
      kinds = λ c is. All-contains (λ n. kind_by_name d some n ≡ kind_by_name d all n) (names_after d some) c
          (same_kinds d all some finds also) is;
    } in
    fixpoint_wider (named_cells d all) (names_after d all) (names_after d some) said wide narrow name
    ∙ sym (fixpoint_renamed (named_cells d all) (named_cells d some) (Contains (names_after d some)) (λ n. n) are said
    (sources_named d some some fit (inner_named d some)) (names_after d some) name here)
    ∙ (λ i. fixpoint (named_cells d some) (map-id (names_after d some) i)
    (map_fixed (source_renamed (λ n. n)) said (λ k e within. source_same _) i) name)

-- ---- from numbers to names

module _ (d : Declared) (well : IsWellDeclared d) (entries : List Entry) (fit : All (FitsDeclared d) entries) (rise : RiseFrom 0 entries)
    (w : Premises) where
  -- the visible entries, and what they say
  abbrev seen : List Entry
  seen = visible_in entries w

  abbrev said : List (Source Name)
  said = sources_after d seen

  -- what the visible entries say is over the names that all make
  pub seen_over : AreOver (named_cells d entries) (names_after d entries) said
  seen_over =
      sources_over d entries well.kinds well.steps seen (All-filter (is_visible w) (FitsDeclared d) entries fit)
      (All-filter (is_visible w) (FindsKinds d entries) entries (finds_kinds d 0 entries rise))
      (All-filter (is_visible w) (AreNamed d entries) entries (inner_named d entries))

  -- it comes to the value of a declared cell
  pub seen_value : (cell : ℕ) → cell < length d.cells →
      fixpoint (named_cells d entries) (names_after d entries) said (DeclaredCell cell) ≡ cell_value d seen cell
  seen_value cell here =
      values_same d entries seen well.kinds well.steps (All-filter (is_visible w) (FitsDeclared d) entries fit)
      (All-filter (is_visible w) (FindsKinds d entries) entries (finds_kinds d 0 entries rise))
      (finds_kinds d 0 seen (rise_kept (is_visible w) 0 entries rise))
      (All-filter (is_visible w) (AreNamed d entries) entries (inner_named d entries))
      (DeclaredCell cell) (declared_named d seen cell here)

module _ (d : Declared) (entries : List Entry) (network : Network) (named : IsNamedAfter d entries network) (w : Premises)
    (store : Store) (told : WasTold d entries network store) where
  -- the told information about a cell by its name
  abbrev told_named : Name → Info
  told_named = told_alone (named_cells d entries) (sources_after d (visible_in entries w))

  -- the names of the numbered cells, in their order
  names_by_number : map (name_in network) (numbers_of_cells (kinds_in network)) ≡ names_after d entries
  names_by_number = ap (λ (n : ℕ). map (name_in network) (range_with_len 0 n)) named.many ∙ named.names

  -- the numbers of the cells are below their number
  numbers_here : All (λ c. c < cells_in network) (numbers_of_cells (kinds_in network))
  numbers_here =
      let many = named.many in
      range_below (length (kinds_in network)) (cells_in network) (omega (arith, many))

  -- the names are names of the cells by number
  names_are : AreNamesOf (numbered (kinds_in network)) (named_cells d entries) (λ c. c < cells_in network) (name_in network)
  names_are = record { apart = named.apart; kinds = λ c here. sym (named.kinds c here) }

  -- what the store is told about the cells is told about them by name
  told_by_name : map (source_renamed (name_in network)) (told_sources store w (length (kinds_in network))) ≡
      map (λ name. sources.Told name (told_named name)) (names_after d entries)
  told_by_name =
      let name : ℕ → Name = name_in network in
      let numbers : List ℕ = numbers_of_cells (kinds_in network) in
      let by_number : ℕ → Source Name = λ c. sources.Told (name c) (told_in store c w) in
      let by_name : ℕ → Source Name = λ c. sources.Told (name c) (told_named (name c)) in
      map-map (source_renamed name) (λ c. sources.Told c (told_in store c w)) numbers
      ∙ same_on by_number by_name numbers
      (All-weaker (λ c. c < cells_in network) (λ c. by_number c ≡ by_name c) (λ c here. ap (sources.Told (name c)) (told c w here))
      numbers numbers_here)
      ∙ sym (map-map (λ n. sources.Told n (told_named n)) name numbers)
      ∙ ap (map (λ n. sources.Told n (told_named n))) names_by_number

  -- by name, the sources of the network are what the visible entries say, with the told facts in
  -- one piece
  sources_by_name : map (source_renamed (name_in network)) (sources_in network store w) ≡
      told_in_one (names_after d entries) told_named (sources_after d (visible_in entries w))
  sources_by_name =
      map-append (source_renamed (name_in network)) (told_sources store w (length (kinds_in network)))
      (propagators_of network.declared.procedures (visible_instances network.attached w))
      ∙ (λ i. told_by_name i ++ visible_propagators d entries network named w i)

  -- all of them are of cells that exist
  sources_here : All (Names (λ c. c < cells_in network)) (sources_in network store w)
  sources_here =
      All-append (Names (λ c. c < cells_in network)) (told_sources store w (length (kinds_in network)))
      (propagators_of network.declared.procedures (visible_instances network.attached w))
      (All-map (Names (λ c. c < cells_in network)) (λ c. sources.Told c (told_in store c w)) (numbers_of_cells (kinds_in network)) numbers_here)
      (propagators_name (λ c. c < cells_in network) network.declared.procedures (visible_instances network.attached w)
      (visible_stay d entries network named w))

  -- what settles at a cell follows at its name from what the visible entries say, with the told
  -- facts in one piece
  pub value_by_number : (cell : ℕ) → cell < cells_in network → values.value_in network store w cell ≡
      fixpoint (named_cells d entries) (names_after d entries)
      (told_in_one (names_after d entries) told_named (sources_after d (visible_in entries w))) (name_in network cell)
  value_by_number cell here =
      sym (fixpoint_renamed (numbered (kinds_in network)) (named_cells d entries) (λ c. c < cells_in network) (name_in network) names_are
      (sources_in network store w) sources_here (numbers_of_cells (kinds_in network)) cell here)
      ∙ (λ i. fixpoint (named_cells d entries) (names_by_number i) (sources_by_name i) (name_in network cell))

-- what settles at a declared cell of the network that entries make, from a store that was told what
-- they tell, is what follows from the visible entries
pub value_is : (d : Declared) (entries : List Entry) (network : Network) (store : Store) (w : Premises) (cell : ℕ) → IsWellDeclared d →
    All (FitsDeclared d) entries → RiseFrom 0 entries → network ≡ network_after d entries → WasTold d entries network store →
    cell < length d.cells → values.value_in network store w cell ≡ cell_value d (visible_in entries w) cell
value_is d entries network store w cell well fit rise is told here =
    let named : IsNamedAfter d entries network = named_after d entries network well fit rise is in
    let said : List (Source Name) = sources_after d (visible_in entries w) in
    let told_named : Name → Info = told_alone (named_cells d entries) said in
    value_by_number d entries network named w store told cell (declared_here d entries network named cell here)
    ∙ ap (fixpoint (named_cells d entries) (names_after d entries) (told_in_one (names_after d entries) told_named said))
    (named.first cell here)
    ∙ told_merged (named_cells d entries) (names_after d entries) said (seen_over d well entries fit rise w) told_named (λ c among. refl)
    (DeclaredCell cell)
    ∙ seen_value d well entries fit rise w cell here
