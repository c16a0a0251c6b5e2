-- Which cells of the network that entries make are written in a worldview, and what settles at the
-- other cells: the told facts.
use Rattle.std.proofs.Common.{◌≡◌, ℕ, ◌<◌, Bool, true, false, ◌&&◌, List, [], ◌∷◌, Option, Some, None, filter, length, map, get_or, nat_eq, refl, sym, ap, subst, ◌∙◌, inl, inr, All, Contains, eq-eqb}
use Rattle.std.proofs.Math.Logic.{∥∥₁_elim}
use Rattle.std.specs.Prelude.{slice_get}
use Rattle.std.specs.List.{cons_option, filter_map, flat_map, list_any}
use Rattle.std.specs.FinSet.{is_subset}
use Rattle.std.specs.Option.{option_map}
use Rattle.std.proofs.lemmas.Bool.{cases_Bool, and_cases, and_parts, both_ways, eqb-true, false_from_ne_true}
use Rattle.std.proofs.lemmas.List.Elements.{All-cons, All-contains, All-filter, All-map, All-nil, All-weaker, filter_passes}
use Rattle.std.proofs.lemmas.List.Folds.{Any-from_list_any, list_any_at}
use Rattle.std.proofs.lemmas.Option.{none-some, same_Some}
use Rattle.pw_info.specs.declared.kind.Kind.{Kind}
use Rattle.pw_premises.specs.Premises.{Premises}
use Rattle.pw_procs.specs.Procedure.{Procedure}
use Rattle.pw_cells.specs.Cells.{Store, told_in}
use Rattle.pw_decl.specs.Declaration.{Declared}
use Rattle.pw_decl.specs.Expansion.{FitsCells, Instance, SpeaksOf, renamed}
use Rattle.pw_decl.specs.WellDeclared.{IsWellDeclared}
use Rattle.pw_network.specs.Wiring.{Name, DeclaredCell, name_in}
use Rattle.pw_network.specs.Network.{Attached as AttachedInstance, Network, cells_in}
use Rattle.pw_settle.specs.Sources.{Propagator, Source, cell_of, is_propagator}
use Rattle.pw_settle.specs.Fixpoint.{AreOver, told_alone}
use Rattle.pw_settle.specs.Values as values
use Rattle.pw_settle.specs.Values.{propagator_of, propagators_of, visible_instances}
use Rattle.pw_settle.proofs.Membership.{contains_filter, contains_first, contains_map, contains_more, each_member}
use Rattle.pw_settle.proofs.MergedTells.{unwritten_told}
use Rattle.pw_sessions.specs.Values.{IsWritten, is_visible, sources_after, visible_in}
use Rattle.pw_sessions.specs.CellNames.{kind_by_name, named_cells, names_after}
use Rattle.pw_sessions.specs.Entries.{Entry, FitsDeclared, RiseFrom}
use Rattle.pw_sessions.specs.inside.Steps.{is_written}
use Rattle.pw_sessions.specs.Workbench.{WasTold, network_after}
use Rattle.pw_sessions.proofs.EntriesRise.{FindsKinds, finds_kinds}
use Rattle.pw_sessions.proofs.NameMembers.{all_flat}
use Rattle.pw_settle.proofs.Propagators.{propagator_outputs}
use Rattle.pw_sessions.proofs.NamedSources.{instances_fit, propagators_after}
use Rattle.pw_sessions.proofs.NamedNetworks.{IsNamedAfter, declared_here, named_after}
use Rattle.pw_sessions.proofs.NamedValues.{seen_over, seen_value, value_is}
use Rattle.pw_sessions.proofs.NetworkInstances.{instances_of}

-- ---- tests and lists

-- if no element passes, each fails
all_fail : {X : Type 0} (p : X → Bool) (xs : List X) → list_any p xs ≡ false → All (λ x. p x ≡ false) xs
all_fail p xs none k d within =
    false_from_ne_true (p (get_or xs k d)) (λ passes. both_ways (list_any p xs) none (list_any_at p xs k d within passes))

-- what is had from one of a list is among what is had from the list
had_with : {Y : Type 0} (o : Option Y) (rest : List Y) (y : Y) → o ≡ Some y → Contains (cons_option o rest) y
had_with None rest y is = absurd (none-some y is)
had_with {Y} (Some z) rest y is = subst (λ (x : Y). Contains (x ∷ rest) y) (sym (same_Some z y is)) (contains_first y rest)

-- and so is what is had from another
had_more : {Y : Type 0} (o : Option Y) (rest : List Y) (y : Y) → Contains rest y → Contains (cons_option o rest) y
had_more None rest y has = has
had_more (Some z) rest y has = contains_more z y rest has

-- of each of a list
all_had : {X Y : Type 0} (h : X → Option Y) (xs : List X) → All (λ x. (y : Y) → h x ≡ Some y → Contains (filter_map h xs) y) xs
all_had {X} {Y} h [] = All-nil (λ x. (y : Y) → h x ≡ Some y → Contains [] y)
all_had {X} {Y} h (x ∷ xs) =
    All-cons (λ z. (y : Y) → h z ≡ Some y → Contains (cons_option (h x) (filter_map h xs)) y) x xs
    (had_with (h x) (filter_map h xs))
    (All-weaker (λ z. (y : Y) → h z ≡ Some y → Contains (filter_map h xs) y)
    (λ z. (y : Y) → h z ≡ Some y → Contains (cons_option (h x) (filter_map h xs)) y)
    (λ z has y is. had_more (h x) (filter_map h xs) y (has y is)) xs (all_had h xs))

-- an instance that fits has a procedure
has_procedure : {C : Type 0} (procedures : List Procedure) (kind : C → Kind) (instance : Instance C) (found : Option Procedure) →
    slice_get procedures instance.procedure ≡ found → ∥ FitsCells procedures kind instance ∥₁ →
    (procedure : Procedure) × (slice_get procedures instance.procedure ≡ Some procedure)
has_procedure procedures kind instance None is fits = absurd (∥∥₁_elim fits (hlevel) (λ f. none-some f.0 (sym is ∙ f.1)))
has_procedure procedures kind instance (Some procedure) is fits = (procedure, is)

-- so it is among the propagators of its list
is_among : {C : Type 0} (procedures : List Procedure) (kind : C → Kind) (instances : List (Instance C)) (instance : Instance C) →
    All (λ i. ∥ FitsCells procedures kind i ∥₁) instances → Contains instances instance →
    Contains (map cell_of (propagators_of procedures instances)) instance.output
is_among {C} procedures kind instances instance fit has =
    let found = has_procedure procedures kind instance (slice_get procedures instance.procedure) refl
    (All-contains (λ i. ∥ FitsCells procedures kind i ∥₁) instances instance fit has) in
    let source : Source C = Propagator found.0 instance.inputs instance.output in
    contains_map cell_of (propagators_of procedures instances) source
    (All-contains (λ i. (s : Source C) → propagator_of procedures i ≡ Some s → Contains (propagators_of procedures instances) s)
    instances instance (all_had (propagator_of procedures) instances) has source
    (ap (option_map (λ procedure. Propagator procedure instance.inputs instance.output)) found.1))

-- ---- written cells

module _ (d : Declared) (well : IsWellDeclared d) (entries : List Entry) (fit : All (FitsDeclared d) entries) (rise : RiseFrom 0 entries)
    (network : Network) (named : IsNamedAfter d entries network) (w : Premises) where
  -- the visible entries
  abbrev seen : List Entry
  seen = visible_in entries w

  -- an attached instance is visible
  abbrev is_shown : AttachedInstance → Bool
  is_shown attached = is_subset attached.support w

  -- and writes the cell
  abbrev writes : ℕ → AttachedInstance → Bool
  writes cell attached = nat_eq attached.instance.output cell && is_subset attached.support w

  -- the visible instances
  abbrev shown : List (Instance ℕ)
  shown = visible_instances network.attached w

  -- an instance of the visible entries fits the kinds of its names
  shown_fit : All (λ instance. ∥ FitsCells d.procedures (kind_by_name d entries) instance ∥₁) (flat_map (instances_of d) seen)
  shown_fit =
      let fitting = All-filter (is_visible w) (FitsDeclared d) entries fit in
      let found = All-filter (is_visible w) (FindsKinds d entries) entries (finds_kinds d 0 entries rise) in
      all_flat (λ instance. ∥ FitsCells d.procedures (kind_by_name d entries) instance ∥₁) (instances_of d) seen
      (λ k e within. instances_fit d entries well.kinds well.steps (get_or seen k e) (fitting k e within) (found k e within))

  -- a declared cell that a visible instance writes is written by the visible entries
  written_after : (cell : ℕ) → cell < length d.cells → is_written network.attached cell w ≡ true → IsWritten d seen cell
  written_after cell here written =
      let found = Any-from_list_any (writes cell) network.attached written in
      let attached : AttachedInstance = found.1 in
      let instance : Instance ℕ = attached.instance in
      let both = and_parts (nat_eq instance.output cell) (is_subset attached.support w) found.4 in
      let kept : Contains (filter is_shown network.attached) attached =
      contains_filter is_shown network.attached attached both.1 (found.0, found.2, found.3) in
      let visible : Contains shown instance =
      contains_map (λ (a : AttachedInstance). a.instance) (filter is_shown network.attached) attached kept in
      let there : Contains (flat_map (instances_of d) seen) (renamed (name_in network) instance) =
      subst (λ (l : List (Instance Name)). Contains l (renamed (name_in network) instance)) (named.instances w)
      (contains_map (renamed (name_in network)) shown instance visible) in
      let among : Contains (map cell_of (propagators_of d.procedures (flat_map (instances_of d) seen))) (name_in network instance.output) =
      is_among d.procedures (kind_by_name d entries) (flat_map (instances_of d) seen) (renamed (name_in network) instance)
      shown_fit there in
      let output : name_in network instance.output ≡ DeclaredCell cell =
      ap (name_in network) (eqb-true instance.output cell both.0) ∙ named.first cell here in
      subst (Contains (map cell_of (filter is_propagator (sources_after d seen)))) output
      (subst (λ (l : List (Source Name)). Contains (map cell_of l) (name_in network instance.output))
      (sym (propagators_after d seen)) among)

  -- an instance that is visible and does not write the cell has another name for its output
  other_output : (cell : ℕ) → cell < length d.cells → (attached : AttachedInstance) →
      SpeaksOf (λ c. c < cells_in network) attached.instance → is_shown attached ≡ true → writes cell attached ≡ false → name_in network attached.instance.output ≡ DeclaredCell cell → ⊥
  other_output cell here attached speaks visible not_it same =
      let is : attached.instance.output ≡ cell =
      named.apart attached.instance.output cell speaks.1 (declared_here d entries network named cell here)
      (same ∙ sym (named.first cell here)) in
      elim (and_cases (nat_eq attached.instance.output cell) (is_subset attached.support w) not_it) [
        | inl differs ↦ both_ways (nat_eq attached.instance.output cell) differs (eq-eqb attached.instance.output cell is)
        | inr hidden ↦ both_ways (is_subset attached.support w) hidden visible
      ]

  -- if no visible instance writes a declared cell, the propagators of the visible entries have
  -- other outputs
  other_outputs : (cell : ℕ) → cell < length d.cells → is_written network.attached cell w ≡ false →
      All (λ (s : Source Name). cell_of s ≡ DeclaredCell cell → ⊥) (filter is_propagator (sources_after d seen))
  other_outputs cell here unwritten =
      let IsOther : Name → Type 0 = λ name. name ≡ DeclaredCell cell → ⊥ in
      let kept : List AttachedInstance = filter is_shown network.attached in
      let stay : All (λ (a : AttachedInstance). SpeaksOf (λ c. c < cells_in network) a.instance) kept =
      All-filter is_shown (λ (a : AttachedInstance). SpeaksOf (λ c. c < cells_in network) a.instance) network.attached named.stay in
      let fail : All (λ (a : AttachedInstance). writes cell a ≡ false) kept =
      All-filter is_shown (λ (a : AttachedInstance). writes cell a ≡ false) network.attached
      (all_fail (writes cell) network.attached unwritten) in
      let pass : All (λ (a : AttachedInstance). is_shown a ≡ true) kept = filter_passes is_shown network.attached in
      let outputs : All (λ (i : Instance Name). IsOther i.output) (map (renamed (name_in network)) shown) =
      All-map (λ (i : Instance Name). IsOther i.output) (renamed (name_in network)) shown
      (All-map (λ (i : Instance ℕ). IsOther (name_in network i.output)) (λ (a : AttachedInstance). a.instance) kept
      (λ k e within. other_output cell here (get_or kept k e) (stay k e within) (pass k e within) (fail k e within))) in
      subst (All (λ (s : Source Name). IsOther (cell_of s))) (sym (propagators_after d seen))
      (propagator_outputs IsOther d.procedures (flat_map (instances_of d) seen)
      (subst (All (λ (i : Instance Name). IsOther i.output)) (named.instances w) outputs))

  -- so it is written by no visible entry
  unwritten_after : (cell : ℕ) → cell < length d.cells → is_written network.attached cell w ≡ false →
      All (λ source. cell_of source ≡ DeclaredCell cell → is_propagator source ≡ true → ⊥) (sources_after d seen)
  unwritten_after cell here unwritten =
      each_member (λ source. cell_of source ≡ DeclaredCell cell → is_propagator source ≡ true → ⊥) (sources_after d seen)
      (λ source has same passes.
      All-contains (λ (s : Source Name). cell_of s ≡ DeclaredCell cell → ⊥) (filter is_propagator (sources_after d seen)) source
      (other_outputs cell here unwritten) (contains_filter is_propagator (sources_after d seen) source passes has) same)

  -- and if one of them writes it, a visible instance does
  written_before : (cell : ℕ) → cell < length d.cells → IsWritten d seen cell → is_written network.attached cell w ≡ true
  written_before cell here written =
      elim (cases_Bool (is_written network.attached cell w)) [
        | inl is ↦ is
        | inr not ↦
            absurd (All-contains (λ (name : Name). name ≡ DeclaredCell cell → ⊥) (map cell_of (filter is_propagator (sources_after d seen))) (DeclaredCell cell)
            (All-map (λ (name : Name). name ≡ DeclaredCell cell → ⊥) cell_of (filter is_propagator (sources_after d seen)) (other_outputs cell here not))
            written refl)
      ]

-- if an instance of the network that is visible in a worldview writes a declared cell, one of the
-- visible entries does
pub written_is : (d : Declared) (entries : List Entry) (network : Network) (w : Premises) (cell : ℕ) → IsWellDeclared d →
    All (FitsDeclared d) entries → RiseFrom 0 entries → network ≡ network_after d entries → cell < length d.cells →
    is_written network.attached cell w ≡ true → IsWritten d (visible_in entries w) cell
written_is d entries network w cell well fit rise is here written =
    written_after d well entries fit rise network (named_after d entries network well fit rise is) w cell here written

-- and if one of the visible entries does, so does an instance
pub is_written-from : (d : Declared) (entries : List Entry) (network : Network) (w : Premises) (cell : ℕ) → IsWellDeclared d →
    All (FitsDeclared d) entries → RiseFrom 0 entries → network ≡ network_after d entries → cell < length d.cells →
    IsWritten d (visible_in entries w) cell → is_written network.attached cell w ≡ true
is_written-from d entries network w cell well fit rise is here written =
    written_before d well entries fit rise network (named_after d entries network well fit rise is) w cell here written

-- if none writes it, what settles there is what the store is told
pub unwritten_is : (d : Declared) (entries : List Entry) (network : Network) (store : Store) (w : Premises) (cell : ℕ) → IsWellDeclared d →
    All (FitsDeclared d) entries → RiseFrom 0 entries → network ≡ network_after d entries → WasTold d entries network store →
    cell < length d.cells → is_written network.attached cell w ≡ false → told_in store cell w ≡ values.value_in network store w cell
unwritten_is d entries network store w cell well fit rise is told here unwritten =
    let named : IsNamedAfter d entries network = named_after d entries network well fit rise is in
    let said : List (Source Name) = sources_after d (visible_in entries w) in
    let over : AreOver (named_cells d entries) (names_after d entries) said = seen_over d well entries fit rise w in
    told cell w (declared_here d entries network named cell here)
    ∙ ap (told_alone (named_cells d entries) said) (named.first cell here)
    ∙ sym (unwritten_told (named_cells d entries) said over.fit (DeclaredCell cell)
    (unwritten_after d well entries fit rise network named w cell here unwritten) (names_after d entries) over)
    ∙ seen_value d well entries fit rise w cell here
    ∙ sym (value_is d entries network store w cell well fit rise is told here)
