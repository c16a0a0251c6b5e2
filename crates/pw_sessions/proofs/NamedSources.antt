-- What entries say about cells by name: the propagators are those of their instances, they fit the
-- kinds, and all stays on the names.
use Rattle.std.proofs.Common.{◌≡◌, ℕ, ◌<◌, List, [], ◌∷◌, ◌++◌, Option, Some, filter, length, map, get_or, refl, sym, ap, subst, ◌∙◌, arith, All, Contains}
use Rattle.std.proofs.Math.Logic.{∥∥₁_map}
use Rattle.std.specs.Prelude.{slice_get}
use Rattle.std.specs.List.{cons_option, filter_map, flat_map, range_with_len}
use Rattle.std.proofs.lemmas.List.Elements.{All-cons, All-contains, All-head, All-map, All-nil, All-tail, All-weaker, filter-append, filter_map-append}
use Rattle.std.proofs.lemmas.Simd.{map-map}
use Rattle.std.proofs.lemmas.Option.{get_or_from_slice_get, slice_get-get_or}
use Rattle.pw_info.specs.declared.kind.Kind.{Kind}
use Rattle.pw_info.specs.declared.kind.Kind.TheVariants as kinds
use Rattle.pw_decl.specs.Compound.{AcceptsKinds, AreCompoundsAfter, kinds_at}
use Rattle.pw_decl.specs.Declaration.{Declared, kind_at}
use Rattle.pw_decl.specs.Expansion.{FitsCells, expansion_of, inner_kinds_of}
use Rattle.pw_decl.proofs.ExpansionFits.{expansion_fits, expansion_speaks}
use Rattle.pw_network.specs.Wiring.{DeclaredCell, InnerCellOf}
use Rattle.pw_settle.specs.Sources as sources
use Rattle.pw_settle.specs.Sources.{Fits, Names, cell_of, is_propagator}
use Rattle.pw_settle.specs.Values.{propagator_of, propagators_of}
use Rattle.pw_settle.specs.Fixpoint.{AreOver}
use Rattle.pw_settle.proofs.Membership.{contains_map}
use Rattle.pw_settle.proofs.Propagators.{names_cell, propagators_fit, propagators_name, propagators_only}
use Rattle.pw_sessions.specs.Values.{sources_after, sources_of}
use Rattle.pw_sessions.specs.CellNames.{kind_by_name, named_cells, names_after}
use Rattle.pw_sessions.specs.Entries.{Entry, Told, Attached, FitsDeclared}
use Rattle.pw_sessions.proofs.EntriesRise.{FindsKinds}
use Rattle.pw_settle.proofs.SettledValues.{contains_number}
use Rattle.pw_sessions.proofs.NameMembers.{AreNamed, all_flat, declared_named}
use Rattle.pw_sessions.proofs.NetworkInstances.{instances_of}

-- ---- instances as sources

-- of what an entry says, the propagators are those of its instances
own_propagators : (d : Declared) (entry : Entry) →
    filter is_propagator (sources_of d entry) ≡ propagators_of d.procedures (instances_of d entry)
own_propagators d (Told line cell fact) = refl
own_propagators d (Attached line callable cells support) =
    propagators_only d.procedures (instances_of d (Attached line callable cells support))

-- and of what entries say, those of theirs
pub propagators_after : (d : Declared) (entries : List Entry) →
    filter is_propagator (sources_after d entries) ≡ propagators_of d.procedures (flat_map (instances_of d) entries)
propagators_after d [] = refl
propagators_after d (entry ∷ entries) =
    filter-append is_propagator (sources_of d entry) (sources_after d entries)
    ∙ (λ i. own_propagators d entry i ++ propagators_after d entries i)
    ∙ sym (filter_map-append (propagator_of d.procedures) (instances_of d entry) (flat_map (instances_of d) entries))

-- ---- what entries say

-- if there is something of each
filter_map_each : {A B : Type 0} (f : A → Option B) (g : A → B) (xs : List A) → All (λ x. f x ≡ Some (g x)) xs →
    filter_map f xs ≡ map g xs
filter_map_each f g [] each = refl
filter_map_each f g (x ∷ xs) each =
    ap (λ o. cons_option o (filter_map f xs)) (All-head (λ z. f z ≡ Some (g z)) x xs each)
    ∙ ap (λ l. g x ∷ l) (filter_map_each f g xs (All-tail (λ z. f z ≡ Some (g z)) x xs each))

module _ (d : Declared) (all : List Entry) where
  -- the kinds of declared cells, found by name
  kinds_named : length d.kinds ≡ length d.cells → (cells : List ℕ) → All (λ cell. cell < length d.cells) cells →
      map (kind_by_name d all) (map DeclaredCell cells) ≡ kinds_at d.kinds cells
  kinds_named many cells here =
      map-map (kind_by_name d all) DeclaredCell cells
      ∙ sym (filter_map_each (slice_get d.kinds) (kind_at d) cells
      (All-weaker (λ cell. cell < length d.cells) (λ cell. slice_get d.kinds cell ≡ Some (kind_at d cell))
      (λ cell there. slice_get-get_or d.kinds cell kinds.Interval (omega (arith, many, there))) cells here))

  -- the instances of an entry that fits the declaration, and of which the kinds are found, fit the
  -- kinds of their names
  pub instances_fit : length d.kinds ≡ length d.cells → ∥ AreCompoundsAfter d.procedures [] d.compounds ∥₁ → (entry : Entry) →
      FitsDeclared d entry → FindsKinds d all entry →
      All (λ instance. ∥ FitsCells d.procedures (kind_by_name d all) instance ∥₁) (instances_of d entry)
  instances_fit many steps (Told line cell fact) fits finds =
      All-nil (λ instance. ∥ FitsCells d.procedures (kind_by_name d all) instance ∥₁)
  instances_fit many steps (Attached line callable cells support) fits finds =
      let own : List Kind = inner_kinds_of d.compounds callable in
      let fitted : ∥ All (FitsCells d.procedures (kind_by_name d all)) (instances_of d (Attached line callable cells support)) ∥₁ =
      ∥∥₁_map steps (λ are.
      expansion_fits d.procedures (kind_by_name d all) d.compounds callable (map DeclaredCell cells) (InnerCellOf line) are
      (subst (AcceptsKinds d.procedures d.compounds callable) (sym (kinds_named many cells fits.0)) fits.1)
      (λ j k at. ap (λ (l : List Kind). get_or l j kinds.Interval) finds ∙ get_or_from_slice_get own j k kinds.Interval at)) in
      λ k e within. ∥∥₁_map fitted (λ f. f k e within)

  -- and so do its sources
  sources_fit : length d.kinds ≡ length d.cells → ∥ AreCompoundsAfter d.procedures [] d.compounds ∥₁ → (entry : Entry) →
      FitsDeclared d entry → FindsKinds d all entry → All (Fits (named_cells d all)) (sources_of d entry)
  sources_fit many steps (Told line cell fact) fits finds =
      All-cons (Fits (named_cells d all)) (sources.Told (DeclaredCell cell) fact.info) [] fits.1 (All-nil (Fits (named_cells d all)))
  sources_fit many steps (Attached line callable cells support) fits finds =
      let entry : Entry = Attached line callable cells support in
      propagators_fit (named_cells d all) d.procedures (instances_of d entry) (instances_fit many steps entry fits finds)

  -- and if its inner cells are named, it mentions only these names
  sources_name : (entry : Entry) → FitsDeclared d entry → AreNamed d all entry →
      All (Names (Contains (names_after d all))) (sources_of d entry)
  sources_name (Told line cell fact) fits named =
      All-cons (Names (Contains (names_after d all))) (sources.Told (DeclaredCell cell) fact.info) []
      (declared_named d all cell fits.0) (All-nil (Names (Contains (names_after d all))))
  sources_name (Attached line callable cells support) fits named =
      let count : ℕ = length (inner_kinds_of d.compounds callable) in
      let numbers : List ℕ = range_with_len 0 count in
      propagators_name (Contains (names_after d all)) d.procedures
      (expansion_of d.compounds callable (map DeclaredCell cells) (InnerCellOf line))
      (expansion_speaks (Contains (names_after d all)) d.compounds callable (map DeclaredCell cells) (InnerCellOf line)
      (All-map (Contains (names_after d all)) DeclaredCell cells
      (All-weaker (λ cell. cell < length d.cells) (λ cell. Contains (names_after d all) (DeclaredCell cell)) (declared_named d all)
      cells fits.0))
      (λ j within. All-contains (Contains (names_after d all)) (map (InnerCellOf line) numbers) (InnerCellOf line j) named
      (contains_map (InnerCellOf line) numbers j (contains_number count j within))))

  -- and so it is with entries
  pub sources_named : (entries : List Entry) → All (FitsDeclared d) entries → All (AreNamed d all) entries →
      All (Names (Contains (names_after d all))) (sources_after d entries)
  sources_named entries fit named =
      all_flat (Names (Contains (names_after d all))) (sources_of d) entries
      (λ k e within. sources_name (get_or entries k e) (fit k e within) (named k e within))

  -- so what entries say is over the names
  pub sources_over : length d.kinds ≡ length d.cells → ∥ AreCompoundsAfter d.procedures [] d.compounds ∥₁ → (entries : List Entry) →
      All (FitsDeclared d) entries → All (FindsKinds d all) entries → All (AreNamed d all) entries →
      AreOver (named_cells d all) (names_after d all) (sources_after d entries)
  sources_over many steps entries fit finds named =
      record {
        fit = all_flat (Fits (named_cells d all)) (sources_of d) entries
            (λ k e within. sources_fit many steps (get_or entries k e) (fit k e within) (finds k e within));
        within = All-weaker (Names (Contains (names_after d all))) (λ source. Contains (names_after d all) (cell_of source))
            (names_cell (Contains (names_after d all))) (sources_after d entries) (sources_named entries fit named);
      }
