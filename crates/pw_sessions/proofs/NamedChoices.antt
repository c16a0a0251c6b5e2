-- The choice that settles in the network is the choice from the visible entries by name.
use Rattle.std.proofs.Common.{◌≡◌, ℕ, ◌<◌, Bool, true, false, inl, inr, List, [], ◌∷◌, ◌++◌, Some, None, cond, length, map, not, refl, sym, ap, subst, ◌∙◌, All, Contains}
use Rattle.std.specs.List.{find, flat_map, list_any, range_with_len}
use Rattle.std.proofs.lemmas.Bool.{cases_Bool}
use Rattle.std.proofs.lemmas.List.Elements.{All-head, All-tail, Contains-append_cases, Contains-append_left}
use Rattle.std.proofs.lemmas.List.Folds.{Any-from_list_any}
use Rattle.pw_premises.specs.Premises.{Premises}
use Rattle.pw_cells.specs.Cells.{Store}
use Rattle.pw_decl.specs.Declaration.{Declared}
use Rattle.pw_decl.specs.WellDeclared.{IsWellDeclared}
use Rattle.pw_network.specs.Wiring.{Name, DeclaredCell, name_in}
use Rattle.pw_network.specs.Network.{Network, cells_in}
use Rattle.pw_settle.specs.Values as values
use Rattle.pw_reasons.specs.Choice.{IsConsistent, IsFirstConsistent}
use Rattle.pw_reasons.specs.Combinations.{combinations_of, worldview_of, worldviews_of}
use Rattle.pw_reasons.specs.Nogood.{AreNogoods, IsNogood}
use Rattle.pw_reasons.specs.SameInfo.{is_contradiction}
use Rattle.pw_reasons.proofs.SameInfoLemmas.{contradiction_is}
use Rattle.pw_sessions.specs.CellNames.{inner_names_of, names_after}
use Rattle.pw_sessions.specs.Choosing.{chosen_in, is_consistent}
use Rattle.pw_sessions.specs.Entries.{Entry, FitsDeclared, RiseFrom}
use Rattle.pw_sessions.specs.Values.{value_by_name, visible_in}
use Rattle.pw_sessions.specs.Workbench.{WasTold, network_after}
use Rattle.pw_sessions.proofs.ListMembers.{any_member, member_of_one}
use Rattle.pw_sessions.proofs.NamedConflicts.{cell_called, cell_named, clash_named, clashes, value_shown}
use Rattle.pw_sessions.proofs.NamedNetworks.{IsNamedAfter, named_after}

-- ---- what a search finds

-- if what is made of each fails, nothing is found
none_found : {X W : Type 0} (p : W → Bool) (f : X → W) (Fails : W → Type 0) → ((w : W) → Fails w → p w ≡ false) → (xs : List X) →
    All Fails (map f xs) → find (λ x. p (f x)) xs ≡ None
none_found p f Fails fails [] all = refl
none_found p f Fails fails (x ∷ xs) all =
    ap (λ b. cond b (Some x) (find (λ y. p (f y)) xs)) (fails (f x) (All-head Fails (f x) (map f xs) all))
    ∙ none_found p f Fails fails xs (All-tail Fails (f x) (map f xs) all)

-- if one passes, and what is made of each earlier one fails, it is found
first_found : {X W : Type 0} (p : W → Bool) (f : X → W) (Fails : W → Type 0) → ((w : W) → Fails w → p w ≡ false) → (earlier later : List X) (x : X) →
    All Fails (map f earlier) → p (f x) ≡ true → find (λ y. p (f y)) (earlier ++ x ∷ later) ≡ Some x
first_found p f Fails fails [] later x all passes = ap (λ b. cond b (Some x) (find (λ y. p (f y)) later)) passes
first_found p f Fails fails (first ∷ earlier) later x all passes =
    ap (λ b. cond b (Some first) (find (λ y. p (f y)) (earlier ++ x ∷ later))) (fails (f first) (All-head Fails (f first) (map f earlier) all))
    ∙ first_found p f Fails fails earlier later x (All-tail Fails (f first) (map f earlier) all) passes

module _ (d : Declared) (entries : List Entry) (network : Network) (store : Store) (well : IsWellDeclared d)
    (fit : All (FitsDeclared d) entries) (rise : RiseFrom 0 entries) (is : network ≡ network_after d entries)
    (told : WasTold d entries network store) where
  named : IsNamedAfter d entries network
  named = named_after d entries network well fit rise is

  -- ---- what is contradictory

  module _ (w : Premises) where
    -- each cell that the visible entries name is one of the network's
    cell_of_name : (name : Name) → Contains (names_after d (visible_in entries w)) name →
        (cell : ℕ) × (cell < cells_in network) × (name_in network cell ≡ name)
    cell_of_name name has =
        let shown : List Entry = visible_in entries w in
        let declared : List Name = map DeclaredCell (range_with_len 0 (length d.cells)) in
        elim (Contains-append_cases declared (flat_map (inner_names_of d) shown) name has) [
          | inl own ↦
              cell_called d entries network store w well fit rise named told name
              (Contains-append_left declared (flat_map (inner_names_of d) entries) name own)
          | inr inner ↦
              let made = member_of_one (inner_names_of d) shown name inner in
              cell_named d entries network store w well fit rise named told made.0 name made.1 made.2
        ]

    -- premises that contradict themselves are not consistent
    nogood_named : IsNogood network store w → is_consistent d entries w ≡ false
    nogood_named nogood =
        let shown : List Entry = visible_in entries w in
        let clash : is_contradiction (values.value_in network store w nogood.cell) ≡ true =
        (contradiction_is (values.value_in network store w nogood.cell)).1 nogood.contradictory in
        let among : Contains (names_after d shown) (name_in network nogood.cell) =
        clash_named d entries network store w well fit rise named told nogood.cell nogood.here clash in
        ap not (any_member (clashes d entries network store w well fit rise named told) (names_after d shown) (name_in network nogood.cell) among
        (ap is_contradiction (sym (value_shown d entries network store w well fit rise named told nogood.cell nogood.here among)) ∙ clash))

    -- and others are
    consistent_named : IsConsistent network store w → is_consistent d entries w ≡ true
    consistent_named consistent =
        let shown : List Entry = visible_in entries w in
        let clash : Name → Bool = λ name. is_contradiction (value_by_name d shown name) in
        elim (cases_Bool (list_any clash (names_after d shown))) [
          | inl some ↦
              let any = Any-from_list_any clash (names_after d shown) some in
              let among : Contains (names_after d shown) any.1 = (any.0, any.2, any.3) in
              let found = cell_of_name any.1 among in
              absurd (consistent (record {
                cell = found.0;
                here = found.1;
                contradictory = (contradiction_is (values.value_in network store w found.0)).0
                    (ap is_contradiction (value_shown d entries network store w well fit rise named told found.0 found.1
                    (subst (Contains (names_after d shown)) (sym found.2) among))
                    ∙ ap clash found.2 ∙ any.4);
              }))
          | inr none ↦ ap not none
        ]

  -- ---- the choice

  -- the first consistent combination is the one that is chosen
  pub chosen_named : (beliefs : Premises) (groups : List (List ℕ)) (taken : List ℕ) → IsFirstConsistent network store beliefs groups taken →
      chosen_in d entries beliefs groups ≡ Some taken
  chosen_named beliefs groups taken first =
      ap (find (λ one. is_consistent d entries (worldview_of beliefs groups one))) first.order
      ∙ first_found (is_consistent d entries) (worldview_of beliefs groups) (IsNogood network store) nogood_named first.earlier first.later taken
      first.nogoods (consistent_named (worldview_of beliefs groups taken) first.consistent)

  -- if each contradicts itself, none is
  pub none_named : (beliefs : Premises) (groups : List (List ℕ)) → AreNogoods network store (worldviews_of beliefs groups) →
      chosen_in d entries beliefs groups ≡ None
  none_named beliefs groups nogoods =
      none_found (is_consistent d entries) (worldview_of beliefs groups) (IsNogood network store) nogood_named (combinations_of groups) nogoods
