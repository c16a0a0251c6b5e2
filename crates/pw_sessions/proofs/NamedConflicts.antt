-- What settles in the network that entries make lists the conflicts that the visible entries have
-- by name.
use Rattle.std.proofs.Common.{◌≡◌, ℕ, ◌<◌, Bool, true, false, inl, inr, List, [], ◌∷◌, Option, Some, None, filter, fold, length, map, not, refl, sym, ap, subst, ◌∙◌, arith, All, Contains}
use Rattle.std.specs.Prelude.{if◌then◌else◌}
use Rattle.std.specs.List.{AllPairs, flat_map, range_with_len}
use Rattle.std.proofs.lemmas.Bool.{cases_Bool, false_from_ne_true}
use Rattle.std.proofs.lemmas.Bool.Decides.{not_from_Decides}
use Rattle.std.proofs.lemmas.List.Elements.{All-cons, All-contains, All-filter, All-head, All-nil, All-tail, All-weaker, Contains-append_cases}
use Rattle.std.proofs.lemmas.List.Folds.{Any-from_list_any}
use Rattle.std.proofs.lemmas.List.Kept.{AllPairs-cons}
use Rattle.std.proofs.lemmas.Map.Made.{is_member-Decides}
use Rattle.std.specs.Set.{is_member}
use Rattle.pw_info.specs.declared.info.Info.{Info}
use Rattle.pw_info.specs.Information.{meet, nothing}
use Rattle.pw_premises.specs.Premises.{Premises}
use Rattle.pw_cells.specs.Cells.{Store}
use Rattle.pw_decl.specs.Declaration.{Declared}
use Rattle.pw_decl.specs.Expansion.{inner_kinds_of}
use Rattle.pw_decl.specs.WellDeclared.{IsWellDeclared}
use Rattle.pw_decl.proofs.FlatKept.{range_below}
use Rattle.pw_network.specs.Wiring.{Name, DeclaredCell, InnerCellOf, name_from, name_in}
use Rattle.pw_network.specs.Network.{Network, cells_in, origin_in}
use Rattle.pw_settle.specs.Sources.{Cells, Source, cell_of, is_propagator, said_by}
use Rattle.pw_settle.specs.Fixpoint.{AreOver, fixpoint, unknown_at, told_alone, with_source}
use Rattle.pw_settle.specs.Values as values
use Rattle.pw_settle.proofs.Membership.{contains_filter, contains_map}
use Rattle.pw_settle.proofs.MergedTells.{told_merged, unwritten_told}
use Rattle.pw_reasons.specs.Conflicts.{AreConflicts, Conflicts, HasConflict}
use Rattle.pw_reasons.specs.SameInfo.{is_contradiction}
use Rattle.pw_reasons.proofs.ConflictLemmas.{nothing_is_possible, same_passing}
use Rattle.pw_sessions.specs.Answer.{conflicts_of, has_conflict}
use Rattle.pw_sessions.specs.Values.{is_visible, sources_after, value_by_name, cell_value, visible_in}
use Rattle.pw_sessions.specs.CellNames.{inner_names_of, kind_by_name, named_cells, names_after, same_name, same_name_decides}
use Rattle.pw_sessions.specs.Entries.{Entry, Told, Attached, FitsDeclared, RiseFrom, line_of}
use Rattle.pw_sessions.specs.Workbench.{WasTold, network_after}
use Rattle.pw_sessions.proofs.EntriesRise.{FindsKinds, finds_kinds, rise_kept, rise_lower}
use Rattle.pw_sessions.proofs.ListMembers.{any_member, member_kept, member_mapped, member_of_one, none_of_none, same_rising}
use Rattle.pw_sessions.proofs.NameMembers.{AreNamed, inner_named}
use Rattle.pw_sessions.proofs.NamedNetworks.{IsNamedAfter, named_after}
use Rattle.pw_sessions.proofs.NamedSources.{sources_over}
use Rattle.pw_sessions.proofs.NamedValues.{seen_over, value_by_number, value_is, values_same}

-- ---- a cell of which nothing is said

module _ {C : Type 0} (cells : Cells C) (c : C) where
  -- sources of other cells leave an information about this cell unchanged
  others_leave : (known : C → Info) (info : Info) (sources : List (Source C)) → All (λ s. cell_of s ≡ c → ⊥) sources →
      fold (with_source cells known c) info sources ≡ info
  others_leave known info [] others = refl
  others_leave known info (source ∷ sources) others =
      let differs : cells.same (cell_of source) c ≡ false =
      false_from_ne_true (cells.same (cell_of source) c)
      (λ same. All-head (λ s. cell_of s ≡ c → ⊥) source sources others ((cells.decides (cell_of source) c).0 same)) in
      ap (λ (b : Bool). fold (with_source cells known c) (if b then meet info (said_by known source) else info) sources) differs
      ∙ others_leave known info sources (All-tail (λ s. cell_of s ≡ c → ⊥) source sources others)

  -- so if no source informs the cell, nothing follows of it
  nothing_follows : (over : List C) (sources : List (Source C)) → AreOver cells over sources →
      All (λ s. cell_of s ≡ c → ⊥) sources → fixpoint cells over sources c ≡ nothing (cells.kind c)
  nothing_follows over sources are others =
      unwritten_told cells sources are.fit c
      (All-weaker (λ s. cell_of s ≡ c → ⊥) (λ s. cell_of s ≡ c → is_propagator s ≡ true → ⊥)
      (λ s other same passes. other same) sources others)
      over are
      ∙ others_leave (unknown_at cells) (nothing (cells.kind c)) (filter (λ s. not (is_propagator s)) sources)
      (All-filter (λ s. not (is_propagator s)) (λ s. cell_of s ≡ c → ⊥) sources others)

-- ---- names of inner cells

-- a cell that is called by a line comes from there
origin_from : (cell : ℕ) (origin : Option (ℕ × ℕ)) (line number : ℕ) → name_from cell origin ≡ InnerCellOf line number →
    ◌≡◌ {A = Option (ℕ × ℕ)} origin (Some (line, number))
origin_from cell None line number is = absurd (cc)
origin_from cell (Some (at, place)) line number is =
    let lines : at ≡ line = cc in
    let numbers : place ≡ number = cc in
    λ i. Some (lines i, numbers i)

-- an inner cell of an entry is called by its line
inner_number : (d : Declared) (entry : Entry) (name : Name) → Contains (inner_names_of d entry) name →
    (number : ℕ) × (name ≡ InnerCellOf (line_of entry) number)
inner_number d (Told line cell fact) name has = absurd (none_of_none name has)
inner_number d (Attached line callable cells support) name has =
    let found = member_mapped (InnerCellOf line) (range_with_len 0 (length (inner_kinds_of d.compounds callable))) name has in
    (found.0, sym found.2)

-- one that is called by a line is of an entry of that line
same_line : (d : Declared) (entry : Entry) (line number : ℕ) → Contains (inner_names_of d entry) (InnerCellOf line number) →
    line_of entry ≡ line
same_line d entry line number has =
    let found = inner_number d entry (InnerCellOf line number) has in
    let names : InnerCellOf line number ≡ InnerCellOf (line_of entry) found.0 = found.1 in
    let same : line ≡ line_of entry = cc in
    sym same

-- if entries name an inner cell, one of them made it
made_by : (d : Declared) (entries : List Entry) (line number : ℕ) → Contains (names_after d entries) (InnerCellOf line number) →
    (entry : Entry) × Contains entries entry × Contains (inner_names_of d entry) (InnerCellOf line number)
made_by d entries line number has =
    let numbers : List ℕ = range_with_len 0 (length d.cells) in
    let name : Name = InnerCellOf line number in
    elim (Contains-append_cases (map DeclaredCell numbers) (flat_map (inner_names_of d) entries) name has) [
      | inl declared ↦
          let found = member_mapped DeclaredCell numbers name declared in
          let wrong : DeclaredCell found.0 ≡ InnerCellOf line number = found.2 in
          absurd (cc)
      | inr inner ↦ member_of_one (inner_names_of d) entries name inner
    ]

-- ---- lines of entries

lines_above : (line : ℕ) (entries : List Entry) → RiseFrom line entries → All (λ n. line < n) (map line_of entries)
lines_above line [] rise = All-nil (λ n. line < n)
lines_above line (entry ∷ entries) rise =
    All-cons (λ n. line < n) (line_of entry) (map line_of entries) rise.0
    (lines_above line entries (rise_lower line (line_of entry) entries (omega (arith, rise.0)) rise.1))

-- the lines of entries that rise do
lines_rise : (line : ℕ) (entries : List Entry) → RiseFrom line entries → AllPairs (λ m n. m < n) (map line_of entries)
lines_rise line [] rise = λ i j d below within. absurd (omega (arith, within))
lines_rise line (entry ∷ entries) rise =
    AllPairs-cons (λ m n. m < n) (line_of entry) (map line_of entries) (lines_above (line_of entry) entries rise.1)
    (lines_rise (line_of entry) entries rise.1)

-- ---- from numbers to names

module _ (d : Declared) (entries : List Entry) (network : Network) (store : Store) (w : Premises) (well : IsWellDeclared d)
    (fit : All (FitsDeclared d) entries) (rise : RiseFrom 0 entries) (named : IsNamedAfter d entries network)
    (told : WasTold d entries network store) where
  -- the visible entries, and what they say
  abbrev pub shown : List Entry
  shown = visible_in entries w

  abbrev said : List (Source Name)
  said = sources_after d shown

  -- the value of a cell by its number
  abbrev pub value : ℕ → Info
  value = values.value_in network store w

  -- a value of the visible entries by name is a contradiction
  abbrev pub clashes : Name → Bool
  clashes name = is_contradiction (value_by_name d shown name)

  shown_fit : All (FitsDeclared d) shown
  shown_fit = All-filter (is_visible w) (FitsDeclared d) entries fit

  shown_find : All (FindsKinds d shown) shown
  shown_find = finds_kinds d 0 shown (rise_kept (is_visible w) 0 entries rise)

  -- the value of a cell is what follows at its name from what the visible entries say
  value_follows : (cell : ℕ) → cell < cells_in network →
      value cell ≡ fixpoint (named_cells d entries) (names_after d entries) said (name_in network cell)
  value_follows cell here =
      value_by_number d entries network named w store told cell here
      ∙ told_merged (named_cells d entries) (names_after d entries) said (seen_over d well entries fit rise w)
      (told_alone (named_cells d entries) said) (λ c among. refl) (name_in network cell)

  -- if the visible entries name it, this is their value by name
  pub value_shown : (cell : ℕ) → cell < cells_in network → Contains (names_after d shown) (name_in network cell) →
      value cell ≡ value_by_name d shown (name_in network cell)
  value_shown cell here among =
      value_follows cell here
      ∙ values_same d entries shown well.kinds well.steps shown_fit
      (All-filter (is_visible w) (FindsKinds d entries) entries (finds_kinds d 0 entries rise)) shown_find
      (All-filter (is_visible w) (AreNamed d entries) entries (inner_named d entries)) (name_in network cell) among

  -- and if they do not, nothing is known about it
  value_hidden : (cell : ℕ) → cell < cells_in network → (Contains (names_after d shown) (name_in network cell) → ⊥) →
      value cell ≡ nothing (kind_by_name d entries (name_in network cell))
  value_hidden cell here hidden =
      let own : AreOver (named_cells d shown) (names_after d shown) said =
      sources_over d shown well.kinds well.steps shown shown_fit shown_find (inner_named d shown) in
      value_follows cell here
      ∙ nothing_follows (named_cells d entries) (name_in network cell) (names_after d entries) said
      (seen_over d well entries fit rise w)
      (All-weaker (λ s. Contains (names_after d shown) (cell_of s)) (λ s. cell_of s ≡ name_in network cell → ⊥)
      (λ s among same. hidden (subst (Contains (names_after d shown)) same among)) said own.within)

  -- so a cell whose value is a contradiction is named by the visible entries
  pub clash_named : (cell : ℕ) → cell < cells_in network → is_contradiction (value cell) ≡ true →
      Contains (names_after d shown) (name_in network cell)
  clash_named cell here clash =
      let among : Bool = is_member same_name (names_after d shown) (name_in network cell) in
      let decides = is_member-Decides same_name_decides (names_after d shown) (name_in network cell) in
      elim (cases_Bool among) [
        | inl there ↦ decides.0 there
        | inr not_there ↦
            absurd (nothing_is_possible (kind_by_name d entries (name_in network cell))
            (ap is_contradiction (sym (value_hidden cell here (not_from_Decides among decides not_there))) ∙ clash))
      ]

  -- ---- the lines with a conflict

  -- by number first
  line_listed : (line : ℕ) → HasConflict network value line → Contains (map line_of (filter (has_conflict d shown) shown)) line
  line_listed line has =
      let name : name_in network has.cell ≡ InnerCellOf line has.number = ap (name_from has.cell) has.origin in
      let among : Contains (names_after d shown) (name_in network has.cell) = clash_named has.cell has.here has.contradictory in
      let found = made_by d shown line has.number (subst (Contains (names_after d shown)) name among) in
      let clash : clashes (InnerCellOf line has.number) ≡ true =
      ap clashes (sym name) ∙ ap is_contradiction (sym (value_shown has.cell has.here among)) ∙ has.contradictory in
      let conflict : has_conflict d shown found.0 ≡ true =
      any_member clashes (inner_names_of d found.0) (InnerCellOf line has.number) found.2 clash in
      subst (Contains (map line_of (filter (has_conflict d shown) shown))) (same_line d found.0 line has.number found.2)
      (contains_map line_of (filter (has_conflict d shown) shown) found.0
      (contains_filter (has_conflict d shown) shown found.0 conflict found.1))

  -- each cell that entries name is one of the network's
  pub cell_called : (name : Name) → Contains (names_after d entries) name →
      (cell : ℕ) × (cell < cells_in network) × (name_in network cell ≡ name)
  cell_called name among =
      let numbers : List ℕ = range_with_len 0 (cells_in network) in
      let below : All (λ c. c < cells_in network) numbers = range_below (cells_in network) (cells_in network) (omega arith) in
      let found =
      member_mapped (name_in network) numbers name (subst (λ (l : List Name). Contains l name) (sym named.names) among) in
      (found.0, All-contains (λ c. c < cells_in network) numbers found.0 below found.1, found.2)

  -- so is an inner cell of a visible entry
  pub cell_named : (entry : Entry) (name : Name) → Contains shown entry → Contains (inner_names_of d entry) name →
      (cell : ℕ) × (cell < cells_in network) × (name_in network cell ≡ name)
  cell_named entry name made has =
      let of_all : Contains entries entry = (member_kept (is_visible w) entries entry made).0 in
      cell_called name
      (All-contains (Contains (names_after d entries)) (inner_names_of d entry) name
      (All-contains (AreNamed d entries) entries entry (inner_named d entries) of_all) has)

  -- by name first
  line_had : (line : ℕ) → Contains (map line_of (filter (has_conflict d shown) shown)) line → HasConflict network value line
  line_had line has =
      let one = member_mapped line_of (filter (has_conflict d shown) shown) line has in
      let entry : Entry = one.0 in
      let kept = member_kept (has_conflict d shown) shown entry one.1 in
      let any = Any-from_list_any clashes (inner_names_of d entry) kept.1 in
      let name : Name = any.1 in
      let own : Contains (inner_names_of d entry) name = (any.0, any.2, any.3) in
      let found = cell_named entry name kept.0 own in
      let number = inner_number d entry name own in
      let among : Contains (names_after d shown) name =
      All-contains (Contains (names_after d shown)) (inner_names_of d entry) name
      (All-contains (AreNamed d shown) shown entry (inner_named d shown) kept.0) own in
      record {
        cell = found.0;
        number = number.0;
        here = found.1;
        origin = origin_from found.0 (origin_in network found.0) line number.0
            (found.2 ∙ number.1 ∙ ap (λ (n : ℕ). InnerCellOf n number.0) one.2);
        contradictory =
            ap is_contradiction (value_shown found.0 found.1 (subst (Contains (names_after d shown)) (sym found.2) among))
            ∙ ap clashes found.2 ∙ any.4;
      }

-- what settles in the network that entries make, from a store that was told what they tell, has the
-- conflicts of the visible entries
pub conflicts_named : (d : Declared) (entries : List Entry) (network : Network) (store : Store) (w : Premises)
    (conflicts : Conflicts) → IsWellDeclared d → All (FitsDeclared d) entries → RiseFrom 0 entries → network ≡ network_after d entries →
    WasTold d entries network store → AreConflicts network (values.value_in network store w) conflicts →
    conflicts ≡ conflicts_of d (visible_in entries w)
conflicts_named d entries network store w conflicts well fit rise is told are =
    let shown : List Entry = visible_in entries w in
    let named : IsNamedAfter d entries network = named_after d entries network well fit rise is in
    let value : ℕ → Info = values.value_in network store w in
    let cells : conflicts.cells ≡ (conflicts_of d shown).cells =
    are.cells
    ∙ (λ i. filter (λ cell. is_contradiction (value cell)) (range_with_len 0 (length (named.declared i).cells)))
    ∙ same_passing value (cell_value d shown) 0 (length d.cells) (length d.cells) (omega arith)
    (λ cell here. value_is d entries network store w cell well fit rise is told here) in
    let seen_rise : RiseFrom 0 (filter (has_conflict d shown) shown) =
    rise_kept (has_conflict d shown) 0 shown (rise_kept (is_visible w) 0 entries rise) in
    let lines : conflicts.lines ≡ (conflicts_of d shown).lines =
    same_rising conflicts.lines (map line_of (filter (has_conflict d shown) shown)) are.rising
    (lines_rise 0 (filter (has_conflict d shown) shown) seen_rise)
    (λ line has. line_listed d entries network store w well fit rise named told line ((are.lines line).0 has))
    (λ line has. (are.lines line).1 (line_had d entries network store w well fit rise named told line has)) in
    λ i. record { cells = cells i; lines = lines i }
