-- The told information about cells: it implies each tell, anything that implies the sources implies
-- it, and the sources may have it in one piece.
use Rattle.std.proofs.Common.{◌≡◌, ℕ, zero, suc, ℤ, ◌*◌, List, Bool, true, not, map, filter, length, All, Contains, refl, sym, ◌∙◌, ap, subst}
use Rattle.std.proofs.lemmas.List.Elements.{All-append, All-contains, All-contains_itself, All-filter, All-map, Contains-append_left, Contains-append_right}
use Rattle.std.specs.Fn.{iterate}
use Rattle.pw_info.specs.declared.info.Info.{Info}
use Rattle.pw_info.specs.Information.{kind_of, allows, Implies}
use Rattle.pw_info.proofs.Informations.{implies_nothing, Implies-antisym}
use Rattle.pw_settle.specs.Sources.{Cells, Source, Told, Propagator, cell_of, is_propagator, AreOfTheirKinds, Fits, IsImplied}
use Rattle.pw_settle.specs.Fixpoint.{AreOver, fixpoint, unknown_at, round, rounds_of_a_cell, told_in_one, told_alone}
use Rattle.pw_settle.proofs.Membership.{contains_filter, contains_map, each_member}
use Rattle.pw_settle.proofs.RoundLemmas.{Leaves, allows_round, kind-round, round_below, round_says}
use Rattle.pw_settle.proofs.FixpointLemmas.{fixpoint_same, fixpoint_says, kind-fixpoint, kind-nothing_known}

-- the source tells something
abbrev is_tell : {C : Type 0} → Source C → Bool
is_tell source = not (is_propagator source)

module _ {C : Type 0} (cells : Cells C) (sources : List (Source C)) where
  -- the told information about a cell is of the cell's kind
  pub kind-told_of : (c : C) → kind_of (told_alone cells sources c) ≡ cells.kind c
  kind-told_of c = kind-round cells (filter is_tell sources) (unknown_at cells) c ∙ kind-nothing_known cells c

module _ {C : Type 0} (cells : Cells C) (sources : List (Source C)) (fit : All (Fits cells) sources) where
  -- the told information about a cell says at least what each tell about it says
  pub told_of_says : (cell : C) (info : Info) → Contains sources (Told cell info) → Implies (told_alone cells sources cell) info
  told_of_says cell info is =
      round_says cells (filter is_tell sources) (All-filter is_tell (Fits cells) sources fit) (unknown_at cells) (kind-nothing_known cells)
      (Told cell info) (contains_filter is_tell sources (Told cell info) refl is)

  -- anything that implies the sources implies the told information
  pub told_of_below : (known : C → Info) → AreOfTheirKinds cells known → All (IsImplied known) sources →
      (c : C) → Implies (known c) (told_alone cells sources c)
  told_of_below known kinds implied =
      round_below cells (filter is_tell sources) (All-filter is_tell (Fits cells) sources fit) (unknown_at cells) (kind-nothing_known cells)
      known kinds (All-filter is_tell (IsImplied known) sources implied) (λ c. implies_nothing (known c) (cells.kind c) (kinds c))

  -- ---- a cell that no propagator writes

  module _ (c : C) (unwritten : All (λ source. cell_of source ≡ c → is_propagator source ≡ true → ⊥) sources) where
    -- the told information about the cell leaves possible only what each source that informs it
    -- does
    told_of_leaves : (known : C → Info) (v : ℤ) → allows (told_alone cells sources c) v ≡ true → (source : Source C) → Contains sources source →
        Leaves cells known c v source
    told_of_leaves known v e (Told cell info) is = λ here.
        told_of_says cell info is v (subst (λ (d : C). allows (told_alone cells sources d) v ≡ true) (sym here) e)
    told_of_leaves known v e (Propagator procedure inputs output) is = λ here.
        absurd (All-contains (λ source. cell_of source ≡ c → is_propagator source ≡ true → ⊥) sources (Propagator procedure inputs output) unwritten is here refl)

    -- so it implies what is known about the cell after rounds
    told_of_rounds : (n : ℕ) (known : C → Info) → AreOfTheirKinds cells known → Implies (told_alone cells sources c) (known c) →
        Implies (told_alone cells sources c) (iterate (round cells sources) n known c)
    told_of_rounds zero known kinds more = more
    told_of_rounds (suc n) known kinds more =
        told_of_rounds n (round cells sources known) (λ d. kind-round cells sources known d ∙ kinds d)
        (λ v e. allows_round cells sources fit known kinds c v (more v e) (each_member (Leaves cells known c v) sources (told_of_leaves known v e)))

    -- and it implies what follows of it
    told_of_above : (over : List C) → Implies (told_alone cells sources c) (fixpoint cells over sources c)
    unfolding fixpoint
    told_of_above over =
        told_of_rounds (length over * rounds_of_a_cell) (unknown_at cells) (kind-nothing_known cells)
        (implies_nothing (told_alone cells sources c) (cells.kind c) (kind-told_of cells sources c))

    -- what follows about the cell is what is told about it
    pub unwritten_told : (over : List C) → AreOver cells over sources → fixpoint cells over sources c ≡ told_alone cells sources c
    unwritten_told over are =
        Implies-antisym (fixpoint cells over sources c) (told_alone cells sources c)
        (kind-fixpoint cells over sources c ∙ sym (kind-told_of cells sources c))
        (told_of_below (fixpoint cells over sources) (kind-fixpoint cells over sources) (fixpoint_says cells over sources are) c)
        (told_of_above over)

-- ---- the told facts, in one piece

module _ {C : Type 0} (cells : Cells C) (over : List C) (sources : List (Source C)) (are : AreOver cells over sources)
    (told : C → Info) (same : (c : C) → Contains over c → told c ≡ told_alone cells sources c) where
  -- this is told about a cell
  abbrev told_at : C → Source C
  told_at cell = Told cell (told cell)

  -- the sources with the told facts in one piece are over the same cells
  pub told_in_one_over : AreOver cells over (told_in_one over told sources)
  told_in_one_over =
      record {
        fit = All-append (Fits cells) (map told_at over) (filter is_propagator sources)
            (All-map (Fits cells) told_at over (each_member (λ c. kind_of (told c) ≡ cells.kind c) over
            (λ c is. ap kind_of (same c is) ∙ kind-told_of cells sources c)))
            (All-filter is_propagator (Fits cells) sources are.fit);
        within = All-append (λ source. Contains over (cell_of source)) (map told_at over) (filter is_propagator sources)
            (All-map (λ source. Contains over (cell_of source)) told_at over (All-contains_itself over))
            (All-filter is_propagator (λ source. Contains over (cell_of source)) sources are.within);
      }

  -- what implies the sources implies those with the told facts in one piece
  in_one_implied : (known : C → Info) → AreOfTheirKinds cells known → All (IsImplied known) sources →
      All (IsImplied known) (told_in_one over told sources)
  in_one_implied known kinds implied =
      All-append (IsImplied known) (map told_at over) (filter is_propagator sources)
      (All-map (IsImplied known) told_at over (each_member (λ c. Implies (known c) (told c)) over
      (λ c is. subst (Implies (known c)) (sym (same c is)) (told_of_below cells sources are.fit known kinds implied c))))
      (All-filter is_propagator (IsImplied known) sources implied)

  -- what implies these implies each of the sources
  one_implied : (known : C → Info) → All (IsImplied known) (told_in_one over told sources) → (source : Source C) → Contains sources source →
      IsImplied known source
  one_implied known implied (Told cell info) is = λ v e.
      let here : Contains over cell = All-contains (λ source. Contains over (cell_of source)) sources (Told cell info) are.within is in
      let says : Implies (known cell) (told cell) =
      All-contains (IsImplied known) (told_in_one over told sources) (told_at cell) implied
      (Contains-append_left (map told_at over) (filter is_propagator sources) (told_at cell) (contains_map told_at over cell here)) in
      told_of_says cells sources are.fit cell info is v (subst (λ (i : Info). allows i v ≡ true) (same cell here) (says v e))
  one_implied known implied (Propagator procedure inputs output) is =
      let source : Source C = Propagator procedure inputs output in
      All-contains (IsImplied known) (told_in_one over told sources) source implied
      (Contains-append_right (map told_at over) (filter is_propagator sources) source (contains_filter is_propagator sources source refl is))

  -- and so all of them
  implied_in_one : (known : C → Info) → AreOfTheirKinds cells known → All (IsImplied known) (told_in_one over told sources) →
      All (IsImplied known) sources
  implied_in_one known kinds implied = each_member (IsImplied known) sources (one_implied known implied)

  -- what was told may be merged beforehand
  pub told_merged : (c : C) → fixpoint cells over (told_in_one over told sources) c ≡ fixpoint cells over sources c
  told_merged =
      fixpoint_same cells over over (told_in_one over told sources) sources told_in_one_over are implied_in_one in_one_implied
