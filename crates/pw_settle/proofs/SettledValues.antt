-- What a network and a store say about cells, and that what follows says it.
use Rattle.std.proofs.Common.{◌≡◌, ℕ, ◌+◌, ◌<◌, Bool, true, false, List, [], ◌∷◌, ◌++◌, length, map, refl, sym, ap, ◌∙◌, subst, arith, length-append, append-nil}
use Rattle.std.specs.Prelude.{All, Contains, slice_index_or, filter}
use Rattle.std.specs.FinSet.{is_subset}
use Rattle.std.specs.List.{range_with_len}
use Rattle.std.proofs.lemmas.List.{length-map, map-append}
use Rattle.std.proofs.lemmas.List.FromFn.{length-range_with_len, get_or-range_with_len}
use Rattle.std.proofs.lemmas.List.Elements.{All-nil, All-cons, All-append, All-map, All-weaker, All-filter, All-contains_itself, filter-append, filter_map-append}
use Rattle.pw_info.specs.declared.kind.Kind.{Kind}
use Rattle.pw_info.specs.declared.kind.Kind.TheVariants as kinds
use Rattle.pw_info.specs.Information.{kind_of}
use Rattle.pw_premises.specs.Premises.{Premises}
use Rattle.pw_procs.specs.Procedure.{Procedure}
use Rattle.pw_cells.specs.Cells.{Store, cell_at, kinds_of, told_in}
use Rattle.pw_cells.proofs.Together.{kind-shown_by}
use Rattle.pw_cells.proofs.Stores.{kind-listed}
use Rattle.pw_decl.specs.Expansion.{Instance, FitsCells, SpeaksOf}
use Rattle.pw_network.specs.Network.{Attached, InnerCell, Network, cells_in, IsWellNetwork}
use Rattle.pw_settle.specs.Sources.{Source, Told, Fits, IsImplied, Names, cell_of}
use Rattle.pw_settle.specs.Fixpoint.{AreOver}
use Rattle.pw_settle.specs.Values.{numbered, numbers_of_cells, kinds_in, propagators_of, visible_instances, told_sources, sources_in, value_in}
use Rattle.pw_settle.specs.inside.Known.{IsPlaced}
use Rattle.pw_settle.proofs.FixpointLemmas.{kind-fixpoint, fixpoint_says}
use Rattle.pw_settle.proofs.Propagators.{names_cell, propagators_fit, propagators_name}

-- ---- one more instance

abbrev is_seen : Premises → Attached → Bool
is_seen w a = is_subset a.support w

abbrev instance_in : Attached → Instance ℕ
instance_in a = a.instance

-- the visible ones of instances with one more that is visible
pub visible_more : (attached : List Attached) (a : Attached) (w : Premises) → is_subset a.support w ≡ true →
    visible_instances (attached ++ a ∷ []) w ≡ visible_instances attached w ++ a.instance ∷ []
visible_more attached a w visible =
    ap (map instance_in) (filter-append (is_seen w) attached (a ∷ []) ∙ ap (λ (l : List Attached). filter (is_seen w) attached ++ l) one)
    ∙ map-append instance_in (filter (is_seen w) attached) (a ∷ [])
  where
    one : filter (is_seen w) (a ∷ []) ≡ a ∷ []
    one = rw visible refl

-- and with one more that is not
pub visible_same : (attached : List Attached) (a : Attached) (w : Premises) → is_subset a.support w ≡ false →
    visible_instances (attached ++ a ∷ []) w ≡ visible_instances attached w
visible_same attached a w hidden =
    ap (map instance_in)
    (filter-append (is_seen w) attached (a ∷ []) ∙ ap (λ (l : List Attached). filter (is_seen w) attached ++ l) none ∙ append-nil (filter (is_seen w) attached))
  where
    none : filter (is_seen w) (a ∷ []) ≡ []
    none = rw hidden refl

-- instances with one more are sources with its own
pub propagators_more : (procedures : List Procedure) (instances : List (Instance ℕ)) (instance : Instance ℕ) →
    propagators_of procedures (instances ++ instance ∷ []) ≡ propagators_of procedures instances ++ propagators_of procedures (instance ∷ [])
propagators_more procedures instances instance = filter_map-append _ instances (instance ∷ [])

-- the sources of the visible ones of instances
abbrev seen_sources : List Procedure → Premises → List Attached → List (Source ℕ)
seen_sources procedures w attached = propagators_of procedures (visible_instances attached w)

-- ---- what a network and a store say about cells

-- each number below is in the row from 0
pub contains_number : (n cell : ℕ) → cell < n → Contains (range_with_len 0 n) cell
contains_number n cell below =
    let many = length-range_with_len 0 n in
    let same : 0 + cell ≡ cell = omega arith in
    (cell, omega (arith, many, below), get_or-range_with_len 0 n cell cell below ∙ same)

-- what the visible ones of instances have
seen_have : (P : Instance ℕ → Type 0) (attached : List Attached) (w : Premises) → All (λ a. P (instance_in a)) attached → All P (visible_instances attached w)
seen_have P attached w all = All-map P instance_in (filter (is_seen w) attached) (All-filter (is_seen w) (λ a. P (instance_in a)) attached all)

-- ---- networks

-- there are as many kinds as cells
pub kinds_many : (network : Network) → IsWellNetwork network → length (kinds_in network) ≡ cells_in network
kinds_many network well =
    let a = length-append network.declared.kinds (map (λ (inner : InnerCell). inner.kind) network.inner) in
    let b = length-map network.inner (λ (inner : InnerCell). inner.kind) in
    omega (arith, a, b, well.declared.kinds)

-- the instances of a network are placed
pub all_placed : (network : Network) → IsWellNetwork network → All (λ a. IsPlaced network.declared.procedures (kinds_in network) (instance_in a)) network.attached
all_placed network well i d within =
    let here = well.here i d within in
    let many = kinds_many network well in (
      (
        All-weaker (λ cell. cell < cells_in network) (λ cell. cell < length (kinds_in network)) (λ cell below. omega (arith, below, many)) _ here.0,
        omega (arith, here.1, many),
      ),
      well.fits i d within,
    )

-- the same, under any other names
pub placed_by : (network : Network) → IsWellNetwork network → (procedures : List Procedure) (attached : List Attached) (ks : List Kind) →
    procedures ≡ network.declared.procedures → attached ≡ network.attached → ks ≡ kinds_in network → All (λ a. IsPlaced procedures ks (instance_in a)) attached
placed_by network well procedures attached ks same_procedures same_attached same_kinds =
    subst (λ (ps : List Procedure). All (λ a. IsPlaced ps ks (instance_in a)) attached) (sym same_procedures)
    (subst (λ (l : List Attached). All (λ a. IsPlaced network.declared.procedures ks (instance_in a)) l) (sym same_attached)
    (subst (λ (l : List Kind). All (λ a. IsPlaced network.declared.procedures l (instance_in a)) network.attached) (sym same_kinds) (all_placed network well)))

module _ (network : Network) (store : Store) (w : Premises) (same : kinds_of store ≡ kinds_in network)
    (placed : All (λ a. IsPlaced network.declared.procedures (kinds_in network) (instance_in a)) network.attached) where
  abbrev ks : List Kind
  ks = kinds_in network

  abbrev seen : List (Instance ℕ)
  seen = visible_instances network.attached w

  abbrev propagators : List (Source ℕ)
  propagators = propagators_of network.declared.procedures seen

  seen_placed : All (IsPlaced network.declared.procedures ks) seen
  seen_placed = seen_have (IsPlaced network.declared.procedures ks) network.attached w placed

  -- the told information about a cell is of the cell's kind
  pub kind-told : (cell : ℕ) → kind_of (told_in store cell w) ≡ (numbered ks).kind cell
  kind-told cell =
      kind-shown_by (cell_at store cell).kind w (cell_at store cell).told ∙ kind-listed store.cells cell
      ∙ ap (λ (l : List Kind). slice_index_or l cell kinds.Interval) same

  told_fit : (cells : List ℕ) → All (Fits (numbered ks)) (map (λ cell. Told cell (told_in store cell w)) cells)
  told_fit [] = All-nil (Fits (numbered ks))
  told_fit (cell ∷ cells) = All-cons (Fits (numbered ks)) (Told cell (told_in store cell w)) (map (λ cell. Told cell (told_in store cell w)) cells) (kind-told cell) (told_fit cells)

  -- what a network and a store say fits the kinds of the cells, and informs cells that exist
  pub are_over : AreOver (numbered ks) (numbers_of_cells ks) (sources_in network store w)
  are_over = record {
    fit = All-append (Fits (numbered ks)) (told_sources store w (length ks)) propagators (told_fit (range_with_len 0 (length ks)))
        (propagators_fit (numbered ks) network.declared.procedures seen
        (All-weaker (IsPlaced network.declared.procedures ks) (λ i. ∥ FitsCells network.declared.procedures (numbered ks).kind i ∥₁) (λ i p. p.1) seen seen_placed));
    within = All-append (λ source. Contains (numbers_of_cells ks) (cell_of source)) (told_sources store w (length ks)) propagators
        (All-map (λ source. Contains (numbers_of_cells ks) (cell_of source)) (λ cell. Told cell (told_in store cell w)) (range_with_len 0 (length ks))
        (All-contains_itself (range_with_len 0 (length ks))))
        (All-weaker (Names (Contains (numbers_of_cells ks))) (λ source. Contains (numbers_of_cells ks) (cell_of source)) (names_cell (Contains (numbers_of_cells ks))) propagators
        (propagators_name (Contains (numbers_of_cells ks)) network.declared.procedures seen
        (All-weaker (IsPlaced network.declared.procedures ks) (SpeaksOf (Contains (numbers_of_cells ks)))
        (λ i p. (
          All-weaker (λ cell. cell < length ks) (Contains (numbers_of_cells ks)) (λ cell below. contains_number (length ks) cell below) i.inputs p.0.0,
          contains_number (length ks) i.output p.0.1,
        )) seen seen_placed)));
  }

  -- ---- settling

  -- what follows says what each source says
  pub says : All (IsImplied (value_in network store w)) (sources_in network store w)
  says = fixpoint_says (numbered ks) (numbers_of_cells ks) (sources_in network store w) are_over

  pub kind-value : (cell : ℕ) → kind_of (value_in network store w cell) ≡ (numbered ks).kind cell
  kind-value = kind-fixpoint (numbered ks) (numbers_of_cells ks) (sources_in network store w)
