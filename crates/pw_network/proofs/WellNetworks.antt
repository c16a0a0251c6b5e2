-- What holds of a network still holds with a callable attached.
use Rattle.std.proofs.Common.{◌≡◌, ℕ, suc, ◌+◌, ◌-◌, ◌<◌, ◌≤◌, List, [], ◌∷◌, ◌++◌, Option, Some, length, map, get_or, refl, sym, ap, subst, ◌∙◌, arith, length-append, append_assoc}
use Rattle.std.proofs.Math.Logic.{∥∥₁_map}
use Rattle.std.specs.Prelude.{All, slice_get}
use Rattle.std.specs.List.{filter_map, cons_option}
use Rattle.std.proofs.lemmas.List.{length-map, map-append, get_or_append_left, get_or-append_right}
use Rattle.std.proofs.lemmas.List.Elements.{All-append, All-map, All-weaker}
use Rattle.std.proofs.lemmas.Option.{get_or_from_slice_get, slice_get-get_or}
use Rattle.pw_info.specs.declared.kind.Kind.{Kind}
use Rattle.pw_info.specs.declared.kind.Kind.TheVariants as kinds
use Rattle.pw_premises.specs.Premises.{Premises}
use Rattle.pw_decl.specs.declared.step.Callable.{Callable}
use Rattle.pw_decl.specs.declared.step.Callable.TheVariants as callables
use Rattle.pw_decl.specs.Compound.{AcceptsKinds, kinds_at}
use Rattle.pw_decl.specs.Expansion.{Instance, SpeaksOf, FitsCells, expansion_of, inner_kinds_of}
use Rattle.pw_decl.specs.Limits.{most_inner_cells}
use Rattle.pw_network.specs.Network.{MayAttach}
use Rattle.pw_network.specs.Network.{Attached, InnerCell, Network, cells_in, kind_in, inner_cells_from, attached_at, with_attached, IsWellNetwork}
use Rattle.pw_decl.proofs.ExpansionFits.{expansion_speaks, expansion_fits}
use Rattle.pw_network.proofs.LineLemmas.{attached_more, attached_of, lines_of_inner, order_more, past_more, supports_more}

-- ---- lists

-- functions that agree on what is there give the same list
same_on : {A B : Type 0} (f g : A → B) (xs : List A) → All (λ x. f x ≡ g x) xs → map f xs ≡ map g xs
same_on f g [] same = refl
same_on f g (x ∷ xs) same = λ i. same 0 x (omega arith) i ∷ same_on f g xs (λ k d within. same (suc k) d (omega arith)) i

-- if there is something of each
filter_map_each : {A B : Type 0} (f : A → Option B) (g : A → B) (xs : List A) → All (λ x. f x ≡ Some (g x)) xs → filter_map f xs ≡ map g xs
filter_map_each f g [] each = refl
filter_map_each f g (x ∷ xs) each =
    ap (λ o. cons_option o (filter_map f xs)) (each 0 x (omega arith))
    ∙ ap (λ l. g x ∷ l) (filter_map_each f g xs (λ k d within. each (suc k) d (omega arith)))

-- ---- inner cells of an attachment

pub length-inner_cells : (line number : ℕ) (kinds : List Kind) → length (inner_cells_from line number kinds) ≡ length kinds
length-inner_cells line number [] = refl
length-inner_cells line number (kind ∷ kinds) = let rest = length-inner_cells line (number + 1) kinds in omega arith

kinds_of_inner : (line number : ℕ) (kinds : List Kind) → map (λ (inner : InnerCell). inner.kind) (inner_cells_from line number kinds) ≡ kinds
kinds_of_inner line number [] = refl
kinds_of_inner line number (kind ∷ kinds) = ap (λ l. kind ∷ l) (kinds_of_inner line (number + 1) kinds)

-- ---- kinds of cells

-- the kinds of all cells, by number
abbrev kinds_in : Network → List Kind
kinds_in network = network.declared.kinds ++ map (λ (inner : InnerCell). inner.kind) network.inner

length-kinds_in : (network : Network) → IsWellNetwork network → length (kinds_in network) ≡ cells_in network
length-kinds_in network well =
    let a = length-append network.declared.kinds (map (λ (inner : InnerCell). inner.kind) network.inner) in
    let b = length-map network.inner (λ inner. inner.kind) in
    let c = well.declared.kinds in
    omega arith

module _ (network : Network) (line : ℕ) (callable : Callable) (cells : List ℕ) (support : Premises) (well : IsWellNetwork network) where
  abbrev own : List Kind
  own = inner_kinds_of network.declared.compounds callable

  abbrev after : Network
  after = with_attached network line callable cells support

  kinds_after : kinds_in after ≡ kinds_in network ++ own
  kinds_after =
      ap (λ l. network.declared.kinds ++ l)
      (map-append (λ (inner : InnerCell). inner.kind) network.inner (inner_cells_from line 0 own)
      ∙ ap (λ l. map (λ (inner : InnerCell). inner.kind) network.inner ++ l) (kinds_of_inner line 0 own))
      ∙ sym (append_assoc network.declared.kinds (map (λ (inner : InnerCell). inner.kind) network.inner) own)

  pub cells_after : cells_in after ≡ cells_in network + length own
  cells_after =
      let a = length-append network.inner (inner_cells_from line 0 own) in
      let b = length-inner_cells line 0 own in
      omega arith

  -- a cell that existed has the kind that it had
  same_kind : (cell : ℕ) → cell < cells_in network → kind_in after cell ≡ kind_in network cell
  same_kind cell there =
      let l = length-kinds_in network well in
      ap (λ l. get_or l cell kinds.Interval) kinds_after ∙ get_or_append_left (kinds_in network) own kinds.Interval cell (omega arith)

  -- a new one has its own
  new_kind : (j : ℕ) (k : Kind) → slice_get own j ≡ Some k → kind_in after (cells_in network + j) ≡ k
  new_kind j k at =
      let l = length-kinds_in network well in
      ap (λ l. get_or l (cells_in network + j) kinds.Interval) kinds_after
      ∙ get_or-append_right (kinds_in network) own (cells_in network) (cells_in network + j) kinds.Interval l (omega arith)
      ∙ ap (λ n. get_or own n kinds.Interval) (let e : (cells_in network + j) - cells_in network ≡ j = omega arith in e)
      ∙ get_or_from_slice_get own j k kinds.Interval at

  kind_of_declared : (cell : ℕ) → cell < length network.declared.cells → slice_get network.declared.kinds cell ≡ Some (kind_in network cell)
  kind_of_declared cell there =
      let same = well.declared.kinds in
      slice_get-get_or network.declared.kinds cell kinds.Interval (omega arith)
      ∙ ap Some (sym (get_or_append_left network.declared.kinds (map (λ (inner : InnerCell). inner.kind) network.inner) kinds.Interval cell (omega arith)))

  module _ (may : MayAttach network line callable cells) (few : length own ≤ most_inner_cells) where
    pub kinds_of_cells : map (kind_in network) cells ≡ kinds_at network.declared.kinds cells
    kinds_of_cells = sym (filter_map_each (slice_get network.declared.kinds) (kind_in network) cells
        (All-weaker (λ cell. cell < length network.declared.cells) (λ cell. slice_get network.declared.kinds cell ≡ Some (kind_in network cell)) kind_of_declared cells may.here))

    kinds_stay : map (kind_in after) cells ≡ map (kind_in network) cells
    kinds_stay = same_on (kind_in after) (kind_in network) cells
        (All-weaker (λ cell. cell < length network.declared.cells) (λ cell. kind_in after cell ≡ kind_in network cell) (λ cell there. same_kind cell (omega arith)) cells may.here)

    -- an instance that fitted still fits
    still_fits : (instance : Instance ℕ) → SpeaksOf (λ cell. cell < cells_in network) instance →
        FitsCells network.declared.procedures (kind_in network) instance → FitsCells network.declared.procedures (kind_in after) instance
    still_fits instance (inputs, output) fits =
        let same : map (kind_in network) instance.inputs ++ kind_in network instance.output ∷ [] ≡ map (kind_in after) instance.inputs ++ kind_in after instance.output ∷ [] =
        λ i. same_on (kind_in network) (kind_in after) instance.inputs
        (All-weaker (λ cell. cell < cells_in network) (λ cell. kind_in network cell ≡ kind_in after cell) (λ cell there. sym (same_kind cell there)) instance.inputs inputs) i
        ++ sym (same_kind instance.output output) i ∷ [] in
        subst (λ (l : List Kind). AcceptsKinds network.declared.procedures [] (callables.Stored instance.procedure) l) same fits

    -- an instance of cells that existed is one of cells that are
    still_here : (attached : Attached) → SpeaksOf (λ cell. cell < cells_in network) attached.instance → SpeaksOf (λ cell. cell < cells_in after) attached.instance
    still_here attached (inputs, output) =
        let more = cells_after in
        (All-weaker (λ cell. cell < cells_in network) (λ cell. cell < cells_in after) (λ cell there. omega arith) attached.instance.inputs inputs, omega arith)

    abbrev made : List (Instance ℕ)
    made = expansion_of network.declared.compounds callable cells (λ j. cells_in network + j)

    new_here : All (SpeaksOf (λ cell. cell < cells_in after)) made
    new_here =
        let more = cells_after in
        expansion_speaks (λ cell. cell < cells_in after) network.declared.compounds callable cells (λ j. cells_in network + j)
        (All-weaker (λ cell. cell < length network.declared.cells) (λ cell. cell < cells_in after) (λ cell there. omega arith) cells may.here)
        (λ j within. omega arith)

    new_fit : ∥ All (FitsCells network.declared.procedures (kind_in after)) made ∥₁
    new_fit = ∥∥₁_map well.declared.steps (λ are.
        expansion_fits network.declared.procedures (kind_in after) network.declared.compounds callable cells (λ j. cells_in network + j) are
        (subst (λ (l : List Kind). AcceptsKinds network.declared.procedures network.declared.compounds callable l) (sym (kinds_stay ∙ kinds_of_cells)) may.takes)
        new_kind)

    later : network.last_line ≤ line
    later = let next = may.next in omega arith

    -- all holds with a callable attached
    pub well_with_attached : IsWellNetwork after
    well_with_attached =
        record {
          declared = well.declared;
          lines = may.most;
          few = let a = length-append network.inner (inner_cells_from line 0 own) in
              let b = length-inner_cells line 0 own in
              let c = well.few in
              let d = may.next in
              omega arith;
          here = All-append (λ attached. SpeaksOf (λ cell. cell < cells_in after) attached.instance) network.attached (map (attached_at line support) made)
              (All-weaker (λ attached. SpeaksOf (λ cell. cell < cells_in network) attached.instance) (λ attached. SpeaksOf (λ cell. cell < cells_in after) attached.instance) still_here network.attached well.here)
              (All-map (λ attached. SpeaksOf (λ cell. cell < cells_in after) attached.instance) (attached_at line support) made new_here);
          fits = All-append (λ attached. ∥ FitsCells network.declared.procedures (kind_in after) attached.instance ∥₁) network.attached (map (attached_at line support) made)
              (λ k d within. ∥∥₁_map (well.fits k d within) (still_fits (get_or network.attached k d).instance (well.here k d within)))
              (All-map (λ attached. ∥ FitsCells network.declared.procedures (kind_in after) attached.instance ∥₁) (attached_at line support) made
              (λ k d within. ∥∥₁_map new_fit (λ fits. fits k d within)));
          order = order_more (λ (inner : InnerCell). inner.line) network.last_line line network.inner (inner_cells_from line 0 own)
              later well.reached (lines_of_inner line 0 own) well.order;
          reached = past_more (λ (inner : InnerCell). inner.line) network.last_line line network.inner (inner_cells_from line 0 own)
              later well.reached (lines_of_inner line 0 own);
          attached = attached_more network.last_line line support network.attached (map (attached_at line support) made)
              may.next well.attached (attached_of line support made);
          supports = supports_more network.last_line line support network.attached (map (attached_at line support) made)
              may.next well.attached (attached_of line support made) well.supports;
        }
