-- Values that fit still do, as more is attached, added, told and kept.
use Rattle.std.proofs.Common.{◌≡◌, ℕ, ◌<◌, ◌≤◌, true, List, [], ◌∷◌, ◌++◌, All, length, map, get_or, refl, sym, ap, ◌∙◌, subst, arith, length-append}
use Rattle.std.specs.Prelude.{slice_index_or}
use Rattle.std.proofs.lemmas.List.{get_or_append_left, get_or_default, length-map}
use Rattle.std.proofs.lemmas.List.Elements.{All-head, All-tail}
use Rattle.pw_info.specs.declared.kind.Kind.{Kind}
use Rattle.pw_info.specs.declared.kind.Kind.TheVariants as kinds
use Rattle.pw_info.specs.declared.info.Info.{Info}
use Rattle.pw_info.specs.Information.{allows, nothing, Implies}
use Rattle.pw_premises.specs.Premises.{Premises}
use Rattle.pw_cells.specs.Cells.{Cell, Store, kept_in, kept_of, new_cell}
use Rattle.pw_decl.specs.Declaration.{Declared}
use Rattle.pw_network.specs.Network.{Attached, InnerCell, Network, IsWellNetwork, cells_in}
use Rattle.pw_settle.specs.Calls.{is_instance_visible}
use Rattle.pw_settle.specs.Growth.{IsFitting, said_of}
use Rattle.pw_settle.specs.Values.{IsSatisfied, attached_no}
use Rattle.pw_settle.specs.Settled.{Settled}
use Rattle.pw_settle.specs.Sources.{IsImplied}
use Rattle.pw_settle.specs.Values.{kinds_in, numbered, propagators_of}
use Rattle.pw_settle.specs.Growth.{IsWider}
use Rattle.pw_settle.proofs.FittingValues.{satisfied_still}
use Rattle.pw_settle.proofs.SettledValues.{kinds_many}

-- if no less is kept
pub fits_more : (network : Network) (old new : Store) (settled : Settled) →
    ((cell : ℕ) (w : Premises) → Implies (kept_in new cell w) (kept_in old cell w)) → IsFitting network old settled → IsFitting network new settled
fits_more network old new settled more fits = record {
  instances = fits.instances;
  cells = fits.cells;
  kinds = fits.kinds;
  kept = λ cell below v possible. fits.kept cell below v (more cell settled.worldview v possible);
  satisfied = fits.satisfied;
}

-- if cells are added
pub fits_added : (network : Network) (old new : Store) (settled : Settled) (own : List Kind) → new.cells ≡ old.cells ++ map new_cell own →
    cells_in network ≤ length old.cells → IsFitting network old settled → IsFitting network new settled
fits_added network old new settled own are room fits = record {
  instances = fits.instances;
  cells = fits.cells;
  kinds = fits.kinds;
  kept = λ cell below v possible. fits.kept cell below v
      (subst (λ (c : Cell). allows (kept_of c settled.worldview) v ≡ true)
      (ap (λ (l : List Cell). get_or l cell (new_cell kinds.Interval)) are
      ∙ get_or_append_left old.cells (map new_cell own) (new_cell kinds.Interval) cell (omega (arith, below, fits.cells, room))) possible);
  satisfied = fits.satisfied;
}

-- the same is known about cells that exist
same_there : (before now : ℕ → Info) (count : ℕ) → ((c : ℕ) → c < count → now c ≡ before c) → (inputs : List ℕ) → All (λ c. c < count) inputs →
    map now inputs ≡ map before inputs
same_there before now count same [] all = refl
same_there before now count same (c ∷ inputs) all = λ i.
    same c (All-head (λ (d : ℕ). d < count) c inputs all) i
    ∷ same_there before now count same inputs (All-tail (λ (d : ℕ). d < count) c inputs all) i

-- if more is attached
pub fits_wider : (network wider : Network) (store : Store) (settled : Settled) → IsWellNetwork network → IsWider network wider →
    IsFitting network store settled → IsFitting wider store settled
fits_wider network wider store settled well wide fits = record {
  instances = omega (arith, fits.instances, ap length wide.attached_are, length-append network.attached wide.more);
  cells =
      let declared : length wider.declared.cells ≡ length network.declared.cells = ap (λ (d : Declared). length d.cells) wide.declared in
      let declared_kinds : length wider.declared.kinds ≡ length network.declared.kinds = ap (λ (d : Declared). length d.kinds) wide.declared in
      let all = ap length wide.kinds_are in
      let more = length-append (kinds_in network) wide.own in
      let was = length-append network.declared.kinds (map (λ (inner : InnerCell). inner.kind) network.inner) in
      let was_inner = length-map network.inner (λ (inner : InnerCell). inner.kind) in
      let is = length-append wider.declared.kinds (map (λ (inner : InnerCell). inner.kind) wider.inner) in
      let is_inner = length-map wider.inner (λ (inner : InnerCell). inner.kind) in
      omega (arith, fits.cells, declared, declared_kinds, all, more, was, was_inner, is, is_inner);
  kinds = λ cell below. fits.kinds cell below ∙ sym (kind_there cell (omega (arith, below, fits.cells)));
  kept = fits.kept;
  satisfied = λ n d below seen.
      subst (IsSatisfied wider (said_of wider settled)) (sym (same_instance n d below))
      (subst (λ (e : Declared). All (IsImplied (said_of wider settled)) (propagators_of e.procedures ((attached_no network n d).instance ∷ []))) (sym wide.declared)
      (satisfied_still network well (attached_no network n d)
      (n, omega (arith, below, fits.instances), get_or_default network.attached n (attached_no network n d) d (omega (arith, below, fits.instances)))
      (said_of network settled) (said_of wider settled)
      (same_there (said_of network settled) (said_of wider settled) (cells_in network) same_said (attached_no network n d).instance.inputs
      (well.here n d (omega (arith, below, fits.instances))).0)
      (λ v possible. subst (λ (i : Info). allows i v ≡ true)
      (same_said (attached_no network n d).instance.output (well.here n d (omega (arith, below, fits.instances))).1) possible)
      (fits.satisfied n d below (subst (λ (a : Attached). is_instance_visible settled.worldview a ≡ true) (same_instance n d below) seen))));
} where
  kind_there : (cell : ℕ) → cell < cells_in network → (numbered (kinds_in wider)).kind cell ≡ (numbered (kinds_in network)).kind cell
  kind_there cell below =
      ap (λ (l : List Kind). get_or l cell kinds.Interval) wide.kinds_are
      ∙ get_or_append_left (kinds_in network) wide.own kinds.Interval cell (omega (arith, below, kinds_many network well))

  same_said : (cell : ℕ) → cell < cells_in network → said_of wider settled cell ≡ said_of network settled cell
  same_said cell below = ap (λ (k : Kind). slice_index_or settled.infos cell (nothing k)) (kind_there cell below)

  same_instance : (n : ℕ) (d : Attached) → n < settled.instances → attached_no wider n d ≡ attached_no network n d
  same_instance n d below =
      ap (λ (l : List Attached). get_or l n d) wide.attached_are
      ∙ get_or_append_left network.attached wide.more d n (omega (arith, below, fits.instances))
