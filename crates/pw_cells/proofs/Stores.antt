-- A cell of a store, as it is read and as it is written.
use Rattle.std.proofs.Common.{◌≡◌, ℕ, zero, suc, ◌<◌, List, [], ◌∷◌, length, get_or, set, map, get_or-set_same, refl, sym, ◌∙◌, ap, subst}
use Rattle.std.specs.Prelude.{slice_index_or, Result, Ok, Err, IfOk, OnErr}
use Rattle.std.proofs.lemmas.List.{get_or_default, get_or-set_other, set-get_or}
use Rattle.std.proofs.Math.Seq.{map-set_same}
use Rattle.pw_info.specs.declared.kind.Kind.{Kind}
use Rattle.pw_info.specs.declared.kind.Kind.TheVariants as kinds
use Rattle.pw_cells.specs.Cells.{Cell, Store, cell_at, new_cell, kinds_of}

-- a number of a cell is one inside
pub there : (inside now : Store) (c : ℕ) → inside ≡ now → c < length now.cells → c < length inside.cells
there inside now c is within = subst (λ (s : Store). c < length s.cells) (sym is) within

-- what is read at a place is the cell of this number
pub cell_read : (inside now : Store) (c : ℕ) (x : Cell) → x ≡ get_or inside.cells c x → inside ≡ now → c < length now.cells → x ≡ cell_at now c
cell_read inside now c x read is within =
    read ∙ get_or_default inside.cells c x _ (there inside now c is within) ∙ ap (λ s. cell_at s c) is

-- and so is the cell that was written there, for any default that is read past the end
cell_written : (inside now : Store) (c : ℕ) (x d : Cell) → inside ≡ now → c < length now.cells → x ≡ get_or (set inside.cells c x) c d
cell_written inside now c x d is within = sym (get_or-set_same inside.cells c x d (there inside now c is within))

-- what holds of the old and the new cell holds of the cell of this number before and after
pub cell_changed : (P : Cell → Cell → Type 0) (inside now : Store) (c : ℕ) (x y d : Cell) → x ≡ get_or inside.cells c x → inside ≡ now → c < length now.cells
    → P x y → P (cell_at now c) (get_or (set inside.cells c y) c d)
cell_changed P inside now c x y d read is within p =
    subst (λ (new : Cell). P (cell_at now c) new) (cell_written inside now c y d is within)
    (subst (λ (old : Cell). P old y) (cell_read inside now c x read is within) p)

-- a cell of the same kind in its place leaves the kinds
pub same_kinds : (inside now : Store) (c : ℕ) (x y : Cell) → x ≡ get_or inside.cells c x → inside ≡ now → y.kind ≡ x.kind
    → map (λ (c : Cell). c.kind) (set inside.cells c y) ≡ kinds_of now
same_kinds inside now c x y read is kind =
    map-set_same (λ (c : Cell). c.kind) inside.cells c y x (kind ∙ ap (λ (c : Cell). c.kind) read) ∙ ap kinds_of is

-- every other cell is unchanged
pub others_same : (inside now : Store) (c : ℕ) (y : Cell) → inside ≡ now
    → (k : ℕ) → (k ≡ c → ⊥) → slice_index_or (set inside.cells c y) k (new_cell kinds.Interval) ≡ cell_at now k
others_same inside now c y is k other =
    get_or-set_other inside.cells c k y (new_cell kinds.Interval) other ∙ ap (λ s. cell_at s k) is

-- a fact of the kind of the cell of this number is of the kind of the cell that is read
pub of_kind_read : (inside now : Store) (c : ℕ) (x : Cell) (k : Kind) → x ≡ get_or inside.cells c x → inside ≡ now → c < length now.cells
    → k ≡ (cell_at now c).kind → k ≡ x.kind
of_kind_read inside now c x k read is within kind =
    kind ∙ sym (ap (λ (cell : Cell). cell.kind) (cell_read inside now c x read is within))

-- writing a cell unchanged leaves the store unchanged
pub same_store : (inside now : Store) (c : ℕ) (x y : Cell) → x ≡ get_or inside.cells c x → inside ≡ now → y ≡ x
    → record { cells = set inside.cells c y; room = inside.room; arrivals = inside.arrivals } ≡ now
same_store inside now c x y read is same =
    ap (λ (l : List Cell). record { cells = l; room = inside.room; arrivals = inside.arrivals }) (ap (set inside.cells c) (same ∙ read) ∙ set-get_or inside.cells c x) ∙ is

-- a fact of a result that another follows from
pub OnErr_then : {T E : Type 0} (r : Result T E) {P Q : Type 0} → (P → Q) → OnErr r P → OnErr r Q
OnErr_then (Ok x) f p = p
OnErr_then (Err e) f p = f p

pub OnErr_always : {T E : Type 0} (r : Result T E) {P : Type 0} → P → OnErr r P
OnErr_always (Ok x) p = tt
OnErr_always (Err e) p = p

pub IfOk_then : {T E : Type 0} (r : Result T E) {P Q : T → Type 0} → ((x : T) → P x → Q x) → IfOk r P → IfOk r Q
IfOk_then (Ok x) f p = f x p
IfOk_then (Err e) f p = p

-- the kinds are listed in the order of the cells
pub kind-listed : (cells : List Cell) (c : ℕ) → (slice_index_or cells c (new_cell kinds.Interval)).kind ≡ slice_index_or (map (λ (x : Cell). x.kind) cells) c kinds.Interval
kind-listed [] c = refl
kind-listed (x ∷ cells) zero = refl
kind-listed (x ∷ cells) (suc c) = kind-listed cells c
