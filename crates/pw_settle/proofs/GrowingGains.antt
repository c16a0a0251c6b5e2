-- What is gained is no less if still more is kept afterwards.
use Rattle.std.proofs.Common.{◌≡◌, ℕ, zero, suc, ◌-◌, ◌*◌, ◌≤◌, length, List, sym, ap, ◌∙◌, mul-le-mul_right, inl, inr, arith}
use Rattle.std.specs.Prelude.{slice_index_or}
use Rattle.pw_info.specs.declared.info.Info.{Info}
use Rattle.pw_info.specs.declared.kind.Kind.{Kind}
use Rattle.pw_info.specs.declared.kind.Kind.TheVariants as kinds
use Rattle.pw_info.specs.Information.{Implies, kind_of}
use Rattle.pw_info.specs.Rank.{rank_of}
use Rattle.pw_info.proofs.Ranks.{rank_gain}
use Rattle.pw_premises.specs.Premises.{Premises}
use Rattle.pw_cells.specs.Cells.{Store, kept_in}
use Rattle.pw_cells.proofs.Stores.{kind-listed}
use Rattle.pw_network.specs.Network.{Network}
use Rattle.pw_settle.specs.Calls.{gains, reader_count, sum_below}
use Rattle.pw_settle.specs.Growth.{KeepsMore}
use Rattle.pw_settle.proofs.KeptFacts.{kind-kept}

-- if no value is more than another, nor is the sum
sum_more : (n : ℕ) (f g : ℕ → ℕ) → ((i : ℕ) → f i ≤ g i) → sum_below n f ≤ sum_below n g
sum_more zero f g less = omega arith
sum_more (suc n) f g less = let rest = sum_more n f g less in let last = less n in omega (arith, rest, last)

-- an information that implies another of its kind has no higher rank
rank_lower : (a b : Info) → kind_of a ≡ kind_of b → Implies a b → rank_of a ≤ rank_of b
rank_lower a b kind implied = elim (rank_gain a b kind implied) [
  | inl same ↦ let also = ap rank_of same in omega (arith, also)
  | inr lower ↦ omega (arith, lower)
]

-- what is kept of a cell is of the same kind as before
kind_still : (network : Network) (new newer : Store) (w : Premises) → KeepsMore network new newer → (cell : ℕ) →
    kind_of (kept_in newer cell w) ≡ kind_of (kept_in new cell w)
kind_still network new newer w more cell =
    kind-kept newer cell w ∙ kind-listed newer.cells cell ∙ ap (λ (l : List Kind). slice_index_or l cell kinds.Interval) more.kinds
    ∙ sym (kind-listed new.cells cell) ∙ sym (kind-kept new cell w)

pub gains_more : (network : Network) (old new newer : Store) (w : Premises) → KeepsMore network new newer →
    gains network old new w ≤ gains network old newer w
gains_more network old new newer w more =
    sum_more (length old.cells) (λ cell. (rank_of (kept_in old cell w) - rank_of (kept_in new cell w)) * reader_count network w cell)
    (λ cell. (rank_of (kept_in old cell w) - rank_of (kept_in newer cell w)) * reader_count network w cell)
    (λ cell.
    let lower = rank_lower (kept_in newer cell w) (kept_in new cell w) (kind_still network new newer w more cell) (more.more cell w) in
    let less : rank_of (kept_in old cell w) - rank_of (kept_in new cell w) ≤ rank_of (kept_in old cell w) - rank_of (kept_in newer cell w) =
    omega (arith, lower) in
    mul-le-mul_right (reader_count network w cell) less)
