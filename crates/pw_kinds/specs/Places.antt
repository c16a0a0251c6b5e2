-- The places of the members of a set, counted from 0, and the masks that tell which of them are
-- possible. The width of a mask is the limit of sets.
use Rattle.std.specs.Prelude.{ℕ, ◌≡◌, ◌↔◌, zero, suc, ℤ, pos, negsuc, ◌+◌, ◌*◌, ◌^◌, ◌<◌, ◌≤◌, ◌==◌}
use Rattle.std.specs.Prelude.{Bool, true, false, ◌&&◌, nat_le, if◌then◌else◌}
use Rattle.std.specs.Int.Signed.{le_z, lt_z}
use Rattle.std.specs.Int.{bit_at, IsBitSet}
use Rattle.std.proofs.Common.{arith}
use Rattle.std.proofs.Math.Nat.{pow-suc}

-- the greatest number of members of a set
abbrev pub most_members : ℕ
most_members = 128

-- the least number of members of a set
abbrev pub fewest_members : ℕ
fewest_members = 2

-- a set may have this many members
abbrev pub IsSize : ℕ → Type 0
IsSize size = (fewest_members ≤ size) × (size ≤ most_members)

abbrev pub is_size : ℕ → Bool
is_size size = nat_le fewest_members size && nat_le size most_members

-- whether a number is the place of a member of a set of this size
abbrev pub is_place : ℕ → ℤ → Bool
is_place size v = le_z (pos 0) v && lt_z v (pos size)

-- a mask for a set of this size: bit k says whether place k is possible, and no other bit is set
pub record IsMask (size mask : ℕ) : Type 0 where
  pub fewest : fewest_members ≤ size
  pub most : size ≤ most_members
  pub below : mask < 2 ^ size

-- whether a mask says that a whole number is a possible place
abbrev pub mask_allows : ℕ → ℤ → Bool
mask_allows mask (pos k) = bit_at mask k == 1
mask_allows mask (negsuc k) = false

-- exactly the places whose bits of the mask are set pass
abbrev pub PassesBitsOf : ℕ → (ℤ → Bool) → Type 0
PassesBitsOf mask passes = (k : ℕ) → (passes (pos k) ≡ true) ↔ IsBitSet mask k

-- the mask whose bit k is set exactly if place k passes, for the places below n
unfoldable pub mask_of : (ℤ → Bool) → ℕ → ℕ
mask_of p zero = 0
mask_of p (suc n) = (if p (pos n) then 1 else 0) * 2 ^ n + mask_of p n

mask_step : (n : ℕ) (b : Bool) (rest : ℕ) → rest < 2 ^ n →
    (if b then 1 else 0) * 2 ^ n + rest < 2 ^ suc n
mask_step n true rest h = omega (arith, pow-suc 2 n)
mask_step n false rest h = omega (arith, pow-suc 2 n)

pub mask_below : (p : ℤ → Bool) (n : ℕ) → mask_of p n < 2 ^ n
unfolding mask_of
mask_below p zero = omega arith
mask_below p (suc n) = mask_step n (p (pos n)) (mask_of p n) (mask_below p n)

pub checked_mask : (p : ℤ → Bool) (size : ℕ) → is_size size ≡ true → IsMask size (mask_of p size)
checked_mask p size e = record {
  fewest = grind arith;
  most = grind arith;
  below =
      mask_below p size;
}

pub empty_mask : IsMask 2 0
empty_mask = record { fewest = omega arith; most = omega arith; below = omega arith }
