-- What the still possible members of a set say about a place: a set of whole numbers, given by its
-- test.
use Rattle.std.specs.Prelude.{◌≡◌, ℕ, ℤ, pos, ◌<◌, Bool, true, false, ◌&&◌, List, refl}
use Rattle.std.specs.List.{list_any}
use Rattle.std.specs.Ordering.{int_eq}
use Rattle.pw_kinds.specs.declared.members.Members.{Members}
use Rattle.pw_kinds.specs.Masks.{bits_of_words, first_word, second_word, third_word, fourth_word}
use Rattle.pw_kinds.specs.Masks.{bits_again, words_fit, mask_fits}
use Rattle.pw_kinds.specs.Places.{IsMask, is_size, mask_allows, mask_of, checked_mask, empty_mask}
use Rattle.std.proofs.Common.{subst, sym}

-- the number of members of the set
abbrev pub size_of : Members → ℕ
size_of m = m.size

-- the mask of the possible members
abbrev pub mask_in : Members → ℕ
mask_in m = bits_of_words m.first m.second m.third m.fourth

-- whether a whole number is the place of a member that is still possible
abbrev pub allows : Members → ℤ → Bool
allows m v = mask_allows (mask_in m) v

-- no member is possible
abbrev pub IsEmpty : Members → Type 0
IsEmpty m = (v : ℤ) → allows m v ≡ false

-- every member is possible
abbrev pub IsFull : Members → Type 0
IsFull m = (k : ℕ) → k < size_of m → allows m (pos k) ≡ true

-- they leave the same places possible
abbrev pub SameValues : Members → Members → Type 0
SameValues m n = (v : ℤ) → allows m v ≡ allows n v

-- each place that is possible in the first is possible in the second
abbrev pub IsWithin : Members → Members → Type 0
IsWithin m n = (v : ℤ) → allows m v ≡ true → allows n v ≡ true

-- the members of a set of this size with this mask
abbrev pub with_mask : (size mask : ℕ) → IsMask size mask → Members
with_mask size mask h = record {
  size = size;
  first = first_word mask;
  second = second_word mask;
  third = third_word mask;
  fourth = fourth_word mask;
  words = words_fit mask (mask_fits size mask h);
  places = subst (IsMask size) (sym (bits_again mask)) h;
}

-- the members whose place passes if the test of the size passes, and otherwise no member of a set
-- of two
unfoldable pub checked : (size : ℕ) (p : ℤ → Bool) (b : Bool) → is_size size ≡ b → Members
checked size p true e = with_mask size (mask_of p size) (checked_mask p size e)
checked size p false e = with_mask 2 0 empty_mask

-- the members of a set of this size whose place passes; for a size that no set has, no member of a
-- set of two
unfoldable pub closest : ℕ → (ℤ → Bool) → Members
closest size p = checked size p _ refl

-- the members of a set of this size at these places
abbrev pub at_places : ℕ → List ℕ → Members
at_places size places = closest size (λ v. list_any (λ place. int_eq (pos place) v) places)

-- every member of a set of this size
abbrev pub full : ℕ → Members
full size = closest size (λ v. true)

-- no member of a set of this size
abbrev pub empty : ℕ → Members
empty size = closest size (λ v. false)

-- the merge of two of one size: it leaves possible what both leave possible
abbrev pub meet_of : Members → Members → Members
meet_of m n = closest (size_of m) (λ v. allows m v && allows n v)

-- the members whose place passes, in words: of the size, and exactly the places that pass are
-- possible
pub record IsClosest (size : ℕ) (p : ℤ → Bool) (m : Members) : Type 0 where
  pub of_size : size_of m ≡ size
  pub holds : (k : ℕ) → k < size → allows m (pos k) ≡ p (pos k)
