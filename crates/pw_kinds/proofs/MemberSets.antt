-- Members by the places that they leave possible.
use Rattle.std.proofs.Common.{◌≡◌, ℕ, ℤ, pos, negsuc, ◌+◌, ◌*◌, ◌%◌, ◌^◌, ◌<◌, ◌≤◌, ◌==◌, ◌&&◌, ◌||◌, inl, inr, Bool, true, false, arith, refl, sym, ◌∙◌, ap, subst, bit_and, bit_or}
use Rattle.std.specs.Int.Signed.{le_z, lt_z}
use Rattle.std.specs.Int.{bit_at}
use Rattle.std.proofs.lemmas.Int.{ints}
use Rattle.std.specs.Ordering.{int_eq}
use Rattle.std.proofs.lemmas.Bool.{cases_lt, eqb-true, eq-eqb}
use Rattle.std.proofs.lemmas.Bool.Decides.{Decides-int_eq}
use Rattle.std.proofs.Props.{props}
use Rattle.std.proofs.lemmas.Nat.{pow_pos, and_le_l}
use Rattle.std.proofs.lemmas.Nat.Bits.{same_from_bits, bit_at-lt}
use mathlib.Core.HLevel.{is_prop→PathP}
use Rattle.pw_kinds.specs.declared.members.Members.{Members}
use Rattle.pw_kinds.specs.Places.{IsSize, IsMask, is_size, is_place, mask_allows, mask_of}
use Rattle.pw_kinds.specs.Masks.{AreWords, bits_of_words, first_word, second_word, third_word, fourth_word, words_again, bits_again}
use Rattle.pw_kinds.specs.Members.{size_of, mask_in, allows, checked, closest, full, empty, meet_of, IsEmpty, IsFull, IsWithin, IsClosest}
use Rattle.pw_kinds.proofs.Order.{both_true, true_both, same_test, is_false, not_both}
use Rattle.pw_kinds.proofs.Masks.{same_bit, bit_below, bit_of_mask, all_bits, all_bits_is, no_bits, no_bits_is, bits_of_both, inside_both, with_bit}

mask_prop : (size mask : ℕ) → IsProp (IsMask size mask)
mask_prop size mask = hlevel props

words_prop : (a b c d : ℕ) → IsProp (AreWords a b c d)
words_prop a b c d = hlevel props

same_words : (m n : Members) → m.size ≡ n.size → m.first ≡ n.first → m.second ≡ n.second → m.third ≡ n.third → m.fourth ≡ n.fourth → m ≡ n
same_words m n size first second third fourth = λ k. record {
  size = size k;
  first = first k;
  second = second k;
  third = third k;
  fourth = fourth k;
  words = is_prop→PathP (λ k. AreWords (first k) (second k) (third k) (fourth k)) (λ k. words_prop (first k) (second k) (third k) (fourth k)) m.words n.words k;
  places = is_prop→PathP (λ k. IsMask (size k) (bits_of_words (first k) (second k) (third k) (fourth k)))
      (λ k. mask_prop (size k) (bits_of_words (first k) (second k) (third k) (fourth k))) m.places n.places k;
}

-- of one size with the same mask they are equal
pub same_mask : (m n : Members) → m.size ≡ n.size → mask_in m ≡ mask_in n → m ≡ n
same_mask m n size mask =
    let one = words_again m.first m.second m.third m.fourth m.words in
    let other = words_again n.first n.second n.third n.fourth n.words in
    same_words m n size (sym one.0 ∙ ap first_word mask ∙ other.0) (sym one.1 ∙ ap second_word mask ∙ other.1)
    (sym one.2 ∙ ap third_word mask ∙ other.2) (sym one.3 ∙ ap fourth_word mask ∙ other.3)

-- of one size with the same places possible they are equal
pub same_values : (m n : Members) → size_of m ≡ size_of n → ((v : ℤ) → allows m v ≡ allows n v) → m ≡ n
same_values m n size same = same_mask m n size (same_from_bits (mask_in m) (mask_in n) (λ k. same_bit _ _ (bit_at-lt (mask_in m) k) (bit_at-lt (mask_in n) k) (same (pos k))))

-- the size of members is one that a set may have
pub size_is : (m : Members) → IsSize (size_of m)
size_is m = let places : IsMask m.size (mask_in m) = m.places in (places.fewest, places.most)

pub size_true : (size : ℕ) → IsSize size → is_size size ≡ true
size_true size (least, most) = grind arith

-- the places of a set of this size
pub place_true : (size k : ℕ) → k < size → is_place size (pos k) ≡ true
place_true size k h = both_true (le_z (pos 0) (pos k)) (lt_z (pos k) (pos size)) (grind (arith, ints)) (grind (arith, ints))

pub true_place : (size k : ℕ) → is_place size (pos k) ≡ true → k < size
true_place size k e = let both : (le_z (pos 0) (pos k) ≡ true) × (lt_z (pos k) (pos size) ≡ true) = true_both _ _ e in grind (arith, ints)

pub place_negative : (size k : ℕ) → is_place size (negsuc k) ≡ false
place_negative size k = is_false _ (λ e. let both : (le_z (pos 0) (negsuc k) ≡ true) × (lt_z (negsuc k) (pos size) ≡ true) = true_both _ _ e in grind (arith, ints))

-- a possible place is below the size
pub allows_below : (m : Members) (k : ℕ) → allows m (pos k) ≡ true → k < size_of m
allows_below m k e = let places : IsMask m.size (mask_in m) = m.places in bit_below (mask_in m) m.size k places.below e

-- what is possible is the place of a member
pub allows_in_size : (m : Members) (v : ℤ) → allows m v ≡ true → is_place (size_of m) v ≡ true
allows_in_size m (pos k) e = place_true (size_of m) k (allows_below m k e)
allows_in_size m (negsuc k) e = absurd (not_both _ e refl)

-- no place at or past the size is possible
pub allows_past : (m : Members) (k : ℕ) → size_of m ≤ k → allows m (pos k) ≡ false
allows_past m k h = is_false _ (λ e. let l : k < size_of m = allows_below m k e in omega arith)

each_value : (m n : Members) → size_of m ≡ size_of n → ((k : ℕ) → k < size_of m → allows m (pos k) ≡ allows n (pos k)) → (v : ℤ) → allows m v ≡ allows n v
each_value m n size same (pos k) = elim (cases_lt k (size_of m)) [
  | inl l ↦ same k l
  | inr g ↦ allows_past m k g ∙ sym (allows_past n k (subst (λ s. s ≤ k) size g))
]
each_value m n size same (negsuc k) = refl

-- of one size with the same places of the set possible they are equal
pub same_places : (m n : Members) → size_of m ≡ size_of n → ((k : ℕ) → k < size_of m → allows m (pos k) ≡ allows n (pos k)) → m ≡ n
same_places m n size same = same_values m n size (each_value m n size same)

checked_is : (size : ℕ) (p : ℤ → Bool) (b : Bool) (e : is_size size ≡ b) → b ≡ true → ((checked size p b e).size ≡ size) × (mask_in (checked size p b e) ≡ mask_of p size)
unfolding checked
checked_is size p true e t = (refl, bits_again (mask_of p size))
checked_is size p false e t = absurd (cc)

closest_fields : (size : ℕ) (p : ℤ → Bool) → IsSize size → ((closest size p).size ≡ size) × (mask_in (closest size p) ≡ mask_of p size)
unfolding closest
closest_fields size p h = checked_is size p _ refl (size_true size h)

pub size_of-closest : (size : ℕ) (p : ℤ → Bool) → IsSize size → size_of (closest size p) ≡ size
size_of-closest size p h = (closest_fields size p h).0

-- the places that pass are exactly those that are possible
pub allows-closest : (size : ℕ) (p : ℤ → Bool) → IsSize size → (k : ℕ) → k < size → allows (closest size p) (pos k) ≡ p (pos k)
allows-closest size p h k l = ap (λ m. bit_at m k == 1) (closest_fields size p h).1 ∙ bit_of_mask p size k l

-- the closest members are what their name says
pub closest_closest : (size : ℕ) (p : ℤ → Bool) → IsSize size → IsClosest size p (closest size p)
closest_closest size p h = record { of_size = size_of-closest size p h; holds = allows-closest size p h }

-- members of which exactly the places that pass are possible are the closest
pub closest_is : (size : ℕ) (p : ℤ → Bool) (m : Members) → size_of m ≡ size → ((k : ℕ) → k < size → allows m (pos k) ≡ p (pos k)) → m ≡ closest size p
closest_is size p m e same =
    let size' : IsSize size = subst IsSize e (size_is m) in
    same_places m (closest size p) (e ∙ sym (size_of-closest size p size')) (λ k h. let l : k < size = subst (λ s. k < s) e h in same k l ∙ sym (allows-closest size p size' k l))

-- every member, none, and a merge
pub allows-full : (size : ℕ) → IsSize size → (v : ℤ) → allows (full size) v ≡ is_place size v
allows-full size h (pos k) = same_test _ _
    (λ e. let l : k < size_of (full size) = allows_below (full size) k e in place_true size k (subst (λ s. k < s) (size_of-closest size (λ v. true) h) l))
    (λ e. allows-closest size (λ v. true) h k (true_place size k e))
allows-full size h (negsuc k) = sym (place_negative size k)

pub allows-empty : (size : ℕ) → IsSize size → IsEmpty (empty size)
allows-empty size h (pos k) = is_false _ (λ e.
    let l : k < size_of (empty size) = allows_below (empty size) k e in
    not_both _ e (allows-closest size (λ v. false) h k (subst (λ s. k < s) (size_of-closest size (λ v. false) h) l)))
allows-empty size h (negsuc k) = refl

pub size_of-meet : (m n : Members) → size_of (meet_of m n) ≡ size_of m
size_of-meet m n = size_of-closest (size_of m) (λ v. allows m v && allows n v) (size_is m)

pub allows-meet : (m n : Members) (v : ℤ) → allows (meet_of m n) v ≡ (allows m v && allows n v)
allows-meet m n (pos k) = elim (cases_lt k (size_of m)) [
  | inl l ↦ allows-closest (size_of m) (λ v. allows m v && allows n v) (size_is m) k l
  | inr g ↦ allows_past (meet_of m n) k (subst (λ s. s ≤ k) (sym (size_of-meet m n)) g) ∙ sym (is_false _ (λ e. not_both _ (true_both _ _ e).0 (allows_past m k g)))
]
allows-meet m n (negsuc k) = refl

-- members from a merge: what both leave possible
pub meet_is : (m n r : Members) → size_of r ≡ size_of m → ((v : ℤ) → allows r v ≡ (allows m v && allows n v)) → r ≡ meet_of m n
meet_is m n r size same = same_values r (meet_of m n) (size ∙ sym (size_of-meet m n)) (λ v. same v ∙ sym (allows-meet m n v))

-- ---- the meaning of the code's masks

-- a mask with every bit set
pub full_values : (size mask : ℕ) → mask + 1 ≡ 2 ^ size → (v : ℤ) → mask_allows mask v ≡ is_place size v
full_values size mask e (pos k) = same_test _ _
    (λ a. let below : mask < 2 ^ size = omega arith in place_true size k (bit_below mask size k below a))
    (λ p. all_bits mask size k e (true_place size k p))
full_values size mask e (negsuc k) = sym (place_negative size k)

pub full_is : (m : Members) → (mask_in m) + 1 ≡ 2 ^ m.size → m ≡ full (size_of m)
full_is m e = closest_is (size_of m) (λ v. true) m refl (λ k l. all_bits (mask_in m) m.size k e l)

pub full_mask_is : (m : Members) (all : ℕ) → all + 1 ≡ 2 ^ m.size → IsFull m → (mask_in m) ≡ all
full_mask_is m all e h = let places : IsMask m.size (mask_in m) = m.places in all_bits_is (mask_in m) m.size all places.below e h

pub mask_full : (m : Members) (all : ℕ) → all + 1 ≡ 2 ^ m.size → (mask_in m) ≡ all → IsFull m
mask_full m all e same k l = all_bits (mask_in m) m.size k (ap (λ x. x + 1) same ∙ e) l

-- a mask with no bit set
pub empty_values : (m : Members) → (mask_in m) ≡ 0 → IsEmpty m
empty_values m e (pos k) = ap (λ x. bit_at x k == 1) e ∙ no_bits k
empty_values m e (negsuc k) = refl

pub empty_mask_is : (m : Members) → IsEmpty m → (mask_in m) ≡ 0
empty_mask_is m h = no_bits_is (mask_in m) (λ k. h (pos k))

-- the mask of a merge
pub both_values : (a b : ℕ) (v : ℤ) → mask_allows (bit_and a b) v ≡ (mask_allows a v && mask_allows b v)
both_values a b (pos k) = bits_of_both a b k
both_values a b (negsuc k) = refl

pub within_mask : (m n : Members) → IsWithin m n → bit_and (mask_in m) (mask_in n) ≡ (mask_in m)
within_mask m n w = inside_both (mask_in m) (mask_in n) (λ k. w (pos k))

pub mask_within : (m n : Members) → bit_and (mask_in m) (mask_in n) ≡ (mask_in m) → IsWithin m n
mask_within m n e (pos k) h = (true_both _ _ (sym (bits_of_both (mask_in m) (mask_in n) k) ∙ ap (λ x. bit_at x k == 1) e ∙ h)).1
mask_within m n e (negsuc k) h = absurd (not_both _ h refl)

-- ---- the members that the code makes of a mask

pub meet_mask_is : (m n r : Members) → size_of r ≡ size_of m → mask_in r ≡ bit_and (mask_in m) (mask_in n) → r ≡ meet_of m n
meet_mask_is m n r size mask = meet_is m n r size (λ v. ap (λ bits. mask_allows bits v) mask ∙ both_values (mask_in m) (mask_in n) v)

pub full_mask_exact : (size : ℕ) (r : Members) → size_of r ≡ size → mask_in r + 1 ≡ 2 ^ size → r ≡ full size
full_mask_exact size r is mask = closest_is size (λ v. true) r is (λ k l. all_bits (mask_in r) size k mask l)

pub empty_mask_exact : (size : ℕ) (r : Members) → size_of r ≡ size → mask_in r ≡ 0 → r ≡ empty size
empty_mask_exact size r is mask = closest_is size (λ v. false) r is (λ k l. ap (λ x. bit_at x k == 1) mask ∙ no_bits k)

-- the masks that the code makes fit the size
pub empty_fits : (size : ℕ) → IsSize size → IsMask size 0
empty_fits size h = record { fewest = h.0; most = h.1; below = pow_pos size }

pub full_fits : (size mask : ℕ) → IsSize size → mask + 1 ≡ 2 ^ size → IsMask size mask
full_fits size mask h e = record { fewest = h.0; most = h.1; below = omega (arith, e) }

pub and_fits : (size a b : ℕ) → IsMask size a → IsMask size (bit_and a b)
and_fits size a b h = let below : a < 2 ^ size = h.below in record { fewest = h.fewest; most = h.most; below = omega (arith, below, and_le_l a b) }

pub zero_values : (v : ℤ) → mask_allows 0 v ≡ false
zero_values (pos k) = no_bits k
zero_values (negsuc k) = refl

-- the test of a place, as the test of its number
place_test : (k i : ℕ) → (k == i) ≡ int_eq (pos k) (pos i)
place_test k i = same_test _ _
    (λ e. (Decides-int_eq (pos k) (pos i)).1 (ap pos (eqb-true k i e)))
    (λ e. eq-eqb k i (let same : pos k ≡ pos i = (Decides-int_eq (pos k) (pos i)).0 e in omega (arith, ints, same)))

-- a mask with one more bit
pub with_values : (m k : ℕ) → k < 128 → (v : ℤ) → mask_allows (bit_or m (1 * 2 ^ k % 340282366920938463463374607431768211456)) v ≡ (mask_allows m v || int_eq (pos k) v)
with_values m k h (pos i) = with_bit m k i h ∙ ap (λ b. (bit_at m i == 1) || b) (place_test k i)
with_values m k h (negsuc i) = refl
