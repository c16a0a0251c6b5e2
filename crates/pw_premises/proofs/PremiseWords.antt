-- What the operations on words do to the sets that the words hold.
use Rattle.std.specs.Prelude.{◌≡◌, ◌≢◌, ℕ, zero, suc, ◌+◌, ◌-◌, ◌*◌, ◌/◌, ◌%◌, ◌<◌, ◌≤◌, ◌^◌, Bool, true, false, not, ◌&&◌, ◌||◌, nat_eq, nat_lt, max, min, List, [], ◌∷◌, length, slice_index, set, replicate}
use Rattle.std.specs.List.{range_with_len}
use Rattle.std.specs.Ordering.{nat_cmp, eq_by_cmp}
use Rattle.std.specs.FinSet.{FinSet, empty, insert, remove, union, difference, contains, from_list, same_set, contains-empty, contains-insert, contains-remove, contains-difference, nat_cmp-IsAntisymmetric}
use Rattle.std.specs.Int.{bit_at, bit_not}
use Rattle.std.proofs.Common.{refl, sym, ap, ◌∙◌, arith, bit_and, bit_or, w64, inl, inr, ◌⊎◌}
use Rattle.std.proofs.lemmas.Bool.{cases_eq, eqb-true, eq-eqb}
use Rattle.std.proofs.lemmas.Bool.Decides.{nat_tests}
use Rattle.std.proofs.lemmas.List.{get_or-replicate, get_or-set_same, get_or-set_other, length-replicate, length-set}
use Rattle.std.proofs.lemmas.Nat.{and_le_l, div_below, le_or_l, le_or_r, mod_below, one_shl, or_lt}
use Rattle.std.proofs.lemmas.Nat.Bits.{bit_at-lt, bit_at_or, bit_at_and, bit_at_not, bit_at-pow_same, bit_at-pow_other, bit_at-zero, bit_at_ones, bit_at_ones_above, shr_and_one}
use Rattle.pw_premises.specs.inside.Words.{set_where, has_bit, has_bit_in, AreWords, set_of_words, words_of}
use Rattle.pw_premises.specs.PremiseSets.{contains-set_where_below, contains-set_where_past, set_where-alike, set_where-none, set_where-one, set_where-with, set_where-below, set_where-or, set_where-and_not, bit_at_place, words_again}
use Rattle.std.specs.Bool.{Decides}
use Rattle.std.specs.Cmp.{nat_cmp_total, unsigned_tied}

-- ---- the bits of one word
max_one : (a b : ℕ) → a < 2 → b < 2 → nat_eq (max a b) 1 ≡ (nat_eq a 1 || nat_eq b 1)
max_one a b h k = grind (arith, nat_tests)

pub has_bit-or : (a b q : ℕ) → has_bit (bit_or a b) q ≡ (has_bit a q || has_bit b q)
unfolding has_bit
has_bit-or a b q = ap (λ n. nat_eq n 1) (bit_at_or a b q) ∙ max_one (bit_at a q) (bit_at b q) (bit_at-lt a q) (bit_at-lt b q)

min_one : (a b : ℕ) → a < 2 → b < 2 → nat_eq (min a (1 - b)) 1 ≡ (nat_eq a 1 && not (nat_eq b 1))
min_one a b h k = grind (arith, nat_tests)

pub has_bit-and_not : (a b q : ℕ) → b < 2 ^ 64 → q < 64 → has_bit (bit_and a (bit_not w64 b)) q ≡ (has_bit a q && not (has_bit b q))
unfolding has_bit
has_bit-and_not a b q h k = ap (λ n. nat_eq n 1) (bit_at_and a _ q ∙ ap (λ n. min (bit_at a q) n) (bit_at_not w64 b q h k))
    ∙ min_one (bit_at a q) (bit_at b q) (bit_at-lt a q) (bit_at-lt b q)

pub has_bit-zero : (q : ℕ) → has_bit 0 q ≡ false
unfolding has_bit
has_bit-zero q = ap (λ n. nat_eq n 1) (bit_at-zero q)

has_bit-pow : (k q : ℕ) → has_bit (2 ^ k) q ≡ nat_eq q k
unfolding has_bit
has_bit-pow k q = elim (nat_eq q k) as (λ b. nat_eq q k ≡ b → has_bit (2 ^ k) q ≡ b) [
  | true ↦ λ e. ap (λ i. has_bit (2 ^ k) i) (eqb-true q k e) ∙ ap (λ n. nat_eq n 1) (bit_at-pow_same k)
  | false ↦ λ e. ap (λ n. nat_eq n 1) (bit_at-pow_other k q (grind (arith, nat_tests)))
] refl

has_bit-ones : (n q : ℕ) → has_bit (2 ^ n - 1) q ≡ nat_lt q n
unfolding has_bit
has_bit-ones n q = elim (nat_lt q n) as (λ b. nat_lt q n ≡ b → has_bit (2 ^ n - 1) q ≡ b) [
  | true ↦ λ e. ap (λ n. nat_eq n 1) (bit_at_ones n q (grind (arith, nat_tests)))
  | false ↦ λ e. ap (λ n. nat_eq n 1) (bit_at_ones_above n q (grind (arith, nat_tests)))
] refl

has_bit-shr : (a n : ℕ) → nat_eq (bit_and (a / 2 ^ n) 1) 1 ≡ has_bit a n
unfolding has_bit
has_bit-shr a n = ap (λ k. nat_eq k 1) (shr_and_one a n)

-- ---- eight words
-- the words that f gives for the places 0 to 7
abbrev eight : (ℕ → ℕ) → List ℕ
eight f = f 0 ∷ f 1 ∷ f 2 ∷ f 3 ∷ f 4 ∷ f 5 ∷ f 6 ∷ f 7 ∷ []

-- what holds at 0 to 7 holds at each place
pub of_eight : (p : ℕ → Type 0) → p 0 → p 1 → p 2 → p 3 → p 4 → p 5 → p 6 → p 7 → (i : ℕ) → i < 8 → p i
of_eight p a b c d e f g h zero l = a
of_eight p a b c d e f g h (suc zero) l = b
of_eight p a b c d e f g h (suc (suc zero)) l = c
of_eight p a b c d e f g h (suc (suc (suc zero))) l = d
of_eight p a b c d e f g h (suc (suc (suc (suc zero)))) l = e
of_eight p a b c d e f g h (suc (suc (suc (suc (suc zero))))) l = f
of_eight p a b c d e f g h (suc (suc (suc (suc (suc (suc zero)))))) l = g
of_eight p a b c d e f g h (suc (suc (suc (suc (suc (suc (suc zero))))))) l = h
of_eight p a b c d e f g h (suc (suc (suc (suc (suc (suc (suc (suc i)))))))) l = absurd (omega arith)

word_of_eight : (f : ℕ → ℕ) (i : ℕ) → i < 8 → slice_index (eight f) i ≡ f i
word_of_eight f = of_eight (λ i. slice_index (eight f) i ≡ f i) refl refl refl refl refl refl refl refl

eight_fit : (f : ℕ → ℕ) → ((i : ℕ) → i < 8 → f i < 2 ^ 64) → AreWords (eight f)
eight_fit f fits = record { many = refl; below = λ i l. let at : slice_index (eight f) i ≡ f i = word_of_eight f i l in let fit : f i < 2 ^ 64 = fits i l in omega (arith, at, fit) }

in_words : (q : ℕ) → (q / 64) * 64 + q % 64 ≡ q
in_words q = omega arith

-- words whose bits pass a test hold the set of the numbers that pass it
words_where : (words : List ℕ) (p : ℕ → Bool) → ((i k : ℕ) → i < 8 → k < 64 → has_bit (slice_index words i) k ≡ p (i * 64 + k)) → set_of_words words ≡ set_where 512 p
words_where words p same = set_where-alike 512 _ p (λ q h. same (q / 64) (q % 64) (div_below q 64 8 (omega arith) h) (mod_below q 64 (omega arith)) ∙ ap p (in_words q))

-- ---- what the code makes: no number, one, and the first ones
abbrev zeros : List ℕ
zeros = replicate 8 0

zero_at : (i : ℕ) → i < 8 → slice_index zeros i ≡ 0
zero_at i l = get_or-replicate 8 i 0 0 l

length_zeros : length zeros ≡ 8
length_zeros = let z : ℕ = 0 in length-replicate 8 z

pub no_words : AreWords zeros
no_words = record { many = length_zeros; below = λ i l. omega (arith, zero_at i l) }

pub none_in_words : set_of_words zeros ≡ empty
none_in_words = words_where zeros (λ _. false) (λ i k h l. ap (λ n. has_bit n k) (zero_at i h) ∙ has_bit-zero k) ∙ set_where-none 512

word_set : (j w : ℕ) → j < 8 → slice_index (set zeros j w) j ≡ w
word_set j w l = get_or-set_same zeros j w 0 (omega (arith, length_zeros, l))

word_beside : (j w i : ℕ) → i < 8 → i ≢ j → slice_index (set zeros j w) i ≡ 0
word_beside j w i l other = get_or-set_other zeros j i w 0 other ∙ zero_at i l

pub one_fits : (n : ℕ) → n < 512 → AreWords (set zeros (n / 64) (1 * 2 ^ (n % 64) % 18446744073709551616))
one_fits n h = record { many = length-set zeros _ _ ∙ length_zeros; below = λ i l. fits (n / 64) (1 * 2 ^ (n % 64) % 18446744073709551616) i (omega arith) (omega arith) l (cases_eq i (n / 64)) } where
  fits : (j w i : ℕ) → j < 8 → w < 2 ^ 64 → i < 8 → (i ≡ j) ⊎ (i ≢ j) → slice_index (set zeros j w) i < 2 ^ 64
  fits j w i h k l (inl same) = let at : slice_index (set zeros j w) i ≡ w = ap (slice_index (set zeros j w)) same ∙ word_set j w h in omega (arith, at, k)
  fits j w i h k l (inr other) = omega (arith, word_beside j w i l other)

this_place : (n i k : ℕ) → k < 64 → i ≡ n / 64 → nat_eq k (n % 64) ≡ nat_eq (i * 64 + k) n
this_place n i k h e = grind (arith, nat_tests)

other_place : (n i k : ℕ) → k < 64 → i ≢ n / 64 → false ≡ nat_eq (i * 64 + k) n
other_place n i k h e = grind (arith, nat_tests)

pub one_in_words : (n : ℕ) → n < 512 → set_of_words (set zeros (n / 64) (1 * 2 ^ (n % 64) % 18446744073709551616)) ≡ insert empty n
one_in_words n h = words_where (set zeros (n / 64) word) (λ q. nat_eq q n) (λ i k l m. at i k l m (cases_eq i (n / 64))) ∙ set_where-one 512 n h where
  word : ℕ
  word = 1 * 2 ^ (n % 64) % 18446744073709551616

  at : (i k : ℕ) → i < 8 → k < 64 → (i ≡ n / 64) ⊎ (i ≢ n / 64) → has_bit (slice_index (set zeros (n / 64) word) i) k ≡ nat_eq (i * 64 + k) n
  at i k l m (inl same) = ap (λ j. has_bit (slice_index (set zeros (n / 64) word) j) k) same ∙ ap (λ w. has_bit w k) (word_set (n / 64) word (omega arith) ∙ one_shl (n % 64) 64 (mod_below n 64 (omega arith)))
      ∙ has_bit-pow (n % 64) k ∙ this_place n i k m same
  at i k l m (inr other) = ap (λ w. has_bit w k) (word_beside (n / 64) word i l other) ∙ has_bit-zero k ∙ other_place n i k m other

-- ---- words with one more bit
abbrev bit_word : ℕ → ℕ
bit_word n = 1 * 2 ^ (n % 64) % 18446744073709551616

bit_word_is : (n : ℕ) → bit_word n ≡ 2 ^ (n % 64)
bit_word_is n = one_shl (n % 64) 64 (mod_below n 64 (omega arith))

set_at : (words : List ℕ) (j w : ℕ) → AreWords words → j < 8 → slice_index (set words j w) j ≡ w
set_at words j w fits l = let many : length words ≡ 8 = fits.many in get_or-set_same words j w 0 (omega (arith, l, many))

set_beside : (words : List ℕ) (j w i : ℕ) → i ≢ j → slice_index (set words j w) i ≡ slice_index words i
set_beside words j w i other = get_or-set_other words j i w 0 other

pub with_fits : (words : List ℕ) (n : ℕ) → AreWords words → n < 512 → AreWords (set words (n / 64) (bit_or (slice_index words (n / 64)) (1 * 2 ^ (n % 64) % 18446744073709551616)))
with_fits words n fits h = record { many = length-set words _ _ ∙ fits.many; below = λ i l. at i l (cases_eq i (n / 64)) } where
  j : ℕ
  j = n / 64

  word : ℕ
  word = bit_or (slice_index words j) (bit_word n)

  low : word < 2 ^ 64
  low = or_lt 64 (slice_index words j) (bit_word n) (fits.below j (omega arith)) (mod_below (1 * 2 ^ (n % 64)) 18446744073709551616 (omega arith))

  at : (i : ℕ) → i < 8 → (i ≡ j) ⊎ (i ≢ j) → slice_index (set words j word) i < 2 ^ 64
  at i l (inl same) = let here : slice_index (set words j word) i ≡ word = ap (slice_index (set words j word)) same ∙ set_at words j word fits (omega arith) in let small : word < 2 ^ 64 = low in omega (arith, here, small)
  at i l (inr other) = let below : slice_index words i < 2 ^ 64 = fits.below i l in omega (arith, set_beside words j word i other, below)

or_first : (a b : Bool) → a ≡ false → b ≡ (a || b)
or_first false b e = refl
or_first true b e = absurd (cc)

or_swap : (a b : Bool) → (a || b) ≡ (b || a)
or_swap true true = refl
or_swap true false = refl
or_swap false true = refl
or_swap false false = refl

or_turned : (a b c : Bool) → a ≡ b → (c || a) ≡ (b || c)
or_turned a b c e = ap (λ x. c || x) e ∙ or_swap c b

pub with_in_words : (words : List ℕ) (n : ℕ) → AreWords words → n < 512
    → set_of_words (set words (n / 64) (bit_or (slice_index words (n / 64)) (1 * 2 ^ (n % 64) % 18446744073709551616))) ≡ insert (set_of_words words) n
with_in_words words n fits h = words_where (set words j word) (λ q. nat_eq q n || has_bit_in words q) (λ i k l m. at i k l m (cases_eq i j)) ∙ set_where-with 512 n (has_bit_in words) h where
  j : ℕ
  j = n / 64

  word : ℕ
  word = bit_or (slice_index words j) (bit_word n)

  at : (i k : ℕ) → i < 8 → k < 64 → (i ≡ j) ⊎ (i ≢ j) → has_bit (slice_index (set words j word) i) k ≡ (nat_eq (i * 64 + k) n || has_bit_in words (i * 64 + k))
  at i k l m (inl same) =
      ap (λ w. has_bit w k) (ap (slice_index (set words j word)) same ∙ set_at words j word fits (omega arith))
      ∙ has_bit-or (slice_index words j) (bit_word n) k
      ∙ or_turned _ _ (has_bit (slice_index words j) k) (ap (λ w. has_bit w k) (bit_word_is n) ∙ has_bit-pow (n % 64) k ∙ this_place n i k m same)
      ∙ ap (λ b. nat_eq (i * 64 + k) n || b) (ap (λ x. has_bit (slice_index words x) k) (sym same) ∙ sym (bit_at_place words i k m))
  at i k l m (inr other) =
      ap (λ w. has_bit w k) (set_beside words j word i other)
      ∙ sym (bit_at_place words i k m)
      ∙ or_first (nat_eq (i * 64 + k) n) _ (sym (other_place n i k m other))

pub first_in_words : (a b c d e f g h n : ℕ) → n ≤ 512
    → ((k : ℕ) → k < 64 → has_bit a k ≡ nat_lt (0 + k) n) → ((k : ℕ) → k < 64 → has_bit b k ≡ nat_lt (64 + k) n)
    → ((k : ℕ) → k < 64 → has_bit c k ≡ nat_lt (128 + k) n) → ((k : ℕ) → k < 64 → has_bit d k ≡ nat_lt (192 + k) n)
    → ((k : ℕ) → k < 64 → has_bit e k ≡ nat_lt (256 + k) n) → ((k : ℕ) → k < 64 → has_bit f k ≡ nat_lt (320 + k) n)
    → ((k : ℕ) → k < 64 → has_bit g k ≡ nat_lt (384 + k) n) → ((k : ℕ) → k < 64 → has_bit h k ≡ nat_lt (448 + k) n)
    → set_of_words (a ∷ b ∷ c ∷ d ∷ e ∷ f ∷ g ∷ h ∷ []) ≡ from_list (range_with_len 0 n)
first_in_words a b c d e f g h n l in_a in_b in_c in_d in_e in_f in_g in_h =
    words_where words (λ q. nat_lt q n) (λ i k l. of_eight (λ i. (k : ℕ) → k < 64 → has_bit (slice_index words i) k ≡ nat_lt (i * 64 + k) n) in_a in_b in_c in_d in_e in_f in_g in_h i l k)
    ∙ set_where-below 512 n l where
      words : List ℕ
      words = a ∷ b ∷ c ∷ d ∷ e ∷ f ∷ g ∷ h ∷ []

pub first_fits : (a b c d e f g h : ℕ) → a < 2 ^ 64 → b < 2 ^ 64 → c < 2 ^ 64 → d < 2 ^ 64 → e < 2 ^ 64 → f < 2 ^ 64 → g < 2 ^ 64 → h < 2 ^ 64
    → AreWords (a ∷ b ∷ c ∷ d ∷ e ∷ f ∷ g ∷ h ∷ [])
first_fits a b c d e f g h fit_a fit_b fit_c fit_d fit_e fit_f fit_g fit_h =
    record { many = refl; below = of_eight (λ i. slice_index (a ∷ b ∷ c ∷ d ∷ e ∷ f ∷ g ∷ h ∷ []) i < 2 ^ 64) fit_a fit_b fit_c fit_d fit_e fit_f fit_g fit_h }

-- the bits of `below_from`
pub no_bit_below : (start n : ℕ) → n ≤ start → (k : ℕ) → k < 64 → has_bit 0 k ≡ nat_lt (start + k) n
no_bit_below start n h k l = has_bit-zero k ∙ grind (arith, nat_tests)

pub all_bits_below : (start n : ℕ) → 64 ≤ n - start → (k : ℕ) → k < 64 → has_bit 18446744073709551615 k ≡ nat_lt (start + k) n
all_bits_below start n h k l = has_bit-ones 64 k ∙ grind (arith, nat_tests)

pub some_bits_below : (start n : ℕ) → start < n → n - start < 64 → (k : ℕ) → k < 64
    → has_bit (1 * 2 ^ (n - start) % 18446744073709551616 - 1) k ≡ nat_lt (start + k) n
some_bits_below start n h l k _ = ap (λ w. has_bit (w - 1) k) (one_shl (n - start) 64 l) ∙ has_bit-ones (n - start) k ∙ grind (arith, nat_tests)

-- ---- union and difference
abbrev pub joined : List ℕ → List ℕ → List ℕ
joined xs ys = eight (λ i. bit_or (slice_index xs i) (slice_index ys i))

pub join_fits : (xs ys : List ℕ) → AreWords xs → AreWords ys → AreWords (joined xs ys)
join_fits xs ys h k = eight_fit _ (λ i l. or_lt 64 _ _ (h.below i l) (k.below i l))

pub join_in_words : (xs ys : List ℕ) → set_of_words (joined xs ys) ≡ union (set_of_words xs) (set_of_words ys)
join_in_words xs ys = words_where (joined xs ys) (λ q. has_bit_in xs q || has_bit_in ys q) (λ i k h l.
    ap (λ n. has_bit n k) (word_of_eight (λ i. bit_or (slice_index xs i) (slice_index ys i)) i h)
    ∙ has_bit-or _ _ k ∙ sym (λ t. bit_at_place xs i k l t || bit_at_place ys i k l t)) ∙ set_where-or 512 (has_bit_in xs) (has_bit_in ys)

abbrev pub left_of : List ℕ → List ℕ → List ℕ
left_of xs ys = eight (λ i. bit_and (slice_index xs i) (18446744073709551615 - slice_index ys i))

pub difference_fits : (xs ys : List ℕ) → AreWords xs → AreWords (left_of xs ys)
difference_fits xs ys h = eight_fit (λ i. bit_and (slice_index xs i) (18446744073709551615 - slice_index ys i)) (λ i l. omega (arith, h.below i l, and_le_l (slice_index xs i) (18446744073709551615 - slice_index ys i)))

pub difference_in_words : (xs ys : List ℕ) → AreWords ys → set_of_words (left_of xs ys) ≡ difference (set_of_words xs) (set_of_words ys)
difference_in_words xs ys fits = words_where (left_of xs ys) (λ q. has_bit_in xs q && not (has_bit_in ys q)) (λ i k h l.
    ap (λ n. has_bit n k) (word_of_eight (λ i. bit_and (slice_index xs i) (18446744073709551615 - slice_index ys i)) i h)
    ∙ has_bit-and_not _ _ k (fits.below i h) l ∙ sym (λ t. bit_at_place xs i k l t && not (bit_at_place ys i k l t))) ∙ set_where-and_not 512 (has_bit_in xs) (has_bit_in ys)

taken_away : (a b : Bool) → (a && not (b || false)) ≡ (not b && a)
taken_away true true = refl
taken_away false true = refl
taken_away true false = refl
taken_away false false = refl

-- to take a number away is to take away the set of it alone
pub difference_of_one : (s : FinSet nat_cmp) (n : ℕ) → difference s (insert empty n) ≡ remove s n
difference_of_one s n = same_set nat_cmp_total nat_cmp-IsAntisymmetric _ _ (λ q. contains-difference nat_cmp_total s (insert empty n) q
    ∙ ap (λ b. contains s q && not b) (contains-insert nat_cmp_total empty n q ∙ ap (λ b. eq_by_cmp nat_cmp q n || b) (contains-empty nat_cmp q))
    ∙ taken_away (contains s q) (eq_by_cmp nat_cmp q n) ∙ sym (contains-remove nat_cmp_total s n q))

unchanged : (a b : Bool) → (a ≡ true → b ≡ false) → (not a && b) ≡ b
unchanged true b absent = sym (absent refl)
unchanged false b absent = refl

not_below : (n : ℕ) → 512 ≤ n → nat_lt n 512 ≡ false
not_below n h = grind (arith, nat_tests)

-- no number from 512 on is there to be taken away
pub without_past : (words : List ℕ) (n : ℕ) → 512 ≤ n → remove (set_of_words words) n ≡ set_of_words words
without_past words n h = same_set nat_cmp_total nat_cmp-IsAntisymmetric _ _ (λ q. contains-remove nat_cmp_total _ n q
    ∙ unchanged (eq_by_cmp nat_cmp q n) _ (λ same. ap (contains (set_of_words words)) (eqb-true q n (sym (unsigned_tied q n) ∙ same))
    ∙ contains-set_where_past 512 (has_bit_in words) n h ∙ not_below n h))

-- ---- tests
pub bit_in_words : (words : List ℕ) (n : ℕ) → n < 512 → nat_eq (bit_and (slice_index words (n / 64) / 2 ^ (n % 64)) 1) 1 ≡ contains (set_of_words words) n
bit_in_words words n h = has_bit-shr _ _ ∙ sym (contains-set_where_below 512 (has_bit_in words) n h)

pub past_words : (words : List ℕ) (n : ℕ) → 512 ≤ n → contains (set_of_words words) n ≡ nat_lt n 512
past_words words n h = contains-set_where_past 512 (has_bit_in words) n h

abbrev all_or : (ℕ → ℕ) → ℕ
all_or f = bit_or (bit_or (bit_or (bit_or (bit_or (bit_or (bit_or (f 0) (f 1)) (f 2)) (f 3)) (f 4)) (f 5)) (f 6)) (f 7)

pub no_left : (a b : ℕ) → bit_or a b ≡ 0 → a ≡ 0
no_left a b e = omega (arith, e, le_or_l a b)

pub no_right : (a b : ℕ) → bit_or a b ≡ 0 → b ≡ 0
no_right a b e = omega (arith, e, le_or_r a b)

-- all of eight words are 0 where their union is
each_is_zero : (f : ℕ → ℕ) → all_or f ≡ 0 → (i : ℕ) → i < 8 → f i ≡ 0
each_is_zero f e =
    let e6 = no_left _ _ e in
    let e5 = no_left _ _ e6 in
    let e4 = no_left _ _ e5 in
    let e3 = no_left _ _ e4 in
    let e2 = no_left _ _ e3 in
    let e1 = no_left _ _ e2 in
    of_eight (λ i. f i ≡ 0) (no_left _ _ e1) (no_right _ _ e1) (no_right _ _ e2) (no_right _ _ e3) (no_right _ _ e4) (no_right _ _ e5) (no_right _ _ e6) (no_right _ _ e)

all_are_zero : (f : ℕ → ℕ) → ((i : ℕ) → i < 8 → f i ≡ 0) → all_or f ≡ 0
all_are_zero f none = λ t. bit_or (bit_or (bit_or (bit_or (bit_or (bit_or (bit_or (none 0 (omega arith) t) (none 1 (omega arith) t)) (none 2 (omega arith) t)) (none 3 (omega arith) t)) (none 4 (omega arith) t)) (none 5 (omega arith) t)) (none 6 (omega arith) t)) (none 7 (omega arith) t)

-- the words are 0 exactly if their set is empty
pub empty_words : (words : List ℕ) → AreWords words → Decides (nat_eq (all_or (slice_index words)) 0) (set_of_words words ≡ empty)
empty_words words fits = (
  λ e. words_where words (λ _. false) (λ i k h l. ap (λ n. has_bit n k) (each_is_zero (slice_index words) (eqb-true _ 0 e) i h) ∙ has_bit-zero k) ∙ set_where-none 512,
  λ e. eq-eqb _ 0 (all_are_zero (slice_index words) (λ i h. sym (ap (λ ws. slice_index ws i) (words_again words fits))
      ∙ ap (λ s. slice_index (words_of s) i) (e ∙ sym none_in_words) ∙ ap (λ ws. slice_index ws i) (words_again zeros no_words) ∙ zero_at i h)),
)

-- the words of a set are those that hold it
pub words_of_set : (words : List ℕ) (s : FinSet nat_cmp) → AreWords words → set_of_words words ≡ s → words_of s ≡ words
words_of_set words s fits is = sym (ap words_of is) ∙ words_again words fits
