-- An agenda while the readers of a cell are queued, one after another.
use Rattle.std.proofs.Common.{rules, ◌≡◌, ◌⊎◌, ℕ, ◌+◌, ◌-◌, ◌<◌, ◌≤◌, Bool, true, false, cond, inl, inr, List, [], ◌∷◌, ◌++◌, All, Contains, length, length-append, map, get_or, set, refl, sym, ap, ◌∙◌, subst, arith}
use Rattle.std.specs.List.{count_by}
use Rattle.std.proofs.lemmas.List.{get_or_append_left, get_or-append_right, get_or_default, same_lists}
use Rattle.std.proofs.lemmas.List.Elements.{All-contains, All-contains_itself, All-filter, Contains-append_cases}
use Rattle.std.proofs.lemmas.List.Sums.{sum_by-append, sum_by-set}
use Rattle.pw_decl.proofs.FlatKept.{range_below}
use Rattle.pw_network.specs.Network.{Network}
use Rattle.pw_network.specs.Readers.{reads, readers_of}
use Rattle.pw_settle.specs.Calls.{is_set, tally}
use Rattle.pw_settle.specs.inside.Queueing.{QueuesNumbers, QueuesReaders}

-- what reads a cell is an instance
pub readers_below : (network : Network) (cell count : ℕ) → count ≡ length network.attached → All (λ n. n < count) (readers_of network cell)
readers_below network cell count as_many =
    All-filter (λ n. get_or (map (reads cell) network.attached) n false) (λ n. n < count) _
    (range_below (length network.attached - 0) count (omega (arith, as_many)))

-- one that is seen was queued, whether it waited already or not
pub one_queued : (seen old new : List Bool) (number : ℕ) → number < length old → is_set seen number ≡ true → new ≡ set old number true →
    QueuesNumbers seen (number ∷ []) old new
one_queued seen old new number below sees is = record {
  flags = search rules;
  stay = search rules;
  queued = search rules;
  others = search rules;
  most = omega (arith, sum_by-set (λ b. cond b 1 0) old number true false below, ap tally is, ap {B = ℕ} (λ b. cond b 1 0) sees);
  least = omega (arith, sum_by-set (λ b. cond b 1 0) old number true false below, ap tally is, bit_most (get_or old number false));
} where
  bit_most : (bit : Bool) → cond bit 1 0 ≤ 1
  bit_most true = omega arith
  bit_most false = omega arith

-- so far the readers that are no longer left were queued, if they are visible
pub record AreQueuedBut (visible old now : List Bool) (readers left : List ℕ) : Type 0 where
  pub queued : (n : ℕ) → Contains readers n → is_set visible n ≡ true → (is_set now n ≡ true) ⊎ Contains left n
  pub stay : (n : ℕ) → is_set old n ≡ true → is_set now n ≡ true
  pub others : (n : ℕ) → is_set now n ≡ true → (is_set old n ≡ true) ⊎ ((is_set visible n ≡ true) × Contains readers n)
  pub most : tally now + count_by (is_set visible) left ≤ tally old + count_by (is_set visible) readers
  pub least : tally old ≤ tally now
  pub flags : length now ≡ length old
  pub below : All (λ n. n < length old) left
  pub among : All (Contains readers) left

-- at first all are left
pub all_left : (visible flags : List Bool) (readers left : List ℕ) → left ≡ readers → All (λ n. n < length flags) readers →
    AreQueuedBut visible flags flags readers left
all_left visible flags readers left all below = record {
  queued = λ n reader seen. inr (subst (λ (l : List ℕ). Contains l n) (sym all) reader);
  stay = λ n flag. flag;
  others = λ n flag. inl flag;
  most = omega (arith, ap (count_by (is_set visible)) all);
  least = omega arith;
  flags = refl;
  below = subst (All (λ n. n < length flags)) (sym all) below;
  among = subst (All (Contains readers)) (sym all) (All-contains_itself readers);
}

-- when none is left, all that are visible are queued
pub none_left : (visible old now : List Bool) (readers left : List ℕ) → AreQueuedBut visible old now readers left → left ≡ [] →
    (n : ℕ) → Contains readers n → is_set visible n ≡ true → is_set now n ≡ true
none_left visible old now readers left so_far none n reader seen =
    elim (so_far.queued n reader seen) [
      | inl flag ↦ flag
      | inr (k, within, is) ↦ let empty = ap length none in absurd (omega (arith, within, empty))
    ]

-- numbers of which none is left were queued
pub queues_numbers : (visible old now : List Bool) (numbers left : List ℕ) → AreQueuedBut visible old now numbers left → left ≡ [] →
    QueuesNumbers visible numbers old now
queues_numbers visible old now numbers left so_far none = record {
  flags = so_far.flags;
  stay = so_far.stay;
  queued = none_left visible old now numbers left so_far none;
  others = so_far.others;
  most = omega (arith, so_far.most);
  least = so_far.least;
}

-- what holds of two lists holds of each
pub first_of : (P : ℕ → Type 0) (xs ys : List ℕ) → All P (xs ++ ys) → All P xs
first_of P xs ys all k d there = subst P (get_or_append_left xs ys d k there) (all k d (let l = length-append xs ys in omega (arith, l, there)))

last_of : (P : ℕ → Type 0) (xs ys : List ℕ) → All P (xs ++ ys) → All P ys
last_of P xs ys all k d there =
    let i : length xs + k - length xs ≡ k = omega arith in
    subst P (get_or-append_right xs ys (length xs) (length xs + k) d refl (omega arith) ∙ ap (λ n. get_or ys n d) i)
    (all (length xs + k) d (let l = length-append xs ys in omega (arith, l, there)))

-- the next that are left are instances
pub next_below : (visible old now : List Bool) (readers left numbers rest : List ℕ) → left ≡ numbers ++ rest → AreQueuedBut visible old now readers left →
    All (λ n. n < length now) numbers
next_below visible old now readers left numbers rest next so_far =
    first_of (λ n. n < length now) numbers rest
    (subst (All (λ n. n < length now)) next (subst (λ (count : ℕ). All (λ n. n < count) left) (sym so_far.flags) so_far.below))

-- the next numbers were queued
pub queued_many : (visible old now new : List Bool) (readers left numbers rest : List ℕ) → left ≡ numbers ++ rest →
    AreQueuedBut visible old now readers left → QueuesNumbers visible numbers now new →
    AreQueuedBut visible old new readers rest
queued_many visible old now new readers left numbers rest next so_far queues =
    let below = subst (All (λ n. n < length old)) next so_far.below in
    let among = subst (All (Contains readers)) next so_far.among in
    let counted = ap (count_by (is_set visible)) next ∙ sum_by-append (λ n. cond (is_set visible n) 1 0) numbers rest in
    record {
      queued = λ n reader seen. elim (so_far.queued n reader seen) [
        | inl flag ↦ inl (queues.stay n flag)
        | inr waits ↦ elim (Contains-append_cases numbers rest n (subst (λ (l : List ℕ). Contains l n) next waits)) [
          | inl one ↦ inl (queues.queued n one seen)
          | inr other ↦ inr other
        ]
      ];
      stay = λ n flag. queues.stay n (so_far.stay n flag);
      others = λ n flag. elim (queues.others n flag) [
        | inl was ↦ so_far.others n was
        | inr (seen, one) ↦ inr (seen, All-contains (Contains readers) numbers n (first_of (Contains readers) numbers rest among) one)
      ];
      most = omega (arith, so_far.most, queues.most, counted);
      least = omega (arith, so_far.least, queues.least);
      flags = queues.flags ∙ so_far.flags;
      below = last_of (λ n. n < length old) numbers rest below;
      among = last_of (Contains readers) numbers rest among;
    }

-- the readers of a cell were queued
pub queues_all : (network : Network) (cell : ℕ) (visible old now : List Bool) (numbers : List ℕ) → numbers ≡ readers_of network cell →
    QueuesNumbers visible numbers old now → QueuesReaders network visible (λ c. c ≡ cell) old now
queues_all network cell visible old now numbers all queues = record {
  flags = queues.flags;
  stay = queues.stay;
  readers = λ c n one reader seen. queues.queued n
      (subst (λ (l : List ℕ). Contains l n) (sym all) (subst (λ (k : ℕ). Contains (readers_of network k) n) one reader)) seen;
  others = λ n flag. elim (queues.others n flag) [
    | inl was ↦ inl was
    | inr (seen, reader) ↦ inr (seen, (cell, refl, subst (λ (l : List ℕ). Contains l n) all reader))
  ];
}

-- then exactly the numbers that were queued before and the visible readers are queued
pub queues_readers : (network : Network) (cell : ℕ) (visible old now : List Bool) (left : List ℕ) →
    AreQueuedBut visible old now (readers_of network cell) left → left ≡ [] → QueuesReaders network visible (λ c. c ≡ cell) old now
queues_readers network cell visible old now left so_far none = record {
  flags = so_far.flags;
  stay = so_far.stay;
  readers = λ c n one reader seen. none_left visible old now (readers_of network cell) left so_far none n
      (subst (λ (k : ℕ). Contains (readers_of network k) n) one reader) seen;
  others = λ n flag. elim (so_far.others n flag) [
    | inl was ↦ inl was
    | inr (seen, reader) ↦ inr (seen, (cell, refl, reader))
  ];
}

-- flags that are the same below a number, past which there is none, are the same
pub same_flags : (flags visible : List Bool) (number : ℕ) → length flags ≡ length visible → ((i : ℕ) → i < number → is_set flags i ≡ is_set visible i) →
    length visible ≤ number → flags ≡ visible
same_flags flags visible number many before past =
    same_lists flags visible many
    (λ k d within.
    get_or_default flags k d false within ∙ before k (omega (arith, within, many, past)) ∙ get_or_default visible k false d (omega (arith, within, many)))
