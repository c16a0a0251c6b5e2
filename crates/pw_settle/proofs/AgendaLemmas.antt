-- Queues of the numbers whose flags are set.
use Rattle.std.proofs.Common.{◌≡◌, ◌≢◌, ℕ, ◌+◌, ◌<◌, ◌≤◌, suc, Bool, true, false, cond, eqb, inl, inr, List, [], ◌∷◌, ◌++◌, length, set, get_or, drop, take, replicate, if◌then◌else◌, refl, sym, ap, ◌∙◌, subst, arith, length-append}
use Rattle.std.specs.Prelude.{All, nat_lt}
use Rattle.std.proofs.lemmas.Bool.{cases_Bool, eqb-false, eqb-true, ltb-true, ltb-false}
use Rattle.std.proofs.lemmas.List.{drop-append-le, drop_more, get_or_default, get_or_past, get_or-set_other, get_or-set_same, length-set}
use Rattle.std.proofs.lemmas.List.Elements.{All-append, All-cons, All-head, All-nil, All-replicate, All-tail, All-take, All-weaker}
use Rattle.std.proofs.lemmas.List.Quantifiers.{all_pairs_push}
use Rattle.std.proofs.lemmas.List.Sums.{count_by-le-length, sum_by-set}
use Rattle.pw_settle.specs.inside.Progress.{IsIdle, IsQueue}
use Rattle.pw_settle.specs.Calls.{is_set, tally}
use Rattle.pw_settle.proofs.TakenFlags.{set_below, tally_none, taken_less}

-- one more flag
pub tally_more : (flags : List Bool) (one : ℕ) → one < length flags → is_set flags one ≡ false → tally (set flags one true) ≡ tally flags + 1
tally_more flags one below free =
    let sums = sum_by-set (λ b. cond b 1 0) flags one true false below in
    let one_free : ℕ = cond (get_or flags one false) 1 0 in
    let none : ℕ = 0 in
    let was : one_free ≡ none = ap (λ b. cond b 1 0) free in
    omega (arith, sums, was)

-- if a flag is not set there are fewer that are than flags
pub tally_room : (flags : List Bool) (one : ℕ) → one < length flags → is_set flags one ≡ false → tally flags < length flags
tally_room flags one below free =
    omega (arith, tally_more flags one below free, count_by-le-length (λ (b : Bool). b) (set flags one true), length-set flags one true)

-- a number whose flag is not set is queued with its flag
pub queue_more : (flags : List Bool) (queue : List ℕ) (capacity one : ℕ) → one < length flags → is_set flags one ≡ false → IsQueue flags queue capacity →
    IsQueue (set flags one true) (queue ++ one ∷ []) capacity
queue_more flags queue capacity one below free is = record {
  flagged = All-append (λ n. is_set (set flags one true) n ≡ true) queue (one ∷ [])
      (All-weaker (λ n. is_set flags n ≡ true) (λ n. is_set (set flags one true) n ≡ true) stays queue is.flagged)
      (All-cons (λ n. is_set (set flags one true) n ≡ true) one [] (get_or-set_same flags one true false below) (All-nil (λ n. is_set (set flags one true) n ≡ true)));
  once = all_pairs_push (λ m n. m ≢ n) queue one is.once (λ k d within same. other k d within same);
  count = length-append queue (one ∷ []) ∙ counted;
  room = omega (arith, is.room, length-set flags one true);
} where
  stays : (n : ℕ) → is_set flags n ≡ true → is_set (set flags one true) n ≡ true
  stays n flag =
      elim (cases_Bool (eqb n one)) [
        | inl same ↦ ap (is_set (set flags one true)) (eqb-true n one same) ∙ get_or-set_same flags one true false below
        | inr not ↦ get_or-set_other flags one n true false (eqb-false n one not) ∙ flag
      ]

  other : (k d : ℕ) → k < length queue → get_or queue k d ≡ one → ⊥
  other k d within same = let flag = is.flagged k d within in let also = ap (is_set flags) same in absurd (cc)

  counted : length queue + length (one ∷ []) ≡ tally (set flags one true)
  counted = omega (arith, is.count, tally_more flags one below free)

-- the same where those that wait are the last of a list, perhaps with more room than before
pub queue_listed : (flags : List Bool) (queue listed new : List ℕ) (taken capacity more one : ℕ) → one < length flags → is_set flags one ≡ false →
    capacity ≤ more → drop taken listed ≡ queue → taken ≤ length listed → new ≡ listed ++ one ∷ [] → IsQueue flags queue capacity →
    IsQueue (set flags one true) (drop taken new) more
queue_listed flags queue listed new taken capacity more one below free room waiting within is_new is =
    let last = queue_more flags queue capacity one below free is in
    let same : queue ++ one ∷ [] ≡ drop taken new =
    sym (ap (drop taken) is_new ∙ drop-append-le taken listed (one ∷ []) within ∙ ap (λ l. l ++ one ∷ []) waiting) in
    let now = subst (λ (l : List ℕ). IsQueue (set flags one true) l capacity) same last in
    record { flagged = now.flagged; once = now.once; count = now.count; room = omega (arith, now.room, room) }

-- the first number leaves the queue, and its flag is cleared
pub queue_less : (flags : List Bool) (queue rest : List ℕ) (capacity one : ℕ) → queue ≡ one ∷ rest → IsQueue flags queue capacity →
    IsQueue (set flags one false) rest capacity
queue_less flags queue rest capacity one is_first is_queue =
    let is : IsQueue flags (one ∷ rest) capacity = subst (λ (l : List ℕ). IsQueue flags l capacity) is_first is_queue in
    let flag : is_set flags one ≡ true = All-head (λ n. is_set flags n ≡ true) one rest is.flagged in
    record {
      flagged = λ k d within.
          get_or-set_other flags one (get_or rest k d) false false (λ same. is.once 0 (suc k) d (omega arith) (omega (arith, within)) (sym same))
          ∙ All-tail (λ n. is_set flags n ≡ true) one rest is.flagged k d within;
      once = λ i j d less within. is.once (suc i) (suc j) d (omega (arith, less)) (omega (arith, within));
      count = let many = is.count in omega (arith, many, taken_less flags (set flags one false) one refl flag);
      room = omega (arith, is.room, length-set flags one false);
    }

-- the first of a list that was not taken is the first that waits
pub first_waits : (listed : List ℕ) (taken one : ℕ) → taken < length listed → one ≡ get_or listed taken one → drop taken listed ≡ one ∷ drop (taken + 1) listed
first_waits listed taken one within is =
    drop_more listed taken one within ∙ ap (λ n. n ∷ drop (taken + 1) listed) (sym is)

-- the first number of a queue is that of a flag
pub first_below : (flags : List Bool) (queue rest : List ℕ) (capacity one : ℕ) → queue ≡ one ∷ rest → IsQueue flags queue capacity → one < length flags
first_below flags queue rest capacity one is_first is =
    set_below flags one (All-head (λ n. is_set flags n ≡ true) one rest (subst (λ (l : List ℕ). IsQueue flags l capacity) is_first is).flagged)

-- no flag is set if none of the list is
idle_if : (flags : List Bool) → All (λ flag. flag ≡ false) flags → IsIdle flags
idle_if flags all number =
    elim (cases_Bool (nat_lt number (length flags))) [
      | inl below ↦ all number false (ltb-true number (length flags) below)
      | inr past ↦ get_or_past flags number false (ltb-false number (length flags) past)
    ]

-- none is set where flags none of which is set were cut, or filled up with clear ones, or stayed
pub idle_resized : (flags new : List Bool) (count more : ℕ) (is_done : Bool) → IsIdle flags →
    new ≡ (if is_done then take count flags ++ replicate more false else flags) → IsIdle new
idle_resized flags new count more false idle is = λ number. ap (λ (l : List Bool). is_set l number) is ∙ idle number
idle_resized flags new count more true idle is =
    let IsClear : Bool → Type 0 = λ flag. flag ≡ false in
    let clear : All IsClear flags = λ k d within. get_or_default flags k d false within ∙ idle k in
    idle_if new (subst (λ (l : List Bool). All IsClear l) (sym {A = List Bool} is)
    (All-append IsClear (take count flags) (replicate more false) (All-take IsClear count flags clear) (All-replicate IsClear more false refl)))

-- the queue of flags none of which is set is empty, so it is also that of others none of which is
pub queue_idle : (flags new : List Bool) (queue now : List ℕ) (capacity more : ℕ) → IsIdle flags → IsQueue flags queue capacity → now ≡ queue →
    IsIdle new → length new ≤ more → IsQueue new now more
queue_idle flags new queue now capacity more idle is same idle_now room =
    let none : length now ≡ 0 = ap length same ∙ is.count ∙ tally_none flags idle in
    record {
      flagged = λ k d within. absurd (omega (arith, none, within));
      once = λ i j d less within. absurd (omega (arith, none, within));
      count = none ∙ sym (tally_none new idle_now);
      room = room;
    }

-- the number of flags then is within a bound if both numbers are
pub resized_fits : (new old count most : ℕ) (is_done : Bool) → new ≡ (if is_done then count else old) → count ≤ most → old ≤ most → new ≤ most
resized_fits new old count most false is fits older = omega (arith, is, older)
resized_fits new old count most true is fits older = omega (arith, is, fits)
