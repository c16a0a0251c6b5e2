-- Batches: their numbers, and the lists of declared cells when more instances come.
use Rattle.std.proofs.Common.{◌≡◌, ℕ, zero, suc, ◌+◌, ◌-◌, ◌<◌, ◌≤◌, ◌⊎◌, inl, inr, Bool, false, ◌||◌, cond, List, [], ◌∷◌, ◌++◌, length, map, take, drop, get_or, eqb, refl, sym, ap, subst, ◌∙◌, append-nil, append_assoc, length-append, length-take, take-append-drop, eq-eqb, arith}
use Rattle.std.specs.Prelude.{All}
use Rattle.std.specs.List.{AllPairs, list_any}
use Rattle.std.specs.FinSet as set
use Rattle.std.proofs.lemmas.Bool.{cases_lt, cond_above, cond_below, ne_eqb}
use Rattle.std.proofs.lemmas.Bool.Decides.{eqb_tells}
use Rattle.std.proofs.lemmas.List.{get_or_append_left, get_or-append_right, length-drop, length-map, map-append}
use Rattle.std.proofs.lemmas.List.Elements.{All-append, All-cons, All-map, All-nil, All-tail, All-weaker}
use Rattle.pw_premises.specs.Premises.{Premises}
use Rattle.pw_decl.specs.declared.flat_call.FlatCall.{FlatCall}
use Rattle.pw_decl.specs.Expansion.{Instance, at_place, renamed}
use Rattle.pw_decl.specs.inside.Held.{instances_of}
use Rattle.pw_network.specs.Batches.{numbers_in, numbers_of}
use Rattle.pw_network.specs.declared.batch.Batch.{Batch}
use Rattle.pw_network.specs.declared.batch.Batch.TheVariants as batches
use Rattle.pw_network.specs.declared.batch.Calls.{Calls}
use Rattle.pw_network.specs.declared.instance.Instance.{Instance as InstanceType}
use Rattle.pw_network.specs.inside.Batches.{AddsCalls, AddsInstances, AreListed, AreThere, ArePlaced, HaveLists, batch_of, call_numbers, calls_from, least_calls, no_calls, numbers_called, numbers_past}
use Rattle.pw_network.specs.inside.CompoundLists.{attached_calls}
use Rattle.pw_network.specs.inside.Held.{attached_on, attachment}
use Rattle.pw_network.specs.declared.instance_lists.Link.{Link}
use Rattle.pw_network.specs.inside.Lists.{LeavesFrom, Listed, listed_by, numbers_for}
use Rattle.pw_network.specs.Network.{Attached, attached_at}
use Rattle.pw_network.specs.Readers.{numbers_from, reads}
use Rattle.pw_network.specs.Writers.{writes}
use Rattle.pw_network.proofs.AppendedLemmas.{eqb_after}
use Rattle.pw_network.proofs.ReaderLemmas.{numbers_alike, numbers_append, numbers_below, numbers_none}

-- ---- the numbers of batches

pub numbers_in_append : (xs ys : List Batch) → numbers_in (xs ++ ys) ≡ numbers_in xs ++ numbers_in ys
numbers_in_append [] ys = refl
numbers_in_append (x ∷ xs) ys = ap (λ l. numbers_of x ++ l) (numbers_in_append xs ys) ∙ sym (append_assoc (numbers_of x) (numbers_in xs) (numbers_in ys))

module _ (calls : List Calls) (lists : List Listed) where
  -- a number below the calls is that of an instance
  one : (n : ℕ) → n < least_calls → batch_of calls lists n ≡ batches.One n
  one n below = sym (cond_below n least_calls (batches.One n) (batches.Many (numbers_called lists (get_or calls (n - least_calls) no_calls))) below)

  -- another one is that of calls
  many : (n : ℕ) → least_calls ≤ n → batch_of calls lists n ≡ batches.Many (numbers_called lists (get_or calls (n - least_calls) no_calls))
  many n past = sym (cond_above n least_calls (batches.One n) (batches.Many (numbers_called lists (get_or calls (n - least_calls) no_calls)))
      (batches.Many (numbers_called lists (get_or calls (n - least_calls) no_calls))) past refl)

  -- numbers of instances are as they are
  pub plain : (numbers : List ℕ) → All (λ n. n < least_calls) numbers → numbers_in (map (batch_of calls lists) numbers) ≡ numbers
  plain [] few = refl
  plain (n ∷ numbers) few =
      ap (λ b. numbers_of b ++ numbers_in (map (batch_of calls lists) numbers)) (one n (few 0 n (omega arith)))
      ∙ ap (λ l. n ∷ l) (plain numbers (All-tail (λ k. k < least_calls) n numbers few))

-- ---- more calls, and more lists

module _ (calls more : List Calls) (lists after : List Listed) (least count : ℕ) (have : HaveLists least count calls) (kept : LeavesFrom least count lists after) where
  batch_kept : (n : ℕ) → n < least_calls + length calls → batch_of (calls ++ more) after n ≡ batch_of calls lists n
  batch_kept n there =
      elim (cases_lt n least_calls) [
        | inl below ↦ one (calls ++ more) after n below ∙ sym (one calls lists n below)
        | inr past ↦ (let i = n - least_calls in
            let within : i < length calls = omega (arith, there, past) in
            let c = get_or calls i no_calls in
            let held = have i no_calls within in
            many (calls ++ more) after n past
            ∙ ap (λ (k : Calls). batches.Many (numbers_called after k)) (get_or_append_left calls more no_calls i within)
            ∙ ap (λ l. batches.Many (map (λ m. c.first + m) l)) (kept c.list held.0 held.1)
            ∙ sym (many calls lists n past))
      ]

  pub batches_kept : (numbers : List ℕ) → AreThere calls numbers → map (batch_of (calls ++ more) after) numbers ≡ map (batch_of calls lists) numbers
  batches_kept [] there = refl
  batches_kept (n ∷ numbers) there =
      (λ i. batch_kept n (there 0 n (omega arith)) i ∷ batches_kept numbers (All-tail (λ k. k < least_calls + length calls) n numbers there) i)

  pub still_there : (numbers : List ℕ) → AreThere calls numbers → AreThere (calls ++ more) numbers
  still_there numbers there =
      All-weaker (λ n. n < least_calls + length calls) (λ n. n < least_calls + length (calls ++ more))
      (λ n below. let l = length-append calls more in omega (arith, l, below)) numbers there

  -- lists that are as they were have the same instances
  pub listed_kept : (test : ℕ → Attached → Bool) (cells : ℕ) (old new : List Listed) (attached : List Attached) →
      ((cell : ℕ) → cell < cells → numbers_for cell new ≡ numbers_for cell old) →
      AreListed test cells calls lists old attached → AreListed test cells (calls ++ more) after new attached
  listed_kept test cells old new attached same listed =
      record {
        there = λ cell below. subst (AreThere (calls ++ more)) (sym (same cell below)) (still_there (numbers_for cell old) (listed.there cell below));
        are = λ cell below. ap (λ l. numbers_in (map (batch_of (calls ++ more) after) l)) (same cell below)
            ∙ ap numbers_in (batches_kept (numbers_for cell old) (listed.there cell below)) ∙ listed.are cell below;
      }

-- ---- more instances

-- those before a number and those from it on are all
past_joins : (test : Attached → Bool) (instances : List InstanceType) (first : ℕ) → first ≤ length instances →
    numbers_from test (map attachment (take first instances)) 0 ++ numbers_past test instances first ≡ numbers_from test (map attachment instances) 0
past_joins test instances first within =
    let before = map attachment (take first instances) in
    let count : length before ≡ first = length-map (take first instances) attachment ∙ (let l = length-take first instances in omega (arith, l, within)) in
    ap (λ n. numbers_from test before 0 ++ map (λ k. n + k) (numbers_from test (map attachment (drop first instances)) 0)) (sym count)
    ∙ sym (numbers_append test before (map attachment (drop first instances)))
    ∙ ap (λ l. numbers_from test l 0) (sym (map-append attachment (take first instances) (drop first instances)) ∙ ap (map attachment) (take-append-drop first instances))

shifted_below : (a n most : ℕ) (numbers : List ℕ) → a + n ≤ most → All (λ k. k < n) numbers → All (λ k. k < most) (map (λ k. a + k) numbers)
shifted_below a n most numbers within below =
    All-map (λ k. k < most) (λ k. a + k) numbers (All-weaker (λ k. k < n) (λ k. a + k < most) (λ k there. omega (arith, within, there)) numbers below)

module _ (test : ℕ → Attached → Bool) (cells : ℕ) (calls : List Calls) (lists after old new : List Listed) (least count : ℕ) (instances : List InstanceType) (first : ℕ)
    (within : first ≤ length instances) (have : HaveLists least count calls) (kept : LeavesFrom least count lists after)
    (listed : AreListed test cells calls lists old (map attachment (take first instances))) where
  before : AreListed test cells (calls ++ []) after old (map attachment (take first instances))
  before = listed_kept calls [] lists after least count have kept test cells old old (map attachment (take first instances)) (λ cell below. refl) listed

  -- one by one
  pub listed_instances : length instances ≤ least_calls → AddsInstances test cells instances first old new →
      AreListed test cells calls after new (map attachment instances)
  listed_instances few added =
      let same = append-nil calls in
      let all : AreListed test cells (calls ++ []) after new (map attachment instances) = record {
        there = λ cell below.
            let past = numbers_past (test cell) instances first in
            let left = length-map (drop first instances) attachment in
            let low : All (λ n. n < least_calls) past =
            shifted_below first (length (map attachment (drop first instances))) least_calls (numbers_from (test cell) (map attachment (drop first instances)) 0)
            (let l = length-drop first instances in omega (arith, left, l, within, few)) (numbers_below (test cell) (map attachment (drop first instances))) in
            subst (AreThere (calls ++ [])) (sym (added cell below))
            (All-append (λ n. n < least_calls + length (calls ++ [])) (numbers_for cell old) past (before.there cell below)
            (All-weaker (λ n. n < least_calls) (λ n. n < least_calls + length (calls ++ [])) (λ n b. omega (arith, b)) past low));
        are = λ cell below.
            let past = numbers_past (test cell) instances first in
            let left = length-map (drop first instances) attachment in
            let low : All (λ n. n < least_calls) past =
            shifted_below first (length (map attachment (drop first instances))) least_calls (numbers_from (test cell) (map attachment (drop first instances)) 0)
            (let l = length-drop first instances in omega (arith, left, l, within, few)) (numbers_below (test cell) (map attachment (drop first instances))) in
            ap (λ l. numbers_in (map (batch_of (calls ++ []) after) l)) (added cell below)
            ∙ ap numbers_in (map-append (batch_of (calls ++ []) after) (numbers_for cell old) past)
            ∙ numbers_in_append (map (batch_of (calls ++ []) after) (numbers_for cell old)) (map (batch_of (calls ++ []) after) past)
            ∙ (λ i. before.are cell below i ++ plain (calls ++ []) after past low i)
            ∙ past_joins (test cell) instances first within;
      } in
      subst (λ l. AreListed test cells l after new (map attachment instances)) same all

-- ---- the calls of an attachment, one place after another

pub calls_push : (first list places at : ℕ) → list + places ≡ at → calls_from first list (suc places) ≡ calls_from first list places ++ record { first = first; list = at } ∷ []
calls_push first list zero at is = let same : list ≡ at = omega (arith, is) in λ i. record { first = first; list = same i } ∷ []
calls_push first list (suc places) at is =
    ap (λ l. record { first = first; list = list } ∷ l) (calls_push first (list + 1) places at (omega (arith, is)))

call_push : (number : ℕ) (cells : List ℕ) (i cell x at : ℕ) → i < length cells → get_or cells i 0 ≡ x → number + i ≡ at →
    call_numbers number (take (suc i) cells) cell ≡ call_numbers number (take i cells) cell ++ cond (eqb cell x) (at ∷ []) []
call_push number [] i cell x at there read is = absurd (omega (arith, there))
call_push number (c ∷ cells) zero cell x at there read is =
    let same : number ≡ at = omega (arith, is) in
    append-nil (cond (eqb cell c) (number ∷ []) []) ∙ (λ i. cond (eqb cell (read i)) (same i ∷ []) [])
call_push number (c ∷ cells) (suc i) cell x at there read is =
    ap (λ l. cond (eqb cell c) (number ∷ []) [] ++ l) (call_push (number + 1) cells i cell x at (omega (arith, there)) read (omega (arith, is)))
    ∙ sym (append_assoc (cond (eqb cell c) (number ∷ []) []) (call_numbers (number + 1) (take i cells) cell) (cond (eqb cell x) (at ∷ []) []))

pub calls_more : (lists number : ℕ) (cells : List ℕ) (i x at : ℕ) (old now after : List Listed) → i < length cells → get_or cells i 0 ≡ x → number + i ≡ at →
    ((list : ℕ) → list < lists → numbers_for list after ≡ numbers_for list now ++ cond (eqb list x) (at ∷ []) []) →
    AddsCalls lists number (take i cells) old now → AddsCalls lists number (take (i + 1) cells) old after
calls_more lists number cells i x at old now after there read is appended so_far list below =
    let next : suc i ≡ i + 1 = omega arith in
    appended list below
    ∙ ap (λ l. l ++ cond (eqb list x) (at ∷ []) []) (so_far list below)
    ∙ append_assoc (numbers_for list old) (call_numbers number (take i cells) list) (cond (eqb list x) (at ∷ []) [])
    ∙ ap (λ l. numbers_for list old ++ l) (sym (call_push number cells i list x at there read is) ∙ ap (λ n. call_numbers number (take n cells) list) next)

-- ---- which calls a cell has

-- a cell that is none of these has none
call_none : (number : ℕ) (cells : List ℕ) (cell : ℕ) → All (λ c. cell ≡ c → ⊥) cells → call_numbers number cells cell ≡ []
call_none number [] cell others = refl
call_none number (c ∷ cells) cell others =
    (λ i. cond (ne_eqb cell c (others 0 c (omega arith)) i) (number ∷ []) [] ++ call_none (number + 1) cells cell (All-tail (λ c. cell ≡ c → ⊥) c cells others) i)

-- cells that differ
abbrev Differ : List ℕ → Type 0
Differ cells = AllPairs (λ m n. m ≡ n → ⊥) cells

first_differs : (c : ℕ) (cells : List ℕ) → Differ (c ∷ cells) → All (λ x. c ≡ x → ⊥) cells
first_differs c cells differ k d there = differ 0 (suc k) d (omega arith) (omega (arith, there))

others_differ : (c : ℕ) (cells : List ℕ) → Differ (c ∷ cells) → Differ cells
others_differ c cells differ i j d before there = differ (suc i) (suc j) d (omega (arith, before)) (omega (arith, there))

-- one of them that differs from the others has those of its place
call_at : (number : ℕ) (cells : List ℕ) (p at : ℕ) → Differ cells → p < length cells → number + p ≡ at →
    call_numbers number cells (get_or cells p 0) ≡ at ∷ []
call_at number [] p at differ there is = absurd (omega (arith, there))
call_at number (c ∷ cells) zero at differ there is =
    let same : number ≡ at = omega (arith, is) in
    (λ i. cond (eq-eqb c c refl i) (same i ∷ []) [] ++ call_none (number + 1) cells c (first_differs c cells differ) i)
call_at number (c ∷ cells) (suc p) at differ there is =
    let x = get_or cells p 0 in
    let other : x ≡ c → ⊥ = λ same. first_differs c cells differ p 0 (omega (arith, there)) (sym same) in
    (λ i. cond (ne_eqb x c other i) (number ∷ []) [] ++ call_at (number + 1) cells p at (others_differ c cells differ) (omega (arith, there)) (omega (arith, is)) i)

-- the calls of a place
from_at : (first list places p : ℕ) → p < places → get_or (calls_from first list places) p no_calls ≡ record { first = first; list = list + p }
from_at first list zero p there = absurd (omega (arith, there))
from_at first list (suc places) zero there = let same : list ≡ list + 0 = omega arith in λ i. record { first = first; list = same i }
from_at first list (suc places) (suc p) there =
    let same : list + 1 + p ≡ list + suc p = omega arith in
    from_at first (list + 1) places p (omega (arith, there)) ∙ (λ i. record { first = first; list = same i })

length-from : (first list places : ℕ) → length (calls_from first list places) ≡ places
length-from first list zero = refl
length-from first list (suc places) = let rest = length-from first (list + 1) places in omega (arith, rest)

-- whether a cell is one of these
pub record IsAt (cells : List ℕ) (cell : ℕ) : Type 0 where
  pub place : ℕ
  pub there : place < length cells
  pub is : get_or cells place 0 ≡ cell

one_or_none : (cells : List ℕ) (cell : ℕ) → IsAt cells cell ⊎ All (λ c. cell ≡ c → ⊥) cells
one_or_none [] cell = inr (All-nil (λ c. cell ≡ c → ⊥))
one_or_none (c ∷ cells) cell =
    elim (eqb_tells cell c) [
      | inl same ↦ inl (record { place = zero; there = omega arith; is = sym same.1 })
      | inr differs ↦ elim (one_or_none cells cell) [
        | inl found ↦ (let there = found.there in inl (record { place = suc found.place; there = omega (arith, there); is = found.is }))
        | inr none ↦ inr (All-cons (λ c. cell ≡ c → ⊥) c cells differs.1 none)
      ]
    ]

-- ---- calls on different cells

-- the instances of calls on these cells, which differ, pass the test of a cell as the calls pass that of its place, and none passes that of another declared cell
pub record IsPlacedTest (test : ℕ → Attached → Bool) (declared : ℕ) (cells : List ℕ) (flat : List FlatCall) (own : List Attached) : Type 0 where
  pub alike : (p : ℕ) → p < length cells → numbers_from (test (get_or cells p 0)) own 0 ≡ numbers_from (test p) (attached_calls flat) 0
  pub none : (cell : ℕ) → cell < declared → All (λ c. cell ≡ c → ⊥) cells → numbers_from (test cell) own 0 ≡ []

module _ (test : ℕ → Attached → Bool) (cells : ℕ) (calls more : List Calls) (lists after old new : List Listed) (least count : ℕ) (instances : List InstanceType) (first : ℕ)
    (within : first ≤ length instances) (have : HaveLists least count calls) (kept : LeavesFrom least count lists after)
    (listed : AreListed test cells calls lists old (map attachment (take first instances)))
    (named : List ℕ) (flat : List FlatCall) (list : ℕ) (differ : Differ named)
    (own : IsPlacedTest test cells named flat (map attachment (drop first instances)))
    (its : (p : ℕ) → p < length named → numbers_for (list + p) after ≡ numbers_from (test p) (attached_calls flat) 0)
    (pushed : more ≡ calls_from first list (length named))
    (added : (cell : ℕ) → cell < cells → numbers_for cell new ≡ numbers_for cell old ++ call_numbers (least_calls + length calls) named cell) where
  abbrev all : List Calls
  all = calls ++ more

  long : length all ≡ length calls + length named
  long = length-append calls more ∙ ap (λ l. length calls + length l) pushed ∙ ap (λ n. length calls + n) (length-from first list (length named))

  -- what the calls of a place are
  batch_at : (p : ℕ) → p < length named → batch_of all after (least_calls + length calls + p) ≡ batches.Many (map (λ n. first + n) (numbers_for (list + p) after))
  batch_at p there =
      let at : least_calls + length calls + p - least_calls ≡ length calls + p = omega arith in
      let i : length calls + p - length calls ≡ p = omega arith in
      many all after (least_calls + length calls + p) (omega arith)
      ∙ ap (λ (k : Calls). batches.Many (numbers_called after k))
      (ap (λ n. get_or all n no_calls) at
      ∙ get_or-append_right calls more (length calls) (length calls + p) no_calls refl (omega arith)
      ∙ (λ j. get_or (pushed j) (i j) no_calls)
      ∙ from_at first list (length named) p there)

  -- the numbers that came for a cell are those of its instances
  came : (cell : ℕ) → cell < cells → numbers_in (map (batch_of all after) (call_numbers (least_calls + length calls) named cell)) ≡ numbers_past (test cell) instances first
  came cell below =
      elim (one_or_none named cell) [
        | inl found ↦ (let p = found.place in
            ap (λ c. numbers_in (map (batch_of all after) (call_numbers (least_calls + length calls) named c))) (sym found.is)
            ∙ ap (λ l. numbers_in (map (batch_of all after) l)) (call_at (least_calls + length calls) named p (least_calls + length calls + p) differ found.there refl)
            ∙ ap (λ b. numbers_of b ++ []) (batch_at p found.there)
            ∙ append-nil (map (λ n. first + n) (numbers_for (list + p) after))
            ∙ ap (map (λ n. first + n)) (its p found.there ∙ sym (own.alike p found.there))
            ∙ ap (λ c. numbers_past (test c) instances first) found.is)
        | inr none ↦ ap (λ l. numbers_in (map (batch_of all after) l)) (call_none (least_calls + length calls) named cell none)
            ∙ ap (map (λ n. first + n)) (sym (own.none cell below none))
      ]

  came_there : (cell : ℕ) → AreThere all (call_numbers (least_calls + length calls) named cell)
  came_there cell =
      elim (one_or_none named cell) [
        | inl found ↦ (let p = found.place in let there = found.there in
            subst (AreThere all) (sym (ap (call_numbers (least_calls + length calls) named) (sym found.is)
            ∙ call_at (least_calls + length calls) named p (least_calls + length calls + p) differ there refl))
            (All-cons (λ n. n < least_calls + length all) (least_calls + length calls + p) [] (let l = long in omega (arith, l, there)) (All-nil (λ n. n < least_calls + length all))))
        | inr none ↦ subst (AreThere all) (sym (call_none (least_calls + length calls) named cell none)) (All-nil (λ n. n < least_calls + length all))
      ]

  pub listed_calls : AreListed test cells all after new (map attachment instances)
  listed_calls =
      let before = listed_kept calls more lists after least count have kept test cells old old (map attachment (take first instances)) (λ cell below. refl) listed in
      record {
        there = λ cell below. subst (AreThere all) (sym (added cell below))
            (All-append (λ n. n < least_calls + length all) (numbers_for cell old) (call_numbers (least_calls + length calls) named cell) (before.there cell below) (came_there cell));
        are = λ cell below. ap (λ l. numbers_in (map (batch_of all after) l)) (added cell below)
            ∙ ap numbers_in (map-append (batch_of all after) (numbers_for cell old) (call_numbers (least_calls + length calls) named cell))
            ∙ numbers_in_append (map (batch_of all after) (numbers_for cell old)) (map (batch_of all after) (call_numbers (least_calls + length calls) named cell))
            ∙ (λ i. before.are cell below i ++ came cell below i)
            ∙ past_joins (test cell) instances first within;
      }

-- the calls that came have their lists
pub have_more : (least count : ℕ) (calls more : List Calls) (first list places : ℕ) → least ≤ list → list + places ≤ count → more ≡ calls_from first list places →
    HaveLists least count calls → HaveLists least count (calls ++ more)
have_more least count calls more first list places from within pushed have =
    All-append (λ (c : Calls). (least ≤ c.list) × (c.list < count)) calls more have
    (subst (HaveLists least count) (sym pushed) (have_from first list places from within))
  where
    have_from : (first list places : ℕ) → least ≤ list → list + places ≤ count → HaveLists least count (calls_from first list places)
    have_from first list zero from within = All-nil (λ (c : Calls). (least ≤ c.list) × (c.list < count))
    have_from first list (suc places) from within =
        All-cons (λ (c : Calls). (least ≤ c.list) × (c.list < count)) (record { first = first; list = list }) (calls_from first (list + 1) places)
        (from, omega (arith, within)) (have_from first (list + 1) places (omega (arith, from)) (omega (arith, within)))

-- ---- the tests of reading and writing

module _ (first : ℕ) where
  -- another cell that is declared is at no place
  placed_other : (cells : List ℕ) (c place : ℕ) → All (λ x. c ≡ x → ⊥) cells → c < first → eqb c (at_place cells (λ j. first + j) place) ≡ false
  placed_other [] c place others low = ne_eqb c (first + place) (λ is. omega (arith, is, low))
  placed_other (x ∷ cells) c zero others low = ne_eqb c x (others 0 x (omega arith))
  placed_other (x ∷ cells) c (suc place) others low = placed_other cells c place (All-tail (λ x. c ≡ x → ⊥) x cells others) low

  -- one of the cells is at its place alone
  placed_one : (cells : List ℕ) (p place : ℕ) → Differ cells → All (λ c. c < first) cells → p < length cells →
      eqb (get_or cells p 0) (at_place cells (λ j. first + j) place) ≡ eqb p place
  placed_one [] p place differ low there = absurd (omega (arith, there))
  placed_one (c ∷ cells) zero zero differ low there = eq-eqb c c refl
  placed_one (c ∷ cells) zero (suc place) differ low there =
      placed_other cells c place (first_differs c cells differ) (low 0 c (omega arith)) ∙ sym (ne_eqb 0 (suc place) (λ is. omega (arith, is)))
  placed_one (c ∷ cells) (suc p) zero differ low there =
      ne_eqb (get_or cells p 0) c (λ same. first_differs c cells differ p 0 (omega (arith, there)) (sym same)) ∙ sym (ne_eqb (suc p) 0 (λ is. omega (arith, is)))
  placed_one (c ∷ cells) (suc p) (suc place) differ low there =
      let a : 1 + p ≡ suc p = omega arith in
      let b : 1 + place ≡ suc place = omega arith in
      placed_one cells p place (others_differ c cells differ) (All-tail (λ c. c < first) c cells low) (omega (arith, there))
      ∙ sym (eqb_after 1 p place) ∙ (λ i. eqb (a i) (b i))

  any_one : (cells : List ℕ) (p : ℕ) (places : List ℕ) → Differ cells → All (λ c. c < first) cells → p < length cells →
      list_any (eqb (get_or cells p 0)) (map (at_place cells (λ j. first + j)) places) ≡ list_any (eqb p) places
  any_one cells p [] differ low there = refl
  any_one cells p (place ∷ places) differ low there = λ i. placed_one cells p place differ low there i || any_one cells p places differ low there i

  any_other : (cells : List ℕ) (c : ℕ) (places : List ℕ) → All (λ x. c ≡ x → ⊥) cells → c < first →
      list_any (eqb c) (map (at_place cells (λ j. first + j)) places) ≡ false
  any_other cells c [] others low = refl
  any_other cells c (place ∷ places) others low = λ i. placed_other cells c place others low i || any_other cells c places others low i

  module _ (line : ℕ) (support : Premises) (cells : List ℕ) where
    abbrev placed : Instance ℕ → Attached
    placed instance = attached_at line support (renamed (at_place cells (λ j. first + j)) instance)

    reads_alike : (p : ℕ) (instances : List (Instance ℕ)) → Differ cells → All (λ c. c < first) cells → p < length cells →
        map (reads (get_or cells p 0)) (map (attached_at line support) (map (renamed (at_place cells (λ j. first + j))) instances)) ≡ map (reads p) (map (attached_at 0 set.empty) instances)
    reads_alike p [] differ low there = refl
    reads_alike p (x ∷ instances) differ low there = λ i. any_one cells p x.inputs differ low there i ∷ reads_alike p instances differ low there i

    writes_alike : (p : ℕ) (instances : List (Instance ℕ)) → Differ cells → All (λ c. c < first) cells → p < length cells →
        map (writes (get_or cells p 0)) (map (attached_at line support) (map (renamed (at_place cells (λ j. first + j))) instances)) ≡ map (writes p) (map (attached_at 0 set.empty) instances)
    writes_alike p [] differ low there = refl
    writes_alike p (x ∷ instances) differ low there = λ i. placed_one cells p x.output differ low there i ∷ writes_alike p instances differ low there i

    reads_none : (c : ℕ) (instances : List (Instance ℕ)) → All (λ x. c ≡ x → ⊥) cells → c < first →
        All (λ a. reads c a ≡ false) (map (attached_at line support) (map (renamed (at_place cells (λ j. first + j))) instances))
    reads_none c [] others low = All-nil (λ a. reads c a ≡ false)
    reads_none c (x ∷ instances) others low =
        All-cons (λ a. reads c a ≡ false) (placed x) (map (attached_at line support) (map (renamed (at_place cells (λ j. first + j))) instances))
        (any_other cells c x.inputs others low) (reads_none c instances others low)

    writes_none : (c : ℕ) (instances : List (Instance ℕ)) → All (λ x. c ≡ x → ⊥) cells → c < first →
        All (λ a. writes c a ≡ false) (map (attached_at line support) (map (renamed (at_place cells (λ j. first + j))) instances))
    writes_none c [] others low = All-nil (λ a. writes c a ≡ false)
    writes_none c (x ∷ instances) others low =
        All-cons (λ a. writes c a ≡ false) (placed x) (map (attached_at line support) (map (renamed (at_place cells (λ j. first + j))) instances))
        (placed_other cells c x.output others low) (writes_none c instances others low)

module _ (declared : ℕ) (cells : List ℕ) (flat : List FlatCall) (own : List Attached) (placed : ArePlaced declared cells flat own) (differ : Differ cells) (here : All (λ c. c < declared) cells) where
  low : All (λ c. c < placed.first) cells
  low = let from = placed.from in All-weaker (λ c. c < declared) (λ c. c < placed.first) (λ c below. omega (arith, below, from)) cells here

  pub placed_reads : IsPlacedTest reads declared cells flat own
  placed_reads =
      record {
        alike = λ p there. numbers_alike (reads (get_or cells p 0)) (reads p) own (attached_calls flat)
            (ap (map (reads (get_or cells p 0))) placed.are ∙ reads_alike placed.first placed.line placed.support cells p (instances_of flat) differ low there);
        none = λ c below others. let from = placed.from in
            ap (λ l. numbers_from (reads c) l 0) placed.are
            ∙ numbers_none (reads c) (attached_on placed.line placed.support cells placed.first flat)
            (reads_none placed.first placed.line placed.support cells c (instances_of flat) others (omega (arith, below, from)));
      }

  pub placed_writes : IsPlacedTest writes declared cells flat own
  placed_writes =
      record {
        alike = λ p there. numbers_alike (writes (get_or cells p 0)) (writes p) own (attached_calls flat)
            (ap (map (writes (get_or cells p 0))) placed.are ∙ writes_alike placed.first placed.line placed.support cells p (instances_of flat) differ low there);
        none = λ c below others. let from = placed.from in
            ap (λ l. numbers_from (writes c) l 0) placed.are
            ∙ numbers_none (writes c) (attached_on placed.line placed.support cells placed.first flat)
            (writes_none placed.first placed.line placed.support cells c (instances_of flat) others (omega (arith, below, from)));
      }

-- the lists from the first number on are left where those of declared cells get calls
pub calls_kept : (least count number : ℕ) (named : List ℕ) (old new : List Listed) → All (λ c. c < least) named →
    AddsCalls count number named old new → LeavesFrom least count old new
calls_kept least count number named old new here added list from below =
    added list below
    ∙ ap (λ l. numbers_for list old ++ l) (call_none number named list (All-weaker (λ c. c < least) (λ c. list ≡ c → ⊥) (λ c low is. omega (arith, low, is, from)) named here))
    ∙ append-nil (numbers_for list old)

-- where no calls came, lists that are as they were have the same instances
pub still_listed : (test : ℕ → Attached → Bool) (calls : List Calls) (lists after : List Listed) (least count cells : ℕ) (old new : List Listed) (attached : List Attached) →
    HaveLists least count calls → LeavesFrom least count lists after → ((cell : ℕ) → cell < cells → numbers_for cell new ≡ numbers_for cell old) →
    AreListed test cells calls lists old attached → AreListed test cells calls after new attached
still_listed test calls lists after least count cells old new attached have kept same listed =
    subst (λ l. AreListed test cells l after new attached) (append-nil calls)
    (listed_kept calls [] lists after least count have kept test cells old new attached same listed)

-- calls have their lists among more lists
pub have_wider : (least count more : ℕ) (calls : List Calls) → count ≤ more → HaveLists least count calls → HaveLists least more calls
have_wider least count more calls grows have =
    All-weaker (λ (c : Calls). (least ≤ c.list) × (c.list < count)) (λ (c : Calls). (least ≤ c.list) × (c.list < more))
    (λ c held. (held.0, let below = held.1 in omega (arith, below, grows))) calls have

-- numbers of lists given in other ways
pub listed_as : (test : ℕ → Attached → Bool) (cells now : ℕ) (calls : List Calls) (lists listed : List Listed) (attached : List Attached) → now ≡ cells →
    AreListed test cells calls lists listed attached → AreListed test now calls lists listed attached
listed_as test cells now calls lists listed attached same are = subst (λ n. AreListed test n calls lists listed attached) (sym same) are

pub have_as : (least now count more : ℕ) (calls : List Calls) → now ≡ least → more ≡ count → HaveLists least count calls → HaveLists now more calls
have_as least now count more calls same long have = subst (λ n. HaveLists n more calls) (sym same) (subst (λ n. HaveLists least n calls) (sym long) have)

-- more room changes nothing
pub listed_in_room : (test : ℕ → Attached → Bool) (cells now : ℕ) (calls : List Calls) (lists listed after new : List Link) (attached : List Attached) →
    now ≡ cells → after ≡ lists → new ≡ listed →
    AreListed test cells calls (map listed_by lists) (map listed_by listed) attached → AreListed test now calls (map listed_by after) (map listed_by new) attached
listed_in_room test cells now calls lists listed after new attached same same_lists same_links are =
    listed_as test cells now calls (map listed_by after) (map listed_by new) attached same
    (subst (λ l. AreListed test cells calls (map listed_by l) (map listed_by new) attached) (sym same_lists)
    (subst (λ l. AreListed test cells calls (map listed_by lists) (map listed_by l) attached) (sym same_links) are))
