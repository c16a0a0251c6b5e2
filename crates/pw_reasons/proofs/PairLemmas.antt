-- The pairs that rows of premises hold: what they cover, and one more pair.
use Rattle.std.proofs.Common.{◌≡◌, ℕ, zero, suc, ◌+◌, ◌<◌, ◌≤◌, Bool, true, false, not, ◌||◌, ◌&&◌, ◌⊎◌, ◌↔◌, List, [], ◌∷◌, Contains, length, map, refl, sym, ap, ◌∙◌, subst, inl, inr, arith}
use Rattle.std.specs.Prelude.{IfNone, IfSome, None, Option, Some, slice_index_or, slice_set}
use Rattle.std.specs.Iterator.{YieldsFirst}
use Rattle.std.specs.List.Sorted.{IsStrictlyIncreasing}
use Rattle.std.specs.Cmp.{nat_cmp_total, both_ways}
use Rattle.std.specs.Ordering.{nat_cmp, eq_by_cmp}
use Rattle.std.specs.FinSet.{contains, contains-difference, contains-empty, contains-is_subset, difference, empty, from_list, from_list_push, insert, is_subset, is_subset-contains, nat_cmp-IsAntisymmetric, same_set}
use Rattle.std.proofs.lemmas.Bool.{cases_Bool, false≢true, or_cases}
use Rattle.std.proofs.lemmas.List.{get_or-set_other, get_or-set_same, get_or_default, length-set}
use Rattle.std.proofs.lemmas.List.Elements.{Contains-append_cases, Contains-append_left, Contains-append_right}
use Rattle.std.proofs.lemmas.List.Folds.{Any-from_list_any}
use Rattle.pw_premises.specs.Premises.{Premises, most_premises, numbers_of}
use Rattle.pw_premises.specs.PremiseSubsets.{empty_is_subset}
use Rattle.pw_premises.proofs.NumberLists.{numbers_of-members, numbers_of-rising}
use Rattle.pw_settle.proofs.Membership.{contains_first, contains_map, contains_more}
use Rattle.pw_reasons.specs.Nogood.{covers}
use Rattle.pw_reasons.specs.inside.Families.{HasOneMore}
use Rattle.pw_reasons.specs.inside.PairRows.{AreMutual, pair, pairs_from, pairs_in, row_of}
use Rattle.pw_reasons.proofs.FamilyLemmas.{and_both, and_parts, contains_inserted, inserted_within, made_of_numbers, only, or_left, or_right, self_tied, tied_same}
use Rattle.pw_reasons.proofs.NogoodLemmas.{noted_covers}

-- ---- a pair

-- is a subset of the premises that have both
pub pair_within : (p q : ℕ) (w : Premises) → is_subset (pair p q) w ≡ (contains w q && contains w p)
pair_within p q w =
    inserted_within (insert empty p) w q
    ∙ ap (λ b. contains w q && b) (inserted_within empty w p ∙ ap (λ b. contains w p && b) (empty_is_subset w) ∙ by_test (contains w p))
  where
    by_test : (b : Bool) → (b && true) ≡ b
    by_test true = refl
    by_test false = refl

-- is the same the other way round
pub pair_turned : (p q : ℕ) → pair q p ≡ pair p q
pair_turned p q = same_set nat_cmp_total nat_cmp-IsAntisymmetric _ _ (λ n.
    has q p n ∙ by_test (eq_by_cmp nat_cmp n p) (eq_by_cmp nat_cmp n q) (contains empty n) ∙ sym (has p q n))
  where
    has : (p q n : ℕ) → contains (pair p q) n ≡ (eq_by_cmp nat_cmp n q || (eq_by_cmp nat_cmp n p || contains {R = nat_cmp} empty n))
    has p q n = contains_inserted (insert empty p) q n ∙ ap (λ b. eq_by_cmp nat_cmp n q || b) (contains_inserted empty p n)

    by_test : (a b c : Bool) → (a || (b || c)) ≡ (b || (a || c))
    by_test true true c = refl
    by_test true false c = refl
    by_test false b c = refl

-- ---- the pairs that rows hold

none_in_empty : (q : ℕ) → contains {R = nat_cmp} empty q ≡ true → ⊥
none_in_empty q has = false≢true (sym (contains-empty nat_cmp q) ∙ has)

mapped_from : (f : ℕ → Premises) (xs : List ℕ) (set : Premises) → Contains (map f xs) set → (x : ℕ) × Contains xs x × (set ≡ f x)
mapped_from f [] set there = absurd (omega (arith, there.1))
mapped_from f (x ∷ xs) set there = elim (Contains-append_cases (f x ∷ []) (map f xs) set there) [
  | inl here ↦ (x, contains_first x xs, only (f x) set here)
  | inr later ↦ let found = mapped_from f xs set later in (found.0, contains_more x found.0 xs found.1, found.2)
]

pair_from : (rows : List Premises) (start : ℕ) (set : Premises) → Contains (pairs_from start rows) set →
    (k : ℕ) × (q : ℕ) × (contains (row_of rows k) q ≡ true) × (q < most_premises) × (set ≡ pair (start + k) q)
pair_from [] start set there = absurd (omega (arith, there.1))
pair_from (row ∷ rows) start set there =
    elim (Contains-append_cases (map (pair start) (numbers_of row)) (pairs_from (start + 1) rows) set there) [
      | inl here ↦
          let found = mapped_from (pair start) (numbers_of row) set here in
          let same : start ≡ start + 0 = omega arith in
          let member = (numbers_of-members row found.0).0 found.1 in
          (0, found.0, member.1, member.0, found.2 ∙ ap (λ p. pair p found.0) same)
      | inr later ↦
          let found = pair_from rows (start + 1) set later in
          let same : start + 1 + found.0 ≡ start + suc found.0 = omega arith in
          (suc found.0, found.1, found.2, found.3, found.4 ∙ ap (λ p. pair p found.1) same)
    ]

pair_there : (rows : List Premises) (start k q : ℕ) → contains (row_of rows k) q ≡ true → q < most_premises →
    Contains (pairs_from start rows) (pair (start + k) q)
pair_there [] start k q has below = absurd (none_in_empty q has)
pair_there (row ∷ rows) start zero q has below =
    let same : start ≡ start + 0 = omega arith in
    Contains-append_left (map (pair start) (numbers_of row)) (pairs_from (start + 1) rows) (pair (start + 0) q)
    (subst (λ p. Contains (map (pair start) (numbers_of row)) (pair p q)) same
    (contains_map (pair start) (numbers_of row) q ((numbers_of-members row q).1 (below, has))))
pair_there (row ∷ rows) start (suc k) q has below =
    let same : start + 1 + k ≡ start + suc k = omega arith in
    Contains-append_right (map (pair start) (numbers_of row)) (pairs_from (start + 1) rows) (pair (start + suc k) q)
    (subst (λ p. Contains (pairs_from (start + 1) rows) (pair p q)) same (pair_there rows (start + 1) k q has below))

-- each is of a premise with one of its row
pub each_pair : (rows : List Premises) (set : Premises) → Contains (pairs_in rows) set →
    (p : ℕ) × (q : ℕ) × (contains (row_of rows p) q ≡ true) × (q < most_premises) × (set ≡ pair p q)
each_pair rows set there =
    let found = pair_from rows 0 set there in
    let same : 0 + found.0 ≡ found.0 = omega arith in
    (found.0, found.1, found.2, found.3, found.4 ∙ ap (λ p. pair p found.1) same)

-- and each of these is among them
pub pair_held : (rows : List Premises) (p q : ℕ) → contains (row_of rows p) q ≡ true → q < most_premises → Contains (pairs_in rows) (pair p q)
pair_held rows p q has below =
    let same : 0 + p ≡ p = omega arith in
    subst (λ n. Contains (pairs_in rows) (pair n q)) same (pair_there rows 0 p q has below)

-- only a row that is there has a premise
pub row_there : (rows : List Premises) (p q : ℕ) → contains (row_of rows p) q ≡ true → p < length rows
row_there [] p q has = absurd (none_in_empty q has)
row_there (row ∷ rows) zero q has = omega arith
row_there (row ∷ rows) (suc p) q has = let there = row_there rows p q has in omega (arith, there)

-- past the last row there is none
pub row_past : (rows : List Premises) (p : ℕ) → length rows ≤ p → row_of rows p ≡ empty
row_past [] p past = refl
row_past (row ∷ rows) zero past = absurd (omega (arith, past))
row_past (row ∷ rows) (suc p) past = row_past rows p (omega (arith, past))

-- ---- what they cover

-- premises of which two make a pair
pub pair_covers : (rows : List Premises) (w : Premises) (p q : ℕ) → contains (row_of rows p) q ≡ true → q < most_premises → contains w p ≡ true →
    contains w q ≡ true → covers (pairs_in rows) w ≡ true
pair_covers rows w p q has below one other =
    noted_covers (pairs_in rows) (pair p q) (pair_held rows p q has below) w (pair_within p q w ∙ and_both _ _ other one)

-- and no others
pub covered_by_pair : (rows : List Premises) (w : Premises) → covers (pairs_in rows) w ≡ true →
    (p : ℕ) × (q : ℕ) × (contains (row_of rows p) q ≡ true) × (q < most_premises) × (contains w p ≡ true) × (contains w q ≡ true)
covered_by_pair rows w covered =
    let some = Any-from_list_any (λ noted. is_subset noted w) (pairs_in rows) covered in
    let found = each_pair rows some.1 (some.0, some.2, some.3) in
    let both = and_parts (contains w found.1) (contains w found.0)
    (sym (pair_within found.0 found.1 w) ∙ ap (λ (s : Premises). is_subset s w) (sym found.4) ∙ some.4) in
    (found.0, found.1, found.2, found.3, both.1, both.0)

-- so none is covered if no premise of theirs has another in its row
pub no_pair : (rows : List Premises) (w : Premises) → ((p q : ℕ) → contains (row_of rows p) q ≡ true → contains w p ≡ true → contains w q ≡ false) →
    covers (pairs_in rows) w ≡ false
no_pair rows w none = elim (cases_Bool (covers (pairs_in rows) w)) [
  | inl covered ↦ let found = covered_by_pair rows w covered in absurd (false≢true (sym (none found.0 found.1 found.2 found.4) ∙ found.5))
  | inr not_covered ↦ not_covered
]

opposite : (a b : Bool) → (a ≡ true → b ≡ true → ⊥) → (b ≡ false → a ≡ true) → not a ≡ b
opposite true true never other = absurd (never refl refl)
opposite true false never other = refl
opposite false true never other = refl
opposite false false never other = absurd (false≢true (other refl))

untouched : (row before : Premises) (q : ℕ) → is_subset row (difference row before) ≡ true → contains row q ≡ true → contains before q ≡ true → ⊥
untouched row before q all has also = by_test (contains row q) (contains before q)
    (sym (contains-difference nat_cmp_total row before q) ∙ is_subset-contains nat_cmp_total row (difference row before) all q has) also
  where
    by_test : (a b : Bool) → (a && not b) ≡ true → b ≡ true → ⊥
    by_test true true both is = false≢true both
    by_test true false both is = false≢true is
    by_test false b both is = false≢true both

untouched_within : (row before : Premises) → ((q : ℕ) → contains row q ≡ true → contains before q ≡ true → ⊥) → is_subset row (difference row before) ≡ true
untouched_within row before none = contains-is_subset nat_cmp_total row (difference row before) (λ q has.
    contains-difference nat_cmp_total row before q ∙ by_test (contains row q) (contains before q) has (none q has))
  where
    by_test : (a b : Bool) → a ≡ true → (b ≡ true → ⊥) → (a && not b) ≡ true
    by_test true true is never = absurd (never refl)
    by_test true false is never = refl
    by_test false b is never = absurd (false≢true is)

-- one more premise makes a pair with those before exactly if its row has one of them
pub pair_with_one : (rows : List Premises) (before : Premises) (premise : ℕ) → AreMutual rows →
    ((q : ℕ) → contains before q ≡ true → q < most_premises) → covers (pairs_in rows) before ≡ false →
    not (is_subset (row_of rows premise) (difference (row_of rows premise) before)) ≡ covers (pairs_in rows) (insert before premise)
pair_with_one rows before premise held below none =
    opposite (is_subset row (difference row before)) (covers (pairs_in rows) after) never other
  where
    row : Premises
    row = row_of rows premise

    after : Premises
    after = insert before premise

    clash : (p q : ℕ) → is_subset row (difference row before) ≡ true → contains (row_of rows p) q ≡ true →
        (eq_by_cmp nat_cmp p premise ≡ true) ⊎ (contains before p ≡ true) → (eq_by_cmp nat_cmp q premise ≡ true) ⊎ (contains before q ≡ true) → ⊥
    clash p q all has (inl one) (inl other) = false≢true
        (sym (held.apart premise)
        ∙ subst (λ n. contains (row_of rows n) premise ≡ true) (tied_same p premise one)
        (subst (λ n. contains (row_of rows p) n ≡ true) (tied_same q premise other) has))
    clash p q all has (inl one) (inr other) = untouched row before q all
        (subst (λ n. contains (row_of rows n) q ≡ true) (tied_same p premise one) has) other
    clash p q all has (inr one) (inl other) = untouched row before p all
        (subst (λ n. contains (row_of rows n) p ≡ true) (tied_same q premise other) (held.back p q has)) one
    clash p q all has (inr one) (inr other) = false≢true (sym none ∙ pair_covers rows before p q has (below q other) one other)

    which : (p : ℕ) → contains after p ≡ true → (eq_by_cmp nat_cmp p premise ≡ true) ⊎ (contains before p ≡ true)
    which p has = or_cases (eq_by_cmp nat_cmp p premise) (contains before p) (sym (contains_inserted before premise p) ∙ has)

    never : is_subset row (difference row before) ≡ true → covers (pairs_in rows) after ≡ true → ⊥
    never all covered =
        let found = covered_by_pair rows after covered in
        clash found.0 found.1 all found.2 (which found.0 found.4) (which found.1 found.5)

    other : covers (pairs_in rows) after ≡ false → is_subset row (difference row before) ≡ true
    other not_covered = untouched_within row before (λ q has also. false≢true (sym not_covered
        ∙ pair_covers rows after premise q has (below q also)
        (contains_inserted before premise premise ∙ or_left _ _ (self_tied premise))
        (contains_inserted before premise q ∙ or_right _ _ also)))

-- a premise without a row makes no pair
pub none_with_one : (rows : List Premises) (before : Premises) (premise : ℕ) → AreMutual rows →
    ((q : ℕ) → contains before q ≡ true → q < most_premises) → covers (pairs_in rows) before ≡ false → length rows ≤ premise →
    false ≡ covers (pairs_in rows) (insert before premise)
none_with_one rows before premise held below none past =
    sym (ap (λ (row : Premises). not (is_subset row (difference row before))) (row_past rows premise past)
    ∙ ap not (empty_is_subset (difference empty before))) ∙ pair_with_one rows before premise held below none

-- what is read is the row
pub row_read : (rows : List Premises) (p : ℕ) (read : Premises) → read ≡ slice_index_or rows p read → p < length rows → read ≡ row_of rows p
row_read rows p read is below = is ∙ get_or_default rows p read empty below

-- the same for the row as it is read
pub row_apart : (rows : List Premises) (before : Premises) (premise : ℕ) (row : Premises) → row ≡ row_of rows premise → AreMutual rows →
    ((q : ℕ) → contains before q ≡ true → q < most_premises) → covers (pairs_in rows) before ≡ false →
    not (is_subset row (difference row before)) ≡ covers (pairs_in rows) (insert before premise)
row_apart rows before premise row is held below none =
    ap (λ (r : Premises). not (is_subset r (difference r before))) is ∙ pair_with_one rows before premise held below none

-- a premise whose row has none of these, or that is none of these, makes no pair with one of them
pub makes_none : (rows : List Premises) (w : Premises) (p : ℕ) (row : Premises) → row ≡ slice_index_or rows p row →
    ((q : ℕ) → contains row q ≡ true → contains w q ≡ false) → (q : ℕ) → contains (row_of rows p) q ≡ true → contains w p ≡ true → contains w q ≡ false
makes_none rows w p row read none q has one =
    none q (ap (λ (s : Premises). contains s q) (row_read rows p row read (row_there rows p q has)) ∙ has)

-- no rows
pub none_mutual : (rows : List Premises) → rows ≡ [] → AreMutual rows
none_mutual rows none = rw none (record {
  back = λ p q has. absurd (none_in_empty q has);
  apart = λ p. contains-empty nat_cmp p;
  few = omega arith;
})

-- ---- one more pair

-- the rows after two premises are made a pair
pub record ArePaired (old new : List Premises) (p q : ℕ) : Type 0 where
  pub one : row_of new p ≡ insert (row_of old p) q
  pub other : row_of new q ≡ insert (row_of old q) p
  pub others : (n : ℕ) → (n ≡ p → ⊥) → (n ≡ q → ⊥) → row_of new n ≡ row_of old n

same_or_not : (n p : ℕ) → (n ≡ p) ⊎ (n ≡ p → ⊥)
same_or_not n p = elim (cases_Bool (eq_by_cmp nat_cmp n p)) [
  | inl tied ↦ inl (tied_same n p tied)
  | inr apart ↦ inr (λ same. false≢true (sym apart ∙ subst (λ m. eq_by_cmp nat_cmp n m ≡ true) same (self_tied n)))
]

-- each of two premises is put into the row of the other
pub rows_paired : (old grown : List Premises) (p q : ℕ) (at_p one at_q other : Premises) → ((n : ℕ) → row_of grown n ≡ row_of old n) →
    p < q → q < length grown → at_p ≡ slice_index_or grown p at_p → one ≡ insert at_p q →
    at_q ≡ slice_index_or (slice_set grown p one) q at_q → other ≡ insert at_q p → ArePaired old (slice_set (slice_set grown p one) q other) p q
rows_paired old grown p q at_p one at_q other same rise below read_p one_is read_q other_is = record {
  one = get_or-set_other (slice_set grown p one) q p other empty (λ e. absurd (omega (arith, rise, e)))
      ∙ get_or-set_same grown p one empty (omega (arith, rise, below)) ∙ one_is
      ∙ ap (λ (s : Premises). insert s q) (read_p ∙ get_or_default grown p at_p empty (omega (arith, rise, below)) ∙ same p);
  other = get_or-set_same (slice_set grown p one) q other empty (omega (arith, below, length-set grown p one)) ∙ other_is
      ∙ ap (λ (s : Premises). insert s p) (read_q ∙ get_or_default (slice_set grown p one) q at_q empty (omega (arith, below, length-set grown p one))
      ∙ get_or-set_other grown p q one empty (λ e. absurd (omega (arith, rise, e))) ∙ same q);
  others = λ n not_p not_q. get_or-set_other (slice_set grown p one) q n other empty not_q
      ∙ get_or-set_other grown p n one empty not_p ∙ same n;
}

module _ (old new : List Premises) (p q : ℕ) (apart : p ≡ q → ⊥) (paired : ArePaired old new p q) where
  -- what a row has afterwards
  row_after : (n m : ℕ) → contains (row_of new n) m ≡ true →
      (((n ≡ p) × (m ≡ q)) ⊎ ((n ≡ q) × (m ≡ p))) ⊎ (contains (row_of old n) m ≡ true)
  row_after n m has = elim (same_or_not n p) [
    | inl first ↦
        elim (or_cases (eq_by_cmp nat_cmp m q) (contains (row_of old p) m)
        (sym (contains_inserted (row_of old p) q m) ∙ ap (λ (s : Premises). contains s m) (sym paired.one) ∙ subst (λ k. contains (row_of new k) m ≡ true) first has)) [
          | inl tied ↦ inl (inl (first, tied_same m q tied))
          | inr before ↦ inr (subst (λ k. contains (row_of old k) m ≡ true) (sym first) before)
        ]
    | inr not_first ↦
        elim (same_or_not n q) [
          | inl second ↦
              elim (or_cases (eq_by_cmp nat_cmp m p) (contains (row_of old q) m)
              (sym (contains_inserted (row_of old q) p m) ∙ ap (λ (s : Premises). contains s m) (sym paired.other) ∙ subst (λ k. contains (row_of new k) m ≡ true) second has)) [
                | inl tied ↦ inl (inr (second, tied_same m p tied))
                | inr before ↦ inr (subst (λ k. contains (row_of old k) m ≡ true) (sym second) before)
              ]
          | inr not_second ↦ inr (ap (λ (s : Premises). contains s m) (sym (paired.others n not_first not_second)) ∙ has)
        ]
  ]

  first_row : (m : ℕ) → (eq_by_cmp nat_cmp m q || contains (row_of old p) m) ≡ true → contains (row_of new p) m ≡ true
  first_row m has = ap (λ (s : Premises). contains s m) paired.one ∙ contains_inserted (row_of old p) q m ∙ has

  second_row : (m : ℕ) → (eq_by_cmp nat_cmp m p || contains (row_of old q) m) ≡ true → contains (row_of new q) m ≡ true
  second_row m has = ap (λ (s : Premises). contains s m) paired.other ∙ contains_inserted (row_of old q) p m ∙ has

  -- a row keeps what it had
  row_keeps : (n m : ℕ) → contains (row_of old n) m ≡ true → contains (row_of new n) m ≡ true
  row_keeps n m has = elim (same_or_not n p) [
    | inl first ↦ subst (λ k. contains (row_of new k) m ≡ true) (sym first)
        (first_row m (or_right _ _ (subst (λ k. contains (row_of old k) m ≡ true) first has)))
    | inr not_first ↦ elim (same_or_not n q) [
      | inl second ↦ subst (λ k. contains (row_of new k) m ≡ true) (sym second)
          (second_row m (or_right _ _ (subst (λ k. contains (row_of old k) m ≡ true) second has)))
      | inr not_second ↦ ap (λ (s : Premises). contains s m) (paired.others n not_first not_second) ∙ has
    ]
  ]

  one_has : contains (row_of new p) q ≡ true
  one_has = first_row q (or_left _ _ (self_tied q))

  other_has : contains (row_of new q) p ≡ true
  other_has = second_row p (or_left _ _ (self_tied p))

  -- each is still in the row of the other
  pub paired_mutual : AreMutual old → length new ≤ most_premises → AreMutual new
  paired_mutual held few = record {
    back = λ n m has. elim (row_after n m has) [
      | inl (inl same) ↦ subst (λ k. contains (row_of new m) k ≡ true) (sym same.0) (subst (λ k. contains (row_of new k) p ≡ true) (sym same.1) other_has)
      | inl (inr same) ↦ subst (λ k. contains (row_of new m) k ≡ true) (sym same.0) (subst (λ k. contains (row_of new k) q ≡ true) (sym same.1) one_has)
      | inr before ↦ row_keeps m n (held.back n m before)
    ];
    apart = λ n. elim (cases_Bool (contains (row_of new n) n)) [
      | inl has ↦ elim (row_after n n has) [
        | inl (inl same) ↦ absurd (apart (sym same.0 ∙ same.1))
        | inl (inr same) ↦ absurd (apart (sym same.1 ∙ same.0))
        | inr before ↦ absurd (false≢true (sym (held.apart n) ∙ before))
      ]
      | inr lacks ↦ lacks
    ];
    few = few;
  }

  -- they hold one more pair
  pub paired_more : p < most_premises → q < most_premises → HasOneMore (pairs_in old) (pairs_in new) (pair p q)
  paired_more one_below other_below = record {
    covered = λ w. both_ways (covers (pairs_in new) w) (is_subset (pair p q) w || covers (pairs_in old) w) (covered_before w) (covered_after w);
    within = λ set there.
        let found = each_pair new set there in
        elim (row_after found.0 found.1 found.2) [
          | inl (inl same) ↦ inl (found.4 ∙ (λ i. pair (same.0 i) (same.1 i)))
          | inl (inr same) ↦ inl (found.4 ∙ (λ i. pair (same.0 i) (same.1 i)) ∙ pair_turned p q)
          | inr before ↦ inr (subst (Contains (pairs_in old)) (sym found.4) (pair_held old found.0 found.1 before found.3))
        ];
  }
    where
      covered_before : (w : Premises) → covers (pairs_in new) w ≡ true → (is_subset (pair p q) w || covers (pairs_in old) w) ≡ true
      covered_before w covered =
          let found = covered_by_pair new w covered in
          elim (row_after found.0 found.1 found.2) [
            | inl (inl same) ↦ or_left _ _ (pair_within p q w
                ∙ and_both _ _ (subst (λ k. contains w k ≡ true) same.1 found.5) (subst (λ k. contains w k ≡ true) same.0 found.4))
            | inl (inr same) ↦ or_left _ _ (pair_within p q w
                ∙ and_both _ _ (subst (λ k. contains w k ≡ true) same.0 found.4) (subst (λ k. contains w k ≡ true) same.1 found.5))
            | inr before ↦ or_right _ _ (pair_covers old w found.0 found.1 before found.3 found.4 found.5)
          ]

      covered_after : (w : Premises) → (is_subset (pair p q) w || covers (pairs_in old) w) ≡ true → covers (pairs_in new) w ≡ true
      covered_after w covered = elim (or_cases (is_subset (pair p q) w) (covers (pairs_in old) w) covered) [
        | inl here ↦
            let both = and_parts _ _ (sym (pair_within p q w) ∙ here) in
            pair_covers new w p q one_has other_below both.1 both.0
        | inr before ↦
            let found = covered_by_pair old w before in
            pair_covers new w found.0 found.1 (row_keeps found.0 found.1 found.2) found.3 found.4 found.5
      ]

-- so after both rows were written
pub pair_added : (old grown : List Premises) (p q : ℕ) (at_p one at_q other : Premises) → ((n : ℕ) → row_of grown n ≡ row_of old n) →
    p < q → q < most_premises → q < length grown → length grown ≤ most_premises → at_p ≡ slice_index_or grown p at_p → one ≡ insert at_p q →
    at_q ≡ slice_index_or (slice_set grown p one) q at_q → other ≡ insert at_q p → AreMutual old →
    AreMutual (slice_set (slice_set grown p one) q other)
    × HasOneMore (pairs_in old) (pairs_in (slice_set (slice_set grown p one) q other)) (pair p q)
pair_added old grown p q at_p one at_q other same rise top below few read_p one_is read_q other_is held =
    let paired = rows_paired old grown p q at_p one at_q other same rise below read_p one_is read_q other_is in
    let new = slice_set (slice_set grown p one) q other in
    let long = length-set (slice_set grown p one) q other in
    let long_before = length-set grown p one in (
      paired_mutual old new p q (λ e. absurd (omega (arith, rise, e))) paired held (omega (arith, long, long_before, few)),
      paired_more old new p q (λ e. absurd (omega (arith, rise, e))) paired (omega (arith, rise, top)) top,
    )

-- ---- a premise of two sets

-- what is in a set and not left of it without the other is in both
shared_has : (set other : Premises) (p : ℕ) → contains (difference set (difference set other)) p ≡ (contains set p && contains other p)
shared_has set other p =
    contains-difference nat_cmp_total set (difference set other) p
    ∙ ap (λ b. contains set p && not b) (contains-difference nat_cmp_total set other p)
    ∙ by_test (contains set p) (contains other p)
  where
    by_test : (a b : Bool) → (a && not (a && not b)) ≡ (a && b)
    by_test true true = refl
    by_test true false = refl
    by_test false b = refl

module _ (set other rest both : Premises) (rest_is : rest ≡ difference set other) (both_is : both ≡ difference set rest) where
  in_both : (p : ℕ) → contains both p ≡ (contains set p && contains other p)
  in_both p = ap (λ (s : Premises). contains s p) (both_is ∙ ap (λ (s : Premises). difference set s) rest_is) ∙ shared_has set other p

  -- the first of their numbers, if there is one, is a premise of both, and otherwise no premise is
  pub shared_next : (numbers left : List ℕ) (next : Option ℕ) → numbers ≡ numbers_of both →
      ((q : ℕ) → Contains numbers q ↔ (contains both q ≡ true)) → YieldsFirst (λ (l : List ℕ). l) numbers next left →
      IfSome next (λ p. (p < most_premises) × (contains set p ≡ true) × (contains other p ≡ true))
      × IfNone next ((p : ℕ) → contains set p ≡ true → contains other p ≡ false)
  shared_next numbers left (Some p) are members first =
      let member = (numbers_of-members both p).0 (subst (λ (l : List ℕ). Contains l p) (sym first ∙ are) (contains_first p left)) in
      let parts = and_parts _ _ (sym (in_both p) ∙ member.1) in
      ((member.0, parts.0, parts.1), tt)
  shared_next numbers left None are members first = (
    tt,
    λ p has. elim (cases_Bool (contains other p)) [
      | inl also ↦ absurd (nothing p (subst (λ (l : List ℕ). Contains l p) first.0 ((members p).1 (in_both p ∙ and_both _ _ has also))))
      | inr lacks ↦ lacks
    ],
  )
    where
      nothing : (p : ℕ) → Contains [] p → ⊥
      nothing p there = omega (arith, there.1)

-- ---- a set of two premises

-- is the pair of its numbers
pub two_numbers : (premises : Premises) (numbers after rest : List ℕ) (p q : ℕ) → numbers ≡ numbers_of premises →
    ((n : ℕ) → Contains numbers n ↔ (contains premises n ≡ true)) → numbers ≡ p ∷ after → after ≡ q ∷ rest → rest ≡ [] →
    (pair p q ≡ premises) × (p < q) × (q < most_premises)
two_numbers premises numbers after rest p q are members first second none =
    let two : numbers ≡ p ∷ q ∷ [] = first ∙ ap (λ (l : List ℕ). p ∷ l) (second ∙ ap (λ (l : List ℕ). q ∷ l) none) in
    let whole : numbers_of premises ≡ p ∷ q ∷ [] = sym are ∙ two in
    let rising = subst IsStrictlyIncreasing whole (numbers_of-rising premises) in
    let there : Contains (numbers_of premises) q = subst (λ (l : List ℕ). Contains l q) (sym whole) (contains_more p q (q ∷ []) (contains_first q [])) in
    let made : from_list {R = nat_cmp} (p ∷ q ∷ []) ≡ pair p q =
    from_list_push nat_cmp_total nat_cmp-IsAntisymmetric (p ∷ []) q
    ∙ ap (λ (s : Premises). insert s q) (from_list_push nat_cmp_total nat_cmp-IsAntisymmetric [] p) in
    (sym made ∙ ap from_list (sym two) ∙ made_of_numbers premises numbers members, rising 0 (omega arith), ((numbers_of-members premises q).0 there).0)
