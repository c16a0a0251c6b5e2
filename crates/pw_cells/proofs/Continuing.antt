-- What accounted for what is kept still does: after a call that changes no cell, after cells are
-- added, and after one more fact came to be kept.
use Rattle.std.proofs.Common.{◌≡◌, ◌⊎◌, ℕ, ◌+◌, ◌-◌, ◌<◌, ◌≤◌, true, cond, List, [], ◌∷◌, ◌++◌, length, drop, nat_lt, inl, inr, refl, sym, ◌∙◌, ap, subst, arith}
use Rattle.std.specs.Prelude.{All, Contains, Some, None, slice_index_or}
use Rattle.std.proofs.lemmas.Option.{none-some, same_Some}
use Rattle.std.proofs.lemmas.Bool.{cases_Bool, cases_eq, lt-ltb}
use Rattle.std.proofs.lemmas.List.{get_or_append_left, length-map, length-append, drop-append-le}
use Rattle.std.proofs.lemmas.List.Elements.{All-append, All-nil, All-cons, All-weaker, All-contains, All-contains_itself, Contains-append_left, Contains-push, Contains-push_cases}
use Rattle.pw_kinds.proofs.Order.{both_true, true_both}
use Rattle.pw_info.specs.declared.kind.Kind.TheVariants as kinds
use Rattle.pw_info.specs.declared.info.Info.{Info}
use Rattle.pw_info.specs.Information.{kind_of, allows, meet, Implies}
use Rattle.pw_info.proofs.Informations.{allows-meet}
use Rattle.pw_premises.specs.Premises.{Premises}
use Rattle.pw_facts.specs.declared.fact.Fact.{Fact}
use Rattle.pw_facts.specs.Facts.{shows}
use Rattle.pw_facts.proofs.Shown.{kind-shows, implies_same}
use Rattle.pw_cells.specs.declared.arrival.Arrival.{Arrival}
use Rattle.pw_cells.specs.Arrivals.{Continues, IsKept, Remembers, SaysWhatCame, since}
use Rattle.pw_cells.specs.Cells.{Arrivals, Cell, Store, cell_at, kept_at, kept_in, kept_of, kind_in_store, kinds_of, told_in, told_of, new_cell}
use Rattle.pw_cells.specs.Changes.{Assimilates, AssimilatesAt, GainsKept, GainsTold, LeavesOthers}
use Rattle.pw_cells.specs.inside.Lately.{IsAfterArrival, IsForgotten, Notes, most_past, since_in}
use Rattle.pw_cells.proofs.Closest.{meet_mono}
use Rattle.pw_cells.proofs.Together.{kind-shown_by, meet_first}
use Rattle.pw_cells.proofs.Stores.{kind-listed}

-- ---- the cells of before are unchanged, and nothing came

-- each cell of the old store is in the new one, as it was
pub record HasCellsOf (old new : Store) : Type 0 where
  pub longer : length old.cells ≤ length new.cells
  pub same : (c : ℕ) → c < length old.cells → cell_at new c ≡ cell_at old c
  pub arrivals : new.arrivals ≡ old.arrivals

kept_still : (old new : Store) → HasCellsOf old new → (a : Arrival) → IsKept old a → IsKept new a
kept_still old new has a is = record {
  there = omega (arith, is.there, has.longer);
  kind = is.kind ∙ sym (ap (λ (x : Cell). x.kind) (has.same a.cell is.there));
  says = λ w. subst (λ (x : Cell). Implies (kept_of x w) (shows w a.fact)) (sym (has.same a.cell is.there)) (is.says w);
}

pub continues_still : (old new : Store) → HasCellsOf old new → Continues old new
continues_still old new has = λ mark w count known was.
    let before : (list : List Arrival) → since new mark ≡ Some list → since old mark ≡ Some list =
    λ list is. subst (λ (a : Arrivals). since_in a mark ≡ Some list) has.arrivals is in
    let below : (c : ℕ) → c < count → c < length old.cells = λ c inside. omega (arith, inside, was.there) in
    record {
      marked = subst (λ (a : Arrivals). mark ≤ a.past + length a.list) (sym {A = Arrivals} has.arrivals) was.marked;
      there = omega (arith, was.there, has.longer);
      told = λ c inside. subst (λ (x : Cell). Implies (kept_of x w) (told_of x w)) (sym (has.same c (below c inside))) (was.told c inside);
      kept = λ c inside. subst (λ (x : Cell). Implies (kept_of x w) (known c)) (sym (has.same c (below c inside))) (was.kept c inside);
      came = λ list is. All-weaker (IsKept old) (IsKept new) (kept_still old new has) list (was.came list (before list is));
      all = λ list is c inside info kind more says.
          let same = has.same c (below c inside) in
          subst (λ (x : Cell). Implies info (kept_of x w)) (sym same)
          (was.all list (before list is) c inside info (kind ∙ ap (λ (x : Cell). x.kind) same) more says);
    }

-- a store with the same cells, which remembers the same
pub continues_same : (old new : Store) → new.cells ≡ old.cells → new.arrivals ≡ old.arrivals → Continues old new
continues_same old new cells arrivals = continues_still old new (record {
  longer = omega (arith, ap length cells);
  same = λ c below. ap (λ (l : List Cell). slice_index_or l c (new_cell kinds.Interval)) cells;
  arrivals = arrivals;
})

-- a store with more cells
pub continues_longer : (old new : Store) (more : List Cell) → new.cells ≡ old.cells ++ more → new.arrivals ≡ old.arrivals → Continues old new
continues_longer old new more cells arrivals = continues_still old new (record {
  longer = omega (arith, ap length cells, length-append old.cells more);
  same = λ c below.
      ap (λ (l : List Cell). slice_index_or l c (new_cell kinds.Interval)) cells
      ∙ get_or_append_left old.cells more (new_cell kinds.Interval) c below;
  arrivals = arrivals;
})

-- ---- what is remembered after one more fact came

-- nothing is remembered from before
forgotten_since : (old : Arrivals) (mark : ℕ) (list : List Arrival) → mark ≤ old.past + length old.list
    → since_in (record { past = old.past + length old.list + 1; list = [] }) mark ≡ Some list → ⊥
forgotten_since old mark list marked is =
    none-some list (subst (λ b. cond b None (Some (drop (mark - (old.past + length old.list + 1)) [])) ≡ Some list)
    (lt-ltb mark (old.past + length old.list + 1) (omega (arith, marked))) is)

-- the same is remembered as before, and the one that came
after_since : (a : Arrival) (old : Arrivals) (mark : ℕ) (list : List Arrival) → mark ≤ old.past + length old.list
    → since_in (record { past = old.past; list = old.list ++ a ∷ [] }) mark ≡ Some list
    → (before : List Arrival) × (since_in old mark ≡ Some before) × (list ≡ before ++ a ∷ [])
after_since a old mark list marked is = elim (cases_Bool (nat_lt mark old.past)) [
  | inl e ↦ absurd (none-some list (subst (λ b. cond b None (Some (drop (mark - old.past) (old.list ++ a ∷ []))) ≡ Some list) e is))
  | inr e ↦ (
    drop (mark - old.past) old.list,
    ap (λ b. cond b None (Some (drop (mark - old.past) old.list))) e,
    sym (same_Some (drop (mark - old.past) (old.list ++ a ∷ [])) list (subst (λ b. cond b None (Some (drop (mark - old.past) (old.list ++ a ∷ []))) ≡ Some list) e is))
        ∙ drop-append-le (mark - old.past) old.list (a ∷ []) (omega (arith, marked)),
  )
]

-- ---- one more fact came

-- a store gains a fact about a cell: what is kept of the cell gains it, what was told gains at most
-- this fact, and other cells are unchanged
pub record Gains (cell : ℕ) (fact : Fact) (old new : Store) : Type 0 where
  pub there : cell < length old.cells
  pub kind : kind_of fact.info ≡ kind_in_store old cell
  pub kept : GainsKept cell fact old new
  pub told : (w : Premises) → Implies (meet (told_in old cell w) (shows w fact)) (told_in new cell w)
  pub others : LeavesOthers cell old new
  pub kinds : kinds_of new ≡ kinds_of old

-- what a merge says, the second part of it says
meet_second : (i j : Info) → kind_of i ≡ kind_of j → Implies (meet i j) j
meet_second i j k v e = (true_both (allows i v) (allows j v) (sym (allows-meet i j k v) ∙ e)).1

-- what says as much as both parts, says their merge
says_both : (i j info : Info) → kind_of i ≡ kind_of j → Implies info i → Implies info j → Implies info (meet i j)
says_both i j info k first second v e = allows-meet i j k v ∙ both_true (allows i v) (allows j v) (first v e) (second v e)

module _ (cell : ℕ) (fact : Fact) (old new : Store) (gains : Gains cell fact old new) where
  same_length : length new.cells ≡ length old.cells
  same_length =
      sym (length-map new.cells (λ (c : Cell). c.kind)) ∙ ap length gains.kinds ∙ length-map old.cells (λ (c : Cell). c.kind)

  same_kind : (c : ℕ) → kind_in_store new c ≡ kind_in_store old c
  same_kind c = kind-listed new.cells c ∙ ap (λ l. slice_index_or l c kinds.Interval) gains.kinds ∙ sym (kind-listed old.cells c)

  alike_kept : (w : Premises) → kind_of (kept_in old cell w) ≡ kind_of (shows w fact)
  alike_kept w = kind-shown_by (cell_at old cell).kind w (cell_at old cell).kept ∙ sym gains.kind ∙ sym (kind-shows w fact)

  alike_told : (w : Premises) → kind_of (kept_in old cell w) ≡ kind_of (told_in old cell w)
  alike_told w = kind-shown_by (cell_at old cell).kind w (cell_at old cell).kept ∙ sym (kind-shown_by (cell_at old cell).kind w (cell_at old cell).told)

  -- at least as much is kept of the cell, and what the fact shows
  more_here : (w : Premises) → Implies (kept_in new cell w) (kept_in old cell w)
  more_here w = subst (λ i. Implies i (kept_in old cell w)) (sym (gains.kept w)) (meet_first (kept_in old cell w) (shows w fact) (alike_kept w))

  shown_here : (w : Premises) → Implies (kept_in new cell w) (shows w fact)
  shown_here w = subst (λ i. Implies i (shows w fact)) (sym (gains.kept w)) (meet_second (kept_in old cell w) (shows w fact) (alike_kept w))

  -- and of each cell
  more_kept : (c : ℕ) (w : Premises) → Implies (kept_in new c w) (kept_in old c w)
  more_kept c w = elim (cases_eq c cell) [
    | inl e ↦ subst (λ n. Implies (kept_in new n w) (kept_in old n w)) (sym e) (more_here w)
    | inr other ↦ implies_same _ _ (ap (λ (x : Cell). kept_of x w) (gains.others c other))
  ]

  still_told : (c : ℕ) (w : Premises) → Implies (kept_in old c w) (told_in old c w) → Implies (kept_in new c w) (told_in new c w)
  still_told c w was = elim (cases_eq c cell) [
    | inl e ↦
        subst (λ n. Implies (kept_in new n w) (told_in new n w)) (sym e)
        (λ v h. gains.told w v
        (meet_mono (kept_in old cell w) (told_in old cell w) (shows w fact) (shows w fact) (alike_told w)
        (subst (λ n. Implies (kept_in old n w) (told_in old n w)) e was) (λ u t. t) v (subst (λ i. allows i v ≡ true) (gains.kept w) h)))
    | inr other ↦ subst (λ (x : Cell). Implies (kept_of x w) (told_of x w)) (sym (gains.others c other)) was
  ]

  -- what says what was kept, and what the fact shows if it is of this cell, says what is kept
  says_kept : (c : ℕ) (w : Premises) (info : Info) → Implies info (kept_in old c w) → (cell ≡ c → Implies info (shows w fact)) → Implies info (kept_in new c w)
  says_kept c w info was shown = elim (cases_eq c cell) [
    | inl e ↦
        subst (λ n. Implies info (kept_in new n w)) (sym e)
        (subst (Implies info) (sym (gains.kept w))
        (says_both (kept_in old cell w) (shows w fact) info (alike_kept w) (subst (λ n. Implies info (kept_in old n w)) e was) (shown (sym e))))
    | inr other ↦ subst (λ (x : Cell). Implies info (kept_of x w)) (sym (gains.others c other)) was
  ]

  -- what was kept still is, and so is the fact
  is_kept_still : (a : Arrival) → IsKept old a → IsKept new a
  is_kept_still a is = record {
    there = omega (arith, is.there, same_length);
    kind = is.kind ∙ sym (same_kind a.cell);
    says = λ w v e. is.says w v (more_kept a.cell w v e);
  }

  is_kept_now : IsKept new (record { cell = cell; fact = fact })
  is_kept_now = record {
    there = omega (arith, gains.there, same_length);
    kind = gains.kind ∙ sym (same_kind cell);
    says = shown_here;
  }

  -- the fact is remembered
  continues_after : IsAfterArrival (record { cell = cell; fact = fact }) old.arrivals new.arrivals → Continues old new
  continues_after after = λ mark w count known was.
      let a : Arrival = record { cell = cell; fact = fact } in
      let split : (list : List Arrival) → since new mark ≡ Some list
      → (before : List Arrival) × (since_in old.arrivals mark ≡ Some before) × (list ≡ before ++ a ∷ []) =
      λ list is. after_since a old.arrivals mark list was.marked (subst (λ (x : Arrivals). since_in x mark ≡ Some list) after is) in
      record {
        marked =
            subst (λ (x : Arrivals). mark ≤ x.past + length x.list) (sym {A = Arrivals} after)
            (omega (arith, was.marked, length-append old.arrivals.list (a ∷ [])));
        there = omega (arith, was.there, same_length);
        told = λ c inside. still_told c w (was.told c inside);
        kept = λ c inside v e. was.kept c inside v (more_kept c w v e);
        came = λ list is.
            let parts = split list is in
            subst (All (IsKept new)) (sym {A = List Arrival} parts.2)
            (All-append (IsKept new) parts.0 (a ∷ []) (All-weaker (IsKept old) (IsKept new) is_kept_still parts.0 (was.came parts.0 parts.1))
            (All-cons (IsKept new) a [] is_kept_now (All-nil (IsKept new))));
        all = λ list is c inside info kind more says.
            let parts = split list is in
            let all_say : SaysWhatCame (parts.0 ++ a ∷ []) w c info = subst (λ (l : List Arrival). SaysWhatCame l w c info) parts.2 says in
            let P : Arrival → Type 0 = λ x. x.cell ≡ c → Implies info (shows w x.fact) in
            says_kept c w info
            (was.all parts.0 parts.1 c inside info (kind ∙ same_kind c) more (All-weaker (Contains parts.0) P (λ x has. All-contains P (parts.0 ++ a ∷ []) x all_say (Contains-append_left parts.0 (a ∷ []) x has)) parts.0
            (All-contains_itself parts.0)))
            (All-contains P (parts.0 ++ a ∷ []) a all_say (Contains-push parts.0 a));
      }

  -- the fact is forgotten, with all others
  continues_forgotten : IsForgotten old.arrivals new.arrivals → Continues old new
  continues_forgotten forgotten = λ mark w count known was.
      let none : (list : List Arrival) → since new mark ≡ Some list → ⊥ =
      λ list is. forgotten_since old.arrivals mark list was.marked (subst (λ (x : Arrivals). since_in x mark ≡ Some list) forgotten is) in
      record {
        marked = subst (λ (x : Arrivals). mark ≤ x.past + length x.list) (sym {A = Arrivals} forgotten) (omega (arith, was.marked));
        there = omega (arith, was.there, same_length);
        told = λ c inside. still_told c w (was.told c inside);
        kept = λ c inside v e. was.kept c inside v (more_kept c w v e);
        came = λ list is. absurd (none list is);
        all = λ list is. absurd (none list is);
      }

  pub continues_gained : IsAfterArrival (record { cell = cell; fact = fact }) old.arrivals new.arrivals ⊎ IsForgotten old.arrivals new.arrivals → Continues old new
  continues_gained (inl after) = continues_after after
  continues_gained (inr forgotten) = continues_forgotten forgotten

-- ---- a store that gained a fact notes it

-- the told information gains the fact too, or is unchanged
pub told_gained : (cell : ℕ) (fact : Fact) (old new : Store) → GainsTold cell fact old new
    → (w : Premises) → Implies (meet (told_in old cell w) (shows w fact)) (told_in new cell w)
told_gained cell fact old new gains w = implies_same _ _ (sym (gains w))

pub told_unchanged : (cell : ℕ) (fact : Fact) (old new : Store) → kind_of fact.info ≡ kind_in_store old cell
    → ((w : Premises) → told_in new cell w ≡ told_in old cell w) → (w : Premises) → Implies (meet (told_in old cell w) (shows w fact)) (told_in new cell w)
told_unchanged cell fact old new kind told w =
    subst (Implies (meet (told_in old cell w) (shows w fact))) (sym (told w))
    (meet_first (told_in old cell w) (shows w fact)
    (kind-shown_by (cell_at old cell).kind w (cell_at old cell).told ∙ sym kind ∙ sym (kind-shows w fact)))

-- what came lately takes the fact, and the rest of the store stays
pub noted : (cell : ℕ) (fact : Fact) (inside old : Store) (now : Arrivals) → inside ≡ old
    → IsAfterArrival (record { cell = cell; fact = fact }) inside.arrivals now ⊎ IsForgotten inside.arrivals now
    → Notes cell fact old (record { cells = inside.cells; room = inside.room; arrivals = now })
noted cell fact inside old now is came =
    subst (λ (s : Store). Notes cell fact s (record { cells = inside.cells; room = inside.room; arrivals = now })) is
    (record { cells = refl; room = refl; arrivals = came })

-- noting a fact changes neither what was told nor what is kept
pub gains_noted : (cell : ℕ) (fact : Fact) (old mid new : Store) → Notes cell fact mid new → Gains cell fact old mid → Gains cell fact old new
gains_noted cell fact old mid new notes gains =
    subst (λ (l : List Cell). Gains cell fact old (record { cells = l; room = new.room; arrivals = new.arrivals })) (sym {A = List Cell} notes.cells) (record {
      there = gains.there;
      kind = gains.kind;
      kept = gains.kept;
      told = gains.told;
      others = gains.others;
      kinds = gains.kinds;
    })

pub assimilates_noted : (cell : ℕ) (fact : Fact) (old mid new : Store) → Notes cell fact mid new → AssimilatesAt cell fact old mid → AssimilatesAt cell fact old new
assimilates_noted cell fact old mid new notes assimilates =
    subst (λ (l : List Cell). Assimilates fact (kept_at old cell) (slice_index_or l cell (new_cell kinds.Interval)).kept) (sym {A = List Cell} notes.cells)
    assimilates

-- one more fact can be counted, as before a call after which the same is remembered
pub still_counts : (inside old mid : Store) → inside ≡ old → mid.arrivals ≡ old.arrivals → inside.arrivals.past < most_past → mid.arrivals.past < most_past
still_counts inside old mid is same can = subst (λ (x : Arrivals). x.past < most_past) (ap (λ (s : Store). s.arrivals) is ∙ sym same) can

-- what comes when it was noted: one fact more, or all are forgotten
arrivals_noted : (cell : ℕ) (fact : Fact) (old mid new : Store) → mid.arrivals ≡ old.arrivals → Notes cell fact mid new
    → IsAfterArrival (record { cell = cell; fact = fact }) old.arrivals new.arrivals ⊎ IsForgotten old.arrivals new.arrivals
arrivals_noted cell fact old mid new same notes =
    subst (λ (x : Arrivals). IsAfterArrival (record { cell = cell; fact = fact }) x new.arrivals ⊎ IsForgotten x new.arrivals) same notes.arrivals

pub continues_noted : (cell : ℕ) (fact : Fact) (old mid new : Store) → mid.arrivals ≡ old.arrivals → Notes cell fact mid new → Gains cell fact old mid → Continues old new
continues_noted cell fact old mid new same notes gains =
    continues_gained cell fact old new (gains_noted cell fact old mid new notes gains) (arrivals_noted cell fact old mid new same notes)

-- ---- what is remembered was remembered, or came now

pub remembers_same : (cell : ℕ) (fact : Fact) (old new : Store) → new.arrivals ≡ old.arrivals → Remembers cell fact old new
remembers_same cell fact old new same = λ a has. inr (subst (λ (x : Arrivals). Contains x.list a) same has)

remembers_gained : (cell : ℕ) (fact : Fact) (old new : Store)
    → IsAfterArrival (record { cell = cell; fact = fact }) old.arrivals new.arrivals ⊎ IsForgotten old.arrivals new.arrivals → Remembers cell fact old new
remembers_gained cell fact old new (inl after) = λ a has.
    elim (Contains-push_cases old.arrivals.list (record { cell = cell; fact = fact }) a (subst (λ (x : Arrivals). Contains x.list a) after has)) [
      | inl left ↦ inr left
      | inr same ↦ inl (sym same)
    ]
remembers_gained cell fact old new (inr forgotten) = λ a has.
    let none : Contains [] a = subst (λ (x : Arrivals). Contains x.list a) forgotten has in
    absurd (omega (arith, none.1))

pub remembers_noted : (cell : ℕ) (fact : Fact) (old mid new : Store) → mid.arrivals ≡ old.arrivals → Notes cell fact mid new → Remembers cell fact old new
remembers_noted cell fact old mid new same notes =
    remembers_gained cell fact old new (arrivals_noted cell fact old mid new same notes)
