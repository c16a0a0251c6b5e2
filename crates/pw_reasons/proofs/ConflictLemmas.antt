-- Which cells are contradictory, and in which attachments: what a list of them is so far, and how
-- it grows.
use Rattle.std.proofs.Common.{◌≡◌, ◌≢◌, ◌↔◌, ℕ, zero, suc, ◌+◌, ◌-◌, ◌<◌, ◌≤◌, ◌⊎◌, Bool, true, false, cond, inl, inr, List, [], ◌∷◌, ◌++◌, IsTrue, Option, Some, None, length, map, filter, get_or, refl, sym, ap, subst, ◌∙◌, arith, All, Contains, append-nil, length-append, map-id}
use Rattle.std.specs.Prelude.{pos, slice_get}
use Rattle.std.specs.List.{range_with_len}
use Rattle.std.specs.List.Sorted.{IsStrictlyIncreasing}
use Rattle.std.proofs.lemmas.Bool.{cases_lt, false≢true}
use Rattle.std.proofs.lemmas.Bool.Decides.{nat_tests, same_from_decides}
use Rattle.std.proofs.lemmas.List.{get_or-append_right, get_or_append_left, get_or-map, get_or_past, length-map}
use Rattle.std.proofs.lemmas.List.Elements.{All-contains, All-nil, All-push, All-weaker, Contains-append_left, Contains-push, filter-append}
use Rattle.std.proofs.lemmas.List.FromFn.{map-range_with_len_more}
use Rattle.std.proofs.lemmas.Option.{get_or_from_slice_get, same_Some, slice_get-get_or, slice_get_within}
use Rattle.pw_info.specs.declared.info.Info.{Info}
use Rattle.pw_info.specs.declared.kind.Kind.{Kind}
use Rattle.pw_info.specs.declared.kind.Kind.TheVariants as kinds
use Rattle.pw_info.specs.Information.{IsContradiction, is_value, nothing}
use Rattle.pw_info.proofs.Informations.{allows-nothing}
use Rattle.pw_network.specs.Network.{InnerCell, LinesInOrder, Network, cells_in, origin_in}
use Rattle.pw_network.proofs.CellLemmas.{among_declared}
use Rattle.pw_reasons.specs.Conflicts.{AreConflicts, Conflicts, HasConflict}
use Rattle.pw_reasons.specs.SameInfo.{is_contradiction}
use Rattle.pw_reasons.proofs.SameInfoLemmas.{contradiction_is}

-- ---- lists of numbers

-- numbers that rise still rise with one more after them that is above the last
increasing_push : (xs : List ℕ) (y : ℕ) → IsStrictlyIncreasing xs → (0 < length xs → get_or xs (length xs - 1) 0 < y) →
    IsStrictlyIncreasing (xs ++ y ∷ [])
increasing_push xs y rising last k within =
    let long = length-append xs (y ∷ []) in
    let first = get_or_append_left xs (y ∷ []) 0 k (omega arith) in
    elim (cases_lt (k + 1) (length xs)) [
      | inl old ↦
          let second = get_or_append_left xs (y ∷ []) 0 (k + 1) old in
          omega (arith, first, second, rising k old)
      | inr new ↦
          let second = get_or-append_right xs (y ∷ []) (length xs) (k + 1) 0 refl new in
          let place : k + 1 - length xs ≡ 0 = omega arith in
          let own : get_or (y ∷ []) (k + 1 - length xs) 0 ≡ y = ap (λ n. get_or (y ∷ []) n 0) place in
          let before : k ≡ length xs - 1 = omega arith in
          let at : get_or xs k 0 ≡ get_or xs (length xs - 1) 0 = ap (λ n. get_or xs n 0) before in
          omega (arith, first, second, own, at, last (omega arith))
    ]

numbers_more : (n : ℕ) → range_with_len 0 (n + 1) ≡ range_with_len 0 n ++ n ∷ []
numbers_more n =
    sym (map-id (range_with_len 0 (n + 1)))
    ∙ map-range_with_len_more (λ k. k) 0 n n (omega arith)
    ∙ ap (λ l. l ++ n ∷ []) (map-id (range_with_len 0 n))

-- with one more number, it is there if it passes
passing_more : (p : ℕ → Bool) (n : ℕ) →
    filter p (range_with_len 0 (n + 1)) ≡ filter p (range_with_len 0 n) ++ cond (p n) (n ∷ []) []
passing_more p n = ap (filter p) (numbers_more n) ∙ filter-append p (range_with_len 0 n) (n ∷ [])

-- with one more number that passes, and which the code pushes, and with one that fails
pub passing_pushed : (p : ℕ → Bool) (n : ℕ) (before after : List ℕ) → p n ≡ true → before ≡ filter p (range_with_len 0 n) →
    after ≡ before ++ n ∷ [] → after ≡ filter p (range_with_len 0 (n + 1))
passing_pushed p n before after passes so_far pushed =
    pushed ∙ ap (λ l. l ++ n ∷ []) so_far
    ∙ sym (passing_more p n ∙ ap (λ b. filter p (range_with_len 0 n) ++ cond b (n ∷ []) []) passes)

pub passing_left : (p : ℕ → Bool) (n : ℕ) (before after : List ℕ) → p n ≡ false → before ≡ filter p (range_with_len 0 n) →
    after ≡ before → after ≡ filter p (range_with_len 0 (n + 1))
passing_left p n before after fails so_far same =
    same ∙ so_far
    ∙ sym (passing_more p n ∙ ap (λ b. filter p (range_with_len 0 n) ++ cond b (n ∷ []) []) fails
    ∙ append-nil (filter p (range_with_len 0 n)))

-- ---- the test in the code

-- what the code says about the value of a cell is what the test says
pub tested : (answer : Bool) (known value : Info) → (IsTrue answer ↔ IsContradiction known) → known ≡ value →
    answer ≡ is_contradiction value
tested answer known value says is =
    same_from_decides answer (is_contradiction known) says (contradiction_is known) ∙ ap is_contradiction is

-- ---- nothing is not a contradiction

-- each kind has a value that is written so
zero_is_value : (k : Kind) → is_value k (pos 0) ≡ true
zero_is_value kinds.Interval = refl
zero_is_value (kinds.Members set) = let sized = set.sized in grind (arith, nat_tests)
zero_is_value kinds.Exact = refl

-- so if nothing is known about a value, that is not a contradiction
pub nothing_is_possible : (k : Kind) → is_contradiction (nothing k) ≡ true → ⊥
nothing_is_possible k e =
    false≢true (sym ((contradiction_is (nothing k)).0 e (pos 0)) ∙ allows-nothing k (pos 0) ∙ zero_is_value k)

-- ---- inner cells

-- the cell is an inner cell of the network, made at this line
record IsInner (network : Network) (cell line : ℕ) : Type 0 where
  place : ℕ
  after : cell ≡ length network.declared.cells + place
  here : place < length network.inner
  line_is : (e : InnerCell) → (get_or network.inner place e).line ≡ line

-- the origin of an inner cell
abbrev origin_of : InnerCell → Option (ℕ × ℕ)
origin_of inner = Some (inner.line, inner.number)

-- what comes from one place has one line
same_line : (line number other place : ℕ) → ◌≡◌ {A = Option (ℕ × ℕ)} (Some (line, number)) (Some (other, place)) → line ≡ other
same_line line number other place same = ap (λ (origin : ℕ × ℕ). origin.0) (same_Some (line, number) (other, place) same)

-- a cell that comes from a line is an inner one
inner_at : (network : Network) (cell line number : ℕ) → origin_in network cell ≡ Some (line, number) → IsInner network cell line
inner_at network cell line number is =
    let none : List (Option (ℕ × ℕ)) = map (λ name. None) network.declared.cells in
    let many : length none ≡ length network.declared.cells = length-map network.declared.cells (λ name. None) in
    elim (cases_lt cell (length network.declared.cells)) [
      | inl declared ↦
          let nothing : None ≡ origin_in network cell =
          among_declared network.declared.cells (map origin_of network.inner) cell None declared in
          let wrong : ◌≡◌ {A = Option (ℕ × ℕ)} None (Some (line, number)) = nothing ∙ is in
          absurd (cc)
      | inr past ↦
          let place : ℕ = cell - length network.declared.cells in
          let found : origin_in network cell ≡ get_or (map origin_of network.inner) place None =
          get_or-append_right none (map origin_of network.inner) (length network.declared.cells) cell None many past in
          elim (cases_lt place (length network.inner)) [
            | inl here ↦
                record {
                  place = place;
                  after = omega arith;
                  here = here;
                  line_is = λ e.
                      let inner : InnerCell = get_or network.inner place e in
                      same_line inner.line inner.number line number
                      (sym (sym is ∙ found ∙ get_or-map origin_of network.inner place e None here));
                }
            | inr beyond ↦
                let long : length (map origin_of network.inner) ≡ length network.inner = length-map network.inner origin_of in
                let wrong : ◌≡◌ {A = Option (ℕ × ℕ)} None (Some (line, number)) =
                sym (found ∙ get_or_past (map origin_of network.inner) place None (omega arith)) ∙ is in
                absurd (cc)
          ]
    ]

-- if a cell comes from the last line of the list, any line that it comes from is among the lines
pub among_lines : (network : Network) (cell : ℕ) (lines : List ℕ) (last line number other place : ℕ) →
    slice_get lines last ≡ Some line → Some (line, number) ≡ origin_in network cell → origin_in network cell ≡ Some (other, place) → Contains lines other
among_lines network cell lines last line number other place at first second =
    subst (Contains lines) (same_line line number other place (first ∙ second))
    (last, slice_get_within lines last line at, get_or_from_slice_get lines last line line at)

-- if the lines of inner cells do not fall, a later one has no lower line
pub line_not_lower : (network : Network) → LinesInOrder network → (b c line number later other : ℕ) → b ≤ c →
    origin_in network b ≡ Some (line, number) → origin_in network c ≡ Some (later, other) → line ≤ later
line_not_lower network order b c line number later other upto first second =
    let one = inner_at network b line number first in
    let two = inner_at network c later other second in
    let e : InnerCell = get_or network.inner two.place (record { line = 0; number = 0; kind = kinds.Interval }) in
    let below = order one.place two.place e (omega arith) two.here in
    omega (arith, below, one.line_is e, two.line_is e)

-- ---- the lines so far

-- the attachment of this line has an inner cell below this number whose value is a contradiction
pub record HasConflictBelow (network : Network) (value : ℕ → Info) (limit line : ℕ) : Type 0 where
  pub cell : ℕ
  pub number : ℕ
  pub here : cell < limit
  pub origin : origin_in network cell ≡ Some (line, number)
  pub contradictory : is_contradiction (value cell) ≡ true

-- the lines of the attachments that have one, in rising order
pub record AreLinesBelow (network : Network) (value : ℕ → Info) (limit : ℕ) (lines : List ℕ) : Type 0 where
  pub rising : IsStrictlyIncreasing lines
  pub sound : All (HasConflictBelow network value limit) lines
  pub complete : (line : ℕ) → HasConflictBelow network value limit line → Contains lines line

module _ (network : Network) (value : ℕ → Info) where
  -- below the number of the declared cells there is none
  pub no_lines : (limit : ℕ) → limit ≤ length network.declared.cells → AreLinesBelow network value limit []
  no_lines limit upto =
      record {
        rising = λ k within. absurd (omega arith);
        sound = All-nil (HasConflictBelow network value limit);
        complete = λ line has.
            let inner = inner_at network has.cell line has.number has.origin in
            absurd (omega (arith, has.here, inner.after));
      }

  -- what is below a number is below the next
  below_next : (limit line : ℕ) → HasConflictBelow network value limit line → HasConflictBelow network value (limit + 1) line
  below_next limit line has =
      record {
        cell = has.cell;
        number = has.number;
        here = omega (arith, has.here);
        origin = has.origin;
        contradictory = has.contradictory;
      }

  still_sound : (limit : ℕ) (lines : List ℕ) → All (HasConflictBelow network value limit) lines →
      All (HasConflictBelow network value (limit + 1)) lines
  still_sound limit =
      All-weaker (HasConflictBelow network value limit) (HasConflictBelow network value (limit + 1)) (below_next limit)

  -- what is below the next is below the number, or its cell is of this number
  which_below : (limit line : ℕ) → HasConflictBelow network value (limit + 1) line →
      HasConflictBelow network value limit line
      ⊎ ((number : ℕ) × (origin_in network limit ≡ Some (line, number)) × (is_contradiction (value limit) ≡ true))
  which_below limit line has =
      elim (cases_lt has.cell limit) [
        | inl old ↦ inl (record {
          cell = has.cell;
          number = has.number;
          here = old;
          origin = has.origin;
          contradictory = has.contradictory;
        })
        | inr new ↦
            let same : has.cell ≡ limit = omega (arith, has.here, new) in
            inr (
              has.number,
              ap (origin_in network) (sym same) ∙ has.origin,
              ap (λ c. is_contradiction (value c)) (sym same) ∙ has.contradictory,
            )
      ]

  -- the lines stay with one more cell which is not a contradiction, or of which the line is among
  -- them
  pub same_lines : (limit : ℕ) (lines : List ℕ) → AreLinesBelow network value limit lines →
      ((line number : ℕ) → origin_in network limit ≡ Some (line, number) → is_contradiction (value limit) ≡ true →
      Contains lines line) → AreLinesBelow network value (limit + 1) lines
  same_lines limit lines are among =
      record {
        rising = are.rising;
        sound = still_sound limit lines are.sound;
        complete = λ line has. elim (which_below limit line has) [
          | inl old ↦ are.complete line old
          | inr new ↦ among line new.0 new.1 new.2
        ];
      }

  -- and with a contradictory one of another line than the last, there is this line more
  pub line_more : LinesInOrder network → (limit : ℕ) (lines after : List ℕ) (line number : ℕ) →
      AreLinesBelow network value limit lines → origin_in network limit ≡ Some (line, number) →
      is_contradiction (value limit) ≡ true → (slice_get lines (length lines - 1) ≡ Some line → ⊥) →
      after ≡ lines ++ line ∷ [] → AreLinesBelow network value (limit + 1) after
  line_more order limit lines after line number are origin contradictory other pushed =
      let upto : All (λ l. l ≤ line) lines =
      All-weaker (HasConflictBelow network value limit) (λ l. l ≤ line)
      (λ l has. let here = has.here in
      line_not_lower network order has.cell limit l has.number line number (omega arith) has.origin origin)
      lines are.sound in
      subst (AreLinesBelow network value (limit + 1)) (sym pushed) (record {
        rising = increasing_push lines line are.rising (λ some.
            let last : ℕ = get_or lines (length lines - 1) 0 in
            let below : last ≤ line = upto (length lines - 1) 0 (omega arith) in
            let differs : last ≢ line =
            λ same. other (slice_get-get_or lines (length lines - 1) 0 (omega arith) ∙ ap Some same) in
            omega (arith, below, differs));
        sound = All-push (HasConflictBelow network value (limit + 1)) lines line
            (still_sound limit lines are.sound)
            (record { cell = limit; number = number; here = omega arith; origin = origin; contradictory = contradictory });
        complete = λ l has. elim (which_below limit l has) [
          | inl old ↦ Contains-append_left lines (line ∷ []) l (are.complete l old)
          | inr new ↦
              subst (Contains (lines ++ line ∷ [])) (same_line line number l new.0 (sym origin ∙ new.1))
              (Contains-push lines line)
        ];
      })

  -- below the number of all cells these are the lines that are asked for
  pub all_lines : (lines : List ℕ) → AreLinesBelow network value (cells_in network) lines → (line : ℕ) →
      Contains lines line ↔ HasConflict network value line
  all_lines lines are line = (
    λ has.
        let found = All-contains (HasConflictBelow network value (cells_in network)) lines line are.sound has in
        record {
          cell = found.cell;
          number = found.number;
          here = found.here;
          origin = found.origin;
          contradictory = found.contradictory;
        },
    λ has. are.complete line (record {
      cell = has.cell;
      number = has.number;
      here = has.here;
      origin = has.origin;
      contradictory = has.contradictory;
    }),
  )

-- ---- the values of the cells are all that counts

-- if two say the same about the cells below a number, the same cells pass
pub same_passing : (f g : ℕ → Info) (from n limit : ℕ) → from + n ≤ limit → ((cell : ℕ) → cell < limit → f cell ≡ g cell) →
    filter (λ cell. is_contradiction (f cell)) (range_with_len from n)
    ≡ filter (λ cell. is_contradiction (g cell)) (range_with_len from n)
same_passing f g from zero limit most same = refl
same_passing f g from (suc n) limit most same =
    let rest = same_passing f g (from + 1) n limit (omega arith) same in
    λ i. cond (is_contradiction (same from (omega arith) i)) (from ∷ rest i) (rest i)

same_conflict : (network : Network) (f g : ℕ → Info) (line : ℕ) → ((cell : ℕ) → cell < cells_in network → f cell ≡ g cell) →
    HasConflict network f line → HasConflict network g line
same_conflict network f g line same has =
    record {
      cell = has.cell;
      number = has.number;
      here = has.here;
      origin = has.origin;
      contradictory = ap is_contradiction (sym (same has.cell has.here)) ∙ has.contradictory;
    }

-- if two say the same about each cell of the network, the conflicts by the one are those by the
-- other
pub conflicts_same : (network : Network) (f g : ℕ → Info) (conflicts : Conflicts) →
    ((cell : ℕ) → cell < cells_in network → f cell ≡ g cell) → AreConflicts network f conflicts → AreConflicts network g conflicts
conflicts_same network f g conflicts same are =
    record {
      cells = are.cells ∙ same_passing f g 0 (length network.declared.cells) (cells_in network) (omega arith) same;
      rising = are.rising;
      lines = λ line. (
        λ has. same_conflict network f g line same ((are.lines line).0 has),
        λ has. (are.lines line).1 (same_conflict network g f line (λ cell here. sym (same cell here)) has),
      );
    }
