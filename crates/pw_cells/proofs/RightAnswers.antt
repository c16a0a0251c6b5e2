-- Cached answers stay right.
use Rattle.std.proofs.Common.{◌≡◌, ℕ, ◌+◌, ◌<◌, ◌≤◌, true, false, ◌&&◌, cond, List, [], ◌∷◌, ◌++◌, length, get_or, set, take, drop, map, inl, inr, sym, ◌∙◌, ap, subst, arith, nat_eq}
use Rattle.std.specs.Prelude.{Option, None, Some, IfSome}
use Rattle.std.specs.Option.{option_map}
use Rattle.std.specs.FinSet.{is_subset}
use Rattle.std.proofs.lemmas.Bool.{cases_Bool, cases_eq, eqb-true, eq-eqb}
use Rattle.std.proofs.lemmas.List.{take_more, take_more_set, drop-set-lt, map-append, set-get_or, get_or_append_left, get_or_default, get_or-set_same, get_or-set_other, length-set}
use Rattle.std.proofs.lemmas.List.Elements.{All-weaker, All-map}
use Rattle.pw_info.specs.declared.kind.Kind.TheVariants as kinds
use Rattle.pw_info.specs.Information.{kind_of, meet, Implies}
use Rattle.pw_info.proofs.Informations.{meet_implied}
use Rattle.pw_premises.specs.Premises.{Premises}
use Rattle.pw_facts.specs.declared.fact.Fact.{Fact}
use Rattle.pw_facts.specs.Facts.{shows}
use Rattle.pw_facts.proofs.Shown.{shows-supported}
use Rattle.pw_cells.specs.declared.recalled.Recalled.{Recalled}
use Rattle.pw_cells.specs.Cells.{Cell, Store, new_cell, cell_at, kind_in_store, told_of, told_in, told_at}
use Rattle.pw_cells.specs.Changes.{GainsFact}
use Rattle.pw_cells.specs.inside.OneCell.{IsRight, AreRight, after_tell}
use Rattle.pw_cells.proofs.Rests.{same_ahead, less_ahead}
use Rattle.pw_cells.proofs.Together.{kind-shown_by, shown_unsupported}

-- the cell of this number
abbrev cell_of : List Cell → ℕ → Cell
cell_of cells c = get_or cells c (new_cell kinds.Interval)

-- if the same is told about each cell
pub told_the_same : (old new : List Cell) (answers : List Recalled) → length old ≤ length new
    → ((c : ℕ) (w : Premises) → c < length old → told_at new c w ≡ told_at old c w) → AreRight old answers → AreRight new answers
told_the_same old new answers longer same right =
    All-weaker (IsRight old) (IsRight new)
    (λ a is. (omega (arith, is.0, longer), is.1 ∙ sym (same a.cell a.worldview is.0))) answers right

-- one more cell, or several
pub more_cells : (old more : List Cell) (answers : List Recalled) → length old ≤ length (old ++ more) → AreRight old answers → AreRight (old ++ more) answers
more_cells old more answers longer right =
    told_the_same old (old ++ more) answers longer
    (λ c w below. ap (λ (x : Cell). told_of x w) (get_or_append_left old more (new_cell kinds.Interval) c below)) right

-- one cell is written, about which the same is told
cell_told_the_same : (old : List Cell) (c : ℕ) (x y : Cell) (answers : List Recalled) → x ≡ get_or old c x → c < length old
    → ((w : Premises) → told_of y w ≡ told_of x w) → AreRight old answers → AreRight (set old c y) answers
cell_told_the_same old c x y answers read within same right =
    told_the_same old (set old c y) answers (omega (arith, length-set old c y))
    (λ k w below. elim (cases_eq k c) [
      | inl e ↦
          let at : told_of (cell_of (set old c y) c) w ≡ told_of (cell_of old c) w =
          ap (λ (z : Cell). told_of z w) (get_or-set_same old c y (new_cell kinds.Interval) within) ∙ same w
          ∙ ap (λ (z : Cell). told_of z w) (read ∙ get_or_default old c x (new_cell kinds.Interval) within) in
          subst (λ n. told_of (cell_of (set old c y) n) w ≡ told_of (cell_of old n) w) (sym e) at
      | inr other ↦ ap (λ (z : Cell). told_of z w) (get_or-set_other old c k y (new_cell kinds.Interval) other)
    ]) right

-- an answer on the cell is of its kind
pub kind_of_answer : (old : List Cell) (c : ℕ) (x : Cell) (a : Recalled) → x ≡ get_or old c x → c < length old → IsRight old a → a.cell ≡ c → kind_of a.info ≡ x.kind
kind_of_answer old c x a read within right is =
    ap kind_of right.1 ∙ ap (λ n. kind_of (told_at old n a.worldview)) is ∙ kind-shown_by (cell_of old c).kind a.worldview (cell_of old c).told
    ∙ ap (λ (z : Cell). z.kind) (sym (read ∙ get_or_default old c x (new_cell kinds.Interval) within))

-- what a fact that was told makes of an answer
pub taken_in : (c : ℕ) (f : Fact) (a : Recalled) → nat_eq a.cell c ≡ true → is_subset f.support a.worldview ≡ true
    → record { cell = a.cell; worldview = a.worldview; info = meet a.info f.info } ≡ after_tell c f a
taken_in c f a here seen =
    sym (ap (λ b. cond (b && is_subset f.support a.worldview) (record { cell = a.cell; worldview = a.worldview; info = meet a.info f.info }) a) here
    ∙ ap (λ b. cond b (record { cell = a.cell; worldview = a.worldview; info = meet a.info f.info }) a) seen)

-- an answer that says as much already
pub left_implied : (c : ℕ) (f : Fact) (a : Recalled) → nat_eq a.cell c ≡ true → is_subset f.support a.worldview ≡ true → kind_of a.info ≡ kind_of f.info → Implies a.info f.info
    → a ≡ after_tell c f a
left_implied c f a here seen alike implied =
    sym {A = Recalled} (λ j. record { cell = a.cell; worldview = a.worldview; info = meet_implied a.info f.info alike implied j }) ∙ taken_in c f a here seen

pub left_unseen : (c : ℕ) (f : Fact) (a : Recalled) → nat_eq a.cell c ≡ true → is_subset f.support a.worldview ≡ false → a ≡ after_tell c f a
left_unseen c f a here unseen =
    sym (ap (λ b. cond (b && is_subset f.support a.worldview) (record { cell = a.cell; worldview = a.worldview; info = meet a.info f.info }) a) here
    ∙ ap (λ b. cond b (record { cell = a.cell; worldview = a.worldview; info = meet a.info f.info }) a) unseen)

pub left_elsewhere : (c : ℕ) (f : Fact) (a : Recalled) → nat_eq a.cell c ≡ false → a ≡ after_tell c f a
left_elsewhere c f a elsewhere =
    sym (ap (λ b. cond (b && is_subset f.support a.worldview) (record { cell = a.cell; worldview = a.worldview; info = meet a.info f.info }) a) elsewhere)

-- an answer that a fact was taken into
answer_after : (old : List Cell) (c : ℕ) (x y : Cell) (f : Fact) (a : Recalled) → x ≡ get_or old c x → c < length old
    → kind_of f.info ≡ x.kind → GainsFact f (told_of x) (told_of y) → IsRight old a → IsRight (set old c y) (after_tell c f a)
answer_after old c x y f a read within is gains right = elim (cases_eq a.cell c) [
  | inl e ↦
      let here : nat_eq a.cell c ≡ true = eq-eqb a.cell c e in
      let info : a.info ≡ told_of x a.worldview =
      right.1 ∙ ap (λ n. told_at old n a.worldview) e ∙ ap (λ (z : Cell). told_of z a.worldview) (sym (read ∙ get_or_default old c x (new_cell kinds.Interval) within)) in
      let now : told_of (cell_of (set old c y) a.cell) a.worldview ≡ meet a.info (shows a.worldview f) =
      ap (λ n. told_of (cell_of (set old c y) n) a.worldview) e
      ∙ ap (λ (z : Cell). told_of z a.worldview) (get_or-set_same old c y (new_cell kinds.Interval) within)
      ∙ gains a.worldview ∙ ap (λ i. meet i (shows a.worldview f)) (sym info) in
      let there : a.cell < length (set old c y) = omega (arith, e, within, length-set old c y) in
      elim (cases_Bool (is_subset f.support a.worldview)) [
        | inl seen ↦
            subst (IsRight (set old c y)) (taken_in c f a here seen) (there, sym (now ∙ ap (meet a.info) (shows-supported a.worldview f seen)))
        | inr unseen ↦
            let same : meet a.info (shows a.worldview f) ≡ a.info =
            subst (λ i. meet i (shows a.worldview f) ≡ i) (sym info) (shown_unsupported x.kind a.worldview x.told f is unseen) in
            subst (IsRight (set old c y)) (left_unseen c f a here unseen) (there, sym (now ∙ same))
      ]
  | inr other ↦
      let elsewhere : nat_eq a.cell c ≡ false = elim (cases_Bool (nat_eq a.cell c)) [ inl e ↦ absurd (other (eqb-true a.cell c e)) | inr e ↦ e ] in
      subst (IsRight (set old c y)) (left_elsewhere c f a elsewhere) (
        omega (arith, right.0, length-set old c y),
        right.1 ∙ sym (ap (λ (z : Cell). told_of z a.worldview) (get_or-set_other old c a.cell y (new_cell kinds.Interval) other)),
      )
]

pub answers_after : (old : List Cell) (c : ℕ) (x y : Cell) (f : Fact) (answers : List Recalled) → x ≡ get_or old c x → c < length old
    → kind_of f.info ≡ x.kind → GainsFact f (told_of x) (told_of y) → AreRight old answers → AreRight (set old c y) (map (after_tell c f) answers)
answers_after old c x y f answers read within is gains right =
    All-map (IsRight (set old c y)) (after_tell c f) answers
    (All-weaker (IsRight old) (λ a. IsRight (set old c y) (after_tell c f a)) (λ a. answer_after old c x y f a read within is gains) answers right)

-- the told information about a cell of a store is of the cell's kind
pub kind_told : (now : Store) (c : ℕ) (w : Premises) → kind_of (told_in now c w) ≡ kind_in_store now c
kind_told now c w = kind-shown_by (cell_at now c).kind w (cell_at now c).told

-- a right answer on a cell is the told information about it
pub answer_is : (cells : List Cell) (a : Recalled) (c : ℕ) (w : Premises) → IsRight cells a → a.cell ≡ c → a.worldview ≡ w → a.info ≡ told_at cells c w
answer_is cells a c w right same_cell same_worldview = right.1 ∙ (λ i. told_at cells (same_cell i) (same_worldview i))

-- what is read is right
pub answer_read : (cells : List Cell) (answers : List Recalled) (place : ℕ) (a : Recalled) → AreRight cells answers → place < length answers → a ≡ get_or answers place a → IsRight cells a
answer_read cells answers place a right within read = subst (IsRight cells) (sym read) (right place a within)

-- what holds of the answers, if there are any, holds of those that were made of them
pub slots_then : (P Q : List Recalled → Type 0) (slots : Option (List Recalled)) (f : List Recalled → List Recalled) → ((l : List Recalled) → P l → Q (f l))
    → IfSome slots P → IfSome (option_map f slots) Q
slots_then P Q None f then holds = tt
slots_then P Q (Some l) f then holds = then l holds

pub slots_still : (P Q : List Recalled → Type 0) (slots : Option (List Recalled)) → ((l : List Recalled) → P l → Q l) → IfSome slots P → IfSome slots Q
slots_still P Q None then holds = tt
slots_still P Q (Some l) then holds = then l holds

pub slots_told_the_same : (old : List Cell) (c : ℕ) (x y : Cell) (slots : Option (List Recalled)) → x ≡ get_or old c x → c < length old
    → ((w : Premises) → told_of y w ≡ told_of x w) → IfSome slots (AreRight old) → IfSome slots (AreRight (set old c y))
slots_told_the_same old c x y slots read within same =
    slots_still (AreRight old) (AreRight (set old c y)) slots (λ answers. cell_told_the_same old c x y answers read within same)

-- one more element of a list was made what f makes of it
pub made_next : {X : Type 0} (f : X → X) (old now next : List X) (i : ℕ) (x y : X) → i < length now → length now ≡ length old → take i now ≡ map f (take i old) → drop i now ≡ drop i old
    → x ≡ get_or now i x → y ≡ f x → next ≡ set now i y
    → (take (i + 1) next ≡ map f (take (i + 1) old)) × (drop (i + 1) next ≡ drop (i + 1) old) × (length next ≡ length old)
made_next f old now next i x y within long done ahead read made is =
    let there : i < length old = omega (arith, within, long) in
    let was : x ≡ get_or old i x = read ∙ same_ahead now old i x ahead in
    let longer : take (i + 1) old ≡ take i old ++ x ∷ [] = take_more old i x there ∙ ap (λ z. take i old ++ z ∷ []) (sym was) in
    let behind : i < i + 1 = omega arith in (
      ap (take (i + 1)) is ∙ take_more_set now i y within ∙ (λ j. done j ++ made j ∷ []) ∙ sym (ap (map f) longer ∙ map-append f (take i old) (x ∷ [])),
      ap (drop (i + 1)) is ∙ drop-set-lt (i + 1) now i y behind ∙ less_ahead now old i ahead,
      ap length is ∙ length-set now i y ∙ long,
    )

-- one was left unchanged
pub left_next : {X : Type 0} (f : X → X) (old now next : List X) (i : ℕ) (x : X) → i < length now → length now ≡ length old → take i now ≡ map f (take i old) → drop i now ≡ drop i old
    → x ≡ get_or now i x → x ≡ f x → next ≡ now
    → (take (i + 1) next ≡ map f (take (i + 1) old)) × (drop (i + 1) next ≡ drop (i + 1) old) × (length next ≡ length old)
left_next f old now next i x within long done ahead read same is =
    made_next f old now next i x x within long done ahead read same (is ∙ sym (ap (set now i) read ∙ set-get_or now i x))
