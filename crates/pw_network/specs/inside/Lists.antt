-- How the links of a table make lists of instances.
use Rattle.std.specs.Prelude.{◌≡◌, ℕ, ◌+◌, ◌<◌, ◌≤◌, List, [], ◌∷◌, ◌++◌, All, cond, drop, length}
use Rattle.std.specs.Prelude.{nat_eq, slice_index_or}
use Rattle.std.specs.List.{list_any}
use Rattle.pw_network.specs.declared.instance_lists.Ends.{Ends}
use Rattle.pw_network.specs.declared.instance_lists.Link.{Link}

-- the list of this number has the instance of that one
pub record Listed : Type 0 where
  pub list : ℕ
  pub number : ℕ

-- the content of a link
abbrev pub listed_by : Link → Listed
listed_by link = record { list = link.list; number = link.number }

-- the place of the next instance of its list
abbrev pub next_of : Link → ℕ
next_of link = link.next

-- the number of the instance, if it is in the list
abbrev pub number_for : ℕ → Listed → List ℕ
number_for list entry = cond (nat_eq list entry.list) (entry.number ∷ []) []

-- the numbers of the instances of the list, in order
abbrev pub numbers_for : ℕ → List Listed → List ℕ
numbers_for list [] = []
numbers_for list (entry ∷ listed) = number_for list entry ++ numbers_for list listed

-- the place that means no place: no link is there, and no list and no instance has this number
abbrev pub no_place : ℕ
no_place = 4294967295

-- the first instance of the list, from a place on, is at this place, or there is none
pub record LeadsTo (listed : List Listed) (list from at : ℕ) : Type 0 where
  pub same : numbers_for list (drop at listed) ≡ numbers_for list (drop from listed)
  pub of_list : (d : Listed) → at < length listed → (slice_index_or listed at d).list ≡ list
  pub none : length listed ≤ at → at ≡ no_place

-- the last instance of the list is at this place, or there is none
pub record EndsAt (listed : List Listed) (list at : ℕ) : Type 0 where
  pub rest : numbers_for list (drop (at + 1) listed) ≡ []
  pub of_list : (d : Listed) → at < length listed → (slice_index_or listed at d).list ≡ list
  pub none : length listed ≤ at → (at ≡ no_place) × (numbers_for list listed ≡ [])

-- each link leads to the next of its list
abbrev pub AreChained : List Listed → List ℕ → Type 0
AreChained listed nexts =
    (at : ℕ) (d : Listed) → at < length listed →
    LeadsTo listed (slice_index_or listed at d).list (at + 1) (slice_index_or nexts at 0)

-- the links are chained, and this is where each list begins and ends
pub record AreLinked (listed : List Listed) (nexts : List ℕ) (ends : List Ends) : Type 0 where
  pub chained : AreChained listed nexts
  pub firsts : (list : ℕ) (d : Ends) → list < length ends →
      LeadsTo listed list 0 (slice_index_or ends list d).first
  pub lasts : (list : ℕ) (d : Ends) → list < length ends →
      EndsAt listed list (slice_index_or ends list d).last
  pub here : All (λ entry. entry.list < length ends) listed

-- each link leads to the next of its list, and at this place is a link of this one, if any
pub record IsWalk (listed : List Listed) (nexts : List ℕ) (list at : ℕ) : Type 0 where
  pub chained : AreChained listed nexts
  pub of_list : (d : Listed) → at < length listed → (slice_index_or listed at d).list ≡ list

-- for each of these cells below `count` its list has one instance more, and no other list has. The list of cell 0 has
-- the number `base`
pub record AddsNumber (base count : ℕ) (cells : List ℕ) (number : ℕ) (old new : List Listed) : Type 0 where
  pub own : (cell : ℕ) → cell < count → numbers_for (base + cell) new ≡ numbers_for (base + cell) old
      ++ cond (list_any (nat_eq cell) cells) (number ∷ []) []
  pub before : (list : ℕ) → list < base → numbers_for list new ≡ numbers_for list old
  pub after : (list : ℕ) → base + count ≤ list → numbers_for list new ≡ numbers_for list old

-- the list has one instance more, and the other lists below the first number have none
abbrev pub AddsNumberTo : ℕ → ℕ → ℕ → List Listed → List Listed → Type 0
AddsNumberTo lists list number old new =
    (other : ℕ) → other < lists → numbers_for other new ≡ numbers_for other old
    ++ cond (nat_eq other list) (number ∷ []) []

-- the lists below this number have what they had
abbrev pub LeavesBelow : ℕ → List Listed → List Listed → Type 0
LeavesBelow most old new = (list : ℕ) → list < most → numbers_for list new ≡ numbers_for list old

-- and those from this number on, below the other
abbrev pub LeavesFrom : ℕ → ℕ → List Listed → List Listed → Type 0
LeavesFrom least count old new = (list : ℕ) → least ≤ list → list < count → numbers_for list new ≡ numbers_for list old
