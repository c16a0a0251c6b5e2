-- The facts of one cell in the code: how they are listed, what bounds the older ones, which answers
-- are remembered.
use Rattle.std.specs.Prelude.{◌≡◌, ◌≤◌, List, [], ◌∷◌, ◌++◌, ◌+◌, All, length, take, drop, refl, ◌⊎◌, ℕ, true, if◌then◌else◌}
use Rattle.std.specs.Prelude.{Bool, not, slice_index_or}
use Rattle.std.specs.List.{list_any}
use Rattle.std.specs.Prelude.{Contains, map, position, Option, ◌<◌, ◌&&◌}
use Rattle.std.specs.Prelude.{nat_eq}
use Rattle.pw_info.specs.declared.kind.Kind.{Kind}
use Rattle.pw_info.specs.declared.info.Info.{Info}
use Rattle.pw_info.specs.Information.{kind_of, Implies, meet}
use Rattle.pw_facts.specs.declared.fact.Fact.{Fact}
use Rattle.pw_cells.specs.declared.bound.Bound.{Bound}
use Rattle.std.specs.Coded.{Coded, code_by, coded×, coded_ℕ, coded_list}
use Rattle.pw_cells.specs.declared.arrival.Arrival.{Arrival}
use Rattle.pw_cells.specs.Cells.{Arrivals}
use Rattle.pw_cells.specs.Cells.{Cell, Store, shown_by, ArePremisesOf, all_assimilated, does_subsume, told_at}
use Rattle.std.specs.FinSet.{is_subset}
use Rattle.pw_premises.specs.Premises.{Premises}
use Rattle.pw_premises.specs.PremiseSubsets.{has_same_numbers}
use Rattle.pw_facts.specs.Facts.{shows, Subsumes}
use Rattle.pw_cells.specs.declared.recalled.Recalled.{Recalled}

-- the information is of the kind, and says at least as much as each of the first `count` facts
pub record Bounds (kind : Kind) (facts : List Fact) (bound : Bound) : Type 0 where
  pub of_kind : kind_of bound.info ≡ kind
  pub within : bound.count ≤ length facts
  pub says : All (λ f. Implies bound.info f.info) (take bound.count facts)

-- a cell is stored as its kind and its two lists of facts
abbrev pub cell_code : Coded Kind → Coded Fact → Coded Cell
cell_code kind fact =
    code_by _ (coded× kind (coded× (coded_list fact) (coded_list fact))) (λ c.
    (c.kind, (c.told, c.kept)))
    (λ p. record { kind = p.0; told = p.1.0; kept = p.1.1 }) (λ _. refl)

-- what came is stored as a cell and a fact, and what came lately as a count and a list
abbrev pub arrival_code : Coded Fact → Coded Arrival
arrival_code fact =
    code_by _ (coded× coded_ℕ fact) (λ a. (a.cell, a.fact)) (λ p.
    record { cell = p.0; fact = p.1 }) (λ _. refl)

abbrev pub arrivals_code : Coded Fact → Coded Arrivals
arrivals_code fact =
    code_by _ (coded× coded_ℕ (coded_list (arrival_code fact))) (λ a. (a.past, a.list)) (λ p.
    record { past = p.0; list = p.1 }) (λ _. refl)

-- a store is stored as the list of its cells, its room, and what came lately
abbrev pub store_code : Coded Kind → Coded Fact → Coded Store
store_code kind fact =
    code_by _ (coded× (coded_list (cell_code kind fact)) (coded× coded_ℕ (arrivals_code fact)))
    (λ s. (s.cells, (s.room, s.arrivals))) (λ p.
    record { cells = p.0; room = p.1.0; arrivals = p.1.1 }) (λ _. refl)

-- each of the facts is of the kind
abbrev pub AreOfKind : Kind → List Fact → Type 0
AreOfKind kind facts = All (λ f. kind_of f.info ≡ kind) facts

-- none of the facts subsumes another
abbrev pub AreApart : List Fact → Type 0
AreApart facts = (f g : Fact) → Contains facts f → Contains facts g → Subsumes f g → f ≡ g

-- whether the first of two facts of one kind subsumes the second, which does not subsume the first
abbrev pub outdoes : Fact → Fact → Bool
outdoes a b = does_subsume a b && not (does_subsume b a)

-- the facts of a list that no later one outdoes
abbrev pub current : List Fact → List Fact
current [] = []
current (fact ∷ later) = if list_any (λ f. outdoes f fact) later then current later
    else fact ∷ current later

-- at most one of the facts is left out, one that this fact subsumes
abbrev pub LeavesOutOne : Fact → List Fact → List Fact → Type 0
LeavesOutOne fact old new = (new ≡ old) ⊎ ((place : ℕ) × (place < length old)
    × (does_subsume fact (slice_index_or old place fact) ≡ true)
    × (new ≡ take place old ++ drop (place + 1) old))

-- the place of the support among these, if it is there
abbrev pub place_of_support : Premises → List Premises → Option ℕ
place_of_support support supports = position (has_same_numbers support) supports

-- the facts that these supports and informations hold, in either width
abbrev pub facts_held : {S : Type 0} → (S → Premises) → List (S × Info) → List Fact
facts_held premises held = map (λ h. record { info = h.1; support = premises h.0 }) held

-- the facts of a cell are of its kind; in every worldview the kept facts, after the late ones are
-- assimilated, say at least what was told; and no kept fact subsumes another
pub record IsCellWhole (kind : Kind) (told kept late : List Fact) : Type 0 where
  pub told_kinds : AreOfKind kind told
  pub kept_kinds : AreOfKind kind kept
  pub late_kinds : AreOfKind kind late
  pub says : (w : Premises) → Implies (shown_by kind w (all_assimilated kept late))
      (shown_by kind w told)
  pub apart : AreApart kept

-- a cell about which nothing was told, and of which these facts are kept
abbrev pub cell_keeping : Kind → List Fact → Cell
cell_keeping kind kept = record { kind = kind; told = []; kept = kept }

-- facts of the fact's kind show more: in every worldview they show what they showed before, merged
-- with what the fact shows there
abbrev pub ShowsMore : Fact → List Fact → List Fact → Type 0
ShowsMore fact old new = (w : Premises) → shown_by (kind_of fact.info) w new
    ≡ meet (shown_by (kind_of fact.info) w old) (shows w fact)

-- `rest` has exactly those of the facts that this fact does not subsume
pub record IsRest (fact : Fact) (facts rest : List Fact) : Type 0 where
  pub stays : All (λ f. Contains rest f ⊎ Subsumes fact f) facts
  pub within : All (λ f. Contains facts f) rest
  pub gone : All (λ f. Subsumes fact f → ⊥) rest

-- the fact says what the facts together show in the worldview, and rests on premises of theirs that
-- give the same
pub record StandsFor (kind : Kind) (worldview : Premises) (facts : List Fact) (merge : Fact)
    : Type 0 where
  pub info : merge.info ≡ shown_by kind worldview facts
  pub within : is_subset merge.support worldview ≡ true
  pub same : shown_by kind merge.support facts ≡ merge.info
  pub rests : ArePremisesOf facts merge.support

-- each of the facts that the worldview shows, the one before shows too
abbrev pub AreShownBefore : Premises → Premises → List Fact → Type 0
AreShownBefore before worldview facts =
    All (λ f. is_subset f.support worldview ≡ true → is_subset f.support before ≡ true) facts

-- an answer is right: it is the told information about the cell in the worldview
abbrev pub IsRight : List Cell → Recalled → Type 0
IsRight cells answer = (answer.cell < length cells)
    × (answer.info ≡ told_at cells answer.cell answer.worldview)

-- each of the answers is right
abbrev pub AreRight : List Cell → List Recalled → Type 0
AreRight cells answers = All (IsRight cells) answers

-- the answer after this fact is told about this cell too
abbrev pub after_tell : ℕ → Fact → Recalled → Recalled
after_tell cell fact answer =
    if nat_eq answer.cell cell && is_subset fact.support answer.worldview
    then record {
      cell = answer.cell;
      worldview = answer.worldview;
      info =
          meet answer.info fact.info;
    }
    else answer
