-- A sum between three cells of a declaration: what a host needs for it, what it makes, and what
-- follows.
use Rattle.std.specs.Prelude.{◌≡◌, ℕ, ◌<◌, List, [], ◌∷◌, Some, codes, length}
use Rattle.std.specs.FinSet.{empty}
use Rattle.pw_kinds.specs.declared.interval.Interval.{Interval}
use Rattle.pw_info.specs.declared.info.Info.TheVariants as info
use Rattle.pw_info.specs.declared.kind.Kind.TheVariants as kinds
use Rattle.pw_facts.specs.declared.fact.Fact.{Fact}
use Rattle.pw_procs.specs.Registering.{place_of_name}
use Rattle.pw_procs.specs.Registry.{cells_of}
use Rattle.pw_decl.specs.Compound.{kinds_at}
use Rattle.pw_decl.specs.Declaration.{Declared, Takes, callable_named, kind_at}
use Rattle.pw_sessions.specs.Entries.{Entry, Told, Attached}
use Rattle.pw_uses.specs.declared.sum.Sum.{Sum}

-- a declared cell of intervals has this name
pub record IsIntervalCell (d : Declared) (name : List ℕ) (cell : ℕ) : Type 0 where
  pub named : place_of_name d.cells name ≡ Some cell
  pub within : cell < length d.cells
  pub kind : kind_at d cell ≡ kinds.Interval

-- the declaration has a user, and these cells of intervals under the names x, y and t
pub record HasCells (d : Declared) (x y t : ℕ) : Type 0 where
  pub users : 0 < length d.users
  pub x_cell : IsIntervalCell d (codes "x") x
  pub y_cell : IsIntervalCell d (codes "y") y
  pub t_cell : IsIntervalCell d (codes "t") t

-- it has not
abbrev pub Lacks : Declared → Type 0
Lacks d = (x y t : ℕ) → HasCells d x y t → ⊥

-- the sum is the declared `sum`, between these cells, which it takes
pub record IsSumIn (d : Declared) (sum : Sum) : Type 0 where
  pub cells : HasCells d sum.x sum.y sum.t
  pub called : callable_named d (codes "sum") ≡ Some sum.callable
  pub between : cells_of sum.cells ≡ sum.x ∷ sum.y ∷ sum.t ∷ []
  pub takes : Takes d sum.callable (kinds_at d.kinds (cells_of sum.cells))

-- an interval that rests on no premise
abbrev pub fact_of : Interval → Fact
fact_of interval = record { info = info.Interval interval; support = empty }

-- what a host made of the sum: line 1 attached it, line 2 told of x, and line 3 of t
abbrev pub entries_of : Sum → Interval → Interval → List Entry
entries_of sum x t =
    Attached 1 sum.callable (cells_of sum.cells) empty ∷ Told 2 sum.x (fact_of x) ∷
    Told 3 sum.t (fact_of t) ∷ []
