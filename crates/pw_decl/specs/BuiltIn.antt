-- The built-in compounds of a declaration: the three that the prelude declares.
use Rattle.std.specs.Prelude.{◌≡◌, ℕ, ◌≤◌, List, [], ◌∷◌, Some, codes, length, take}
use Rattle.pw_info.specs.declared.kind.Kind.{Kind}
use Rattle.pw_info.specs.declared.kind.Kind.TheVariants as kinds
use Rattle.pw_procs.specs.Values.{bool}
use Rattle.pw_decl.specs.declared.step.Callable.TheVariants as callables
use Rattle.pw_decl.specs.Declaration.{Declared, nothing_declared, callable_named, Takes}
use Rattle.pw_decl.specs.Faults.{PreludeDeclares}
use Rattle.pw_decl.specs.Prelude.{prelude_compounds}

-- the name calls the compound of this number, which takes cells of these kinds
pub record IsBuiltIn (d : Declared) (name : List ℕ) (number : ℕ) (kinds : List Kind) : Type 0 where
  pub called : callable_named d name ≡ Some (callables.Compound number)
  pub takes : Takes d (callables.Compound number) kinds

-- the first three declared compounds, and nothing else
abbrev pub first_compounds : Declared → Declared
first_compounds d = record (nothing_declared d.procedures) {
  compound_names = take prelude_compounds d.compound_names;
  compounds = take prelude_compounds d.compounds;
}

-- the first three compounds are what the prelude declares over the procedures, they have the names
-- of the prelude, and each is called by its name and takes cells of the kinds that the prelude
-- gives its parameters
pub record HasPrelude (d : Declared) : Type 0 where
  pub three : prelude_compounds ≤ length d.compounds
  pub names : take prelude_compounds d.compound_names
      ≡ codes "sum" ∷ codes "product" ∷ codes "conditional" ∷ []
  pub first : PreludeDeclares d.procedures (first_compounds d)
  pub sum : IsBuiltIn d (codes "sum") 0 (kinds.Interval ∷ kinds.Interval ∷ kinds.Interval ∷ [])
  pub product : IsBuiltIn d (codes "product") 1
      (kinds.Interval ∷ kinds.Interval ∷ kinds.Interval ∷ [])
  pub conditional : IsBuiltIn d (codes "conditional") 2
      (bool ∷ kinds.Interval ∷ kinds.Interval ∷ kinds.Interval ∷ [])
