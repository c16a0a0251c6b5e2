-- Properties of every declaration.
use Rattle.std.specs.Prelude.{◌≡◌, ℕ, ◌+◌, ◌<◌, ◌≤◌, [], None, length, All, IfSome}
use Rattle.pw_kinds.specs.Places.{IsSize}
use Rattle.pw_info.specs.SetNames.{AreNames, IsNamed}
use Rattle.pw_decl.specs.Compound.{AreSteps, AreCompoundsAfter, cell_kinds, Size, size_of_steps}
use Rattle.pw_decl.specs.Compound.{sizes_of}
use Rattle.pw_decl.specs.Declaration.{Declared, OpenCompound, SoFar, BeforeHeader, Outside, Inside}
use Rattle.pw_decl.specs.Declaration.{callable_named, members_of}
use Rattle.pw_decl.specs.Limits.{most_users, most_premises, most_cells, most_sets, most_compounds}
use Rattle.pw_decl.specs.Limits.{most_parameters, most_instances, most_inner_cells}
use Rattle.pw_decl.specs.Prelude.{prelude_compounds}

-- the size is small enough for an expansion
pub record IsSmall (size : Size) : Type 0 where
  pub instances : size.instances ≤ most_instances
  pub inner_cells : size.inner_cells ≤ most_inner_cells

-- the limits are kept, each premise has an owner or none, each cell has a kind and each set kind
-- has its members, owners are users, members have names, the kinds of cells are declared, and
-- compounds have no more parameters than allowed and name only earlier things
pub record IsWellDeclared (d : Declared) : Type 0 where
  pub users : length d.users ≤ most_users
  pub premises : length d.premises ≤ most_premises
  pub owners : length d.owners ≡ length d.premises
  pub cells : length d.cells ≤ most_cells
  pub kinds : length d.kinds ≡ length d.cells
  pub owned : All (λ owner. IfSome owner (λ user. user < length d.users)) d.owners
  pub sets : length d.sets ≤ most_sets
  pub set_names : length d.set_names ≡ length d.sets
  pub sizes : All (λ names. IsSize (length names)) d.sets
  pub named : (set : ℕ) → AreNames (members_of d set)
  pub known : All (IsNamed (members_of d)) d.kinds
  pub compound_names : length d.compound_names ≡ length d.compounds
  pub compounds : length d.compounds ≤ prelude_compounds + most_compounds
  pub few : All (λ compound. length compound.parameters ≤ most_parameters) d.compounds
  pub steps : ∥ AreCompoundsAfter d.procedures [] d.compounds ∥₁
  pub expansions : All IsSmall (sizes_of d.compounds)

-- an open compound has room among the others and a name of its own, each of its cells has a name,
-- and its lines name only earlier things and expand to no more than allowed
pub record IsWellOpen (d : Declared) (opened : OpenCompound) : Type 0 where
  pub room : length d.compounds < prelude_compounds + most_compounds
  pub fresh : callable_named d opened.name ≡ None
  pub names : length opened.names ≡ length (cell_kinds opened.compound)
  pub parameters : length opened.compound.parameters ≤ most_parameters
  pub steps : AreSteps d.procedures d.compounds opened.compound.parameters opened.compound.steps
  pub small : IsSmall (size_of_steps (sizes_of d.compounds) opened.compound.steps)

-- the same for what was declared so far
abbrev pub IsWellSoFar : SoFar → Type 0
IsWellSoFar (BeforeHeader d) = IsWellDeclared d
IsWellSoFar (Outside d) = IsWellDeclared d
IsWellSoFar (Inside d opened) = IsWellDeclared d × IsWellOpen d opened
