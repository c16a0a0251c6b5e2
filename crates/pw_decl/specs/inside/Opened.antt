-- The open compound, as the code stores it.
use Rattle.std.specs.Prelude.{◌≡◌, ℕ, List}
use Rattle.std.specs.String.{string_bytes}
use Rattle.pw_decl.specs.declared.compound.OpenCompound.{OpenCompound as OpenCompoundType}
use Rattle.pw_decl.specs.declared.compound.Place.{Place}
use Rattle.pw_decl.specs.declared.compound.Place.TheVariants as places
use Rattle.pw_decl.specs.Compound.{cell_kinds, Size, no_size, sum_of_sizes, size_of_steps, sizes_of}
use Rattle.pw_decl.specs.Declaration.{Declared, OpenCompound, NameKinds, begun, parameter_kinds}
use Rattle.pw_decl.specs.Declaration.{parameter_names}
use Rattle.pw_decl.specs.inside.Held.{compound_of, size_of, steps_of}
use Rattle.pw_decl.specs.WellDeclared.{IsWellOpen}

-- an open compound
abbrev pub open_of : {A : Type 0} → OpenCompoundType A → OpenCompound
open_of opened = record {
  name = string_bytes opened.name;
  names = opened.names;
  compound =
      compound_of opened.compound;
}

-- the stored kinds of the open compound's cells and its stored size are right, after this
-- declaration
pub record IsOpen {A : Type 0} (d : Declared) (opened : OpenCompoundType A) : Type 0 where
  pub well : IsWellOpen d (open_of opened)
  pub kinds : opened.kinds.items ≡ cell_kinds (compound_of opened.compound)
  pub size : size_of opened.compound.size ≡ size_of_steps (sizes_of d.compounds)
      (steps_of opened.compound.steps.items)

-- a compound of this name has begun with these parameters, and the stored kinds of its cells are
-- right
pub record IsBegun {A : Type 0} (d : Declared) (name : List ℕ) (parameters : List (List ℕ))
    (opened : OpenCompoundType A) : Type 0 where
  pub is : open_of opened ≡ begun name (parameter_names parameters) opened.compound.parameters.items
  pub named : NameKinds d (parameter_kinds parameters) opened.compound.parameters.items
  pub kinds : opened.kinds.items ≡ opened.compound.parameters.items
  pub size : size_of opened.compound.size ≡ no_size

-- from one open compound to the next: it has become this one, and has grown by this size
pub record IsGrown {A : Type 0} (old : OpenCompoundType A) (opened : OpenCompound) (more : Size)
    (new : OpenCompoundType A) : Type 0 where
  pub is : open_of new ≡ opened
  pub kinds : old.kinds.items ≡ cell_kinds (compound_of old.compound) → new.kinds.items
      ≡ cell_kinds opened.compound
  pub size : size_of new.compound.size ≡ sum_of_sizes (size_of old.compound.size) more

-- the place of the line is stored correctly
abbrev pub IsWellPlaced : {A : Type 0} → Declared → Place A → Type 0
IsWellPlaced d places.BeforeHeader = Unit {0}
IsWellPlaced d places.Outside = Unit {0}
IsWellPlaced d (places.Inside opened) = IsOpen d opened
