-- What a declaration in the code declares, and where the reader of its lines is.
use Rattle.std.specs.Prelude.{◌≡◌, ℕ, List, Some, map, slice_get}
use Rattle.pw_procs.specs.Registry.{procedures_in}
use Rattle.pw_decl.specs.declared.declaration.Declaration.{Declaration}
use Rattle.pw_decl.specs.Compound.{Compound, Step}
use Rattle.pw_decl.specs.Declaration.{Declared, SoFar, BeforeHeader, Outside, Inside}
use Rattle.pw_decl.specs.inside.Held.{compound_of}
use Rattle.pw_decl.specs.declared.compound.OpenCompound.{OpenCompound as OpenCompoundType}
use Rattle.pw_decl.specs.declared.compound.Place.{Place}
use Rattle.pw_decl.specs.inside.Opened.{open_of}
use Rattle.pw_decl.specs.declared.compound.Place.TheVariants as places

-- the declared things
abbrev pub declared : {A : _} {X : Type 0} {F : X → Type 0} {C : _} → Declaration A X F C → Declared
declared d =
    record {
      procedures = procedures_in d.registry.now;
      version = d.version;
      users = d.users;
      premises = d.premises;
      owners = d.owners.items;
      cells = d.cells;
      kinds = d.kinds.items;
      set_names = d.set_names;
      sets = d.sets.items;
      compound_names = d.compound_names;
      compounds = map compound_of d.compounds.items;
    }

-- these are the lines of the compound of this number
abbrev pub StepsAre : Declared → ℕ → List Step → Type 0
StepsAre d number steps = (compound : Compound) × (slice_get d.compounds number ≡ Some compound)
    × (steps ≡ compound.steps)

-- what was declared so far, by the declaration and the place of the line
abbrev pub placed : {A : Type 0} → Declared → Place A → SoFar
placed d places.BeforeHeader = BeforeHeader d
placed d places.Outside = Outside d
placed d (places.Inside opened) = Inside d (open_of opened)

-- outside a compound, and inside an open one, after what a declaration declares
abbrev pub outside : {A : _} {X : Type 0} {F : X → Type 0} {C : _} → Declaration A X F C → SoFar
outside declaration = Outside (declared declaration)

abbrev pub inside : {A : Type 0} {X : Type 0} {F : X → Type 0} {C : _} → Declaration A X F C →
    OpenCompoundType A → SoFar
inside declaration opened = Inside (declared declaration) (open_of opened)
