-- Which lists of procedures make a registry, what is wrong with the others, and the place of a name
-- in a list.
use Rattle.std.specs.Prelude.{ℕ, List, Option, ◌≡◌, ◌<◌, ◌≤◌, ◌⊎◌, [], ◌∷◌, codes, length, take}
use Rattle.std.specs.Prelude.{slice_get, Some, false, Contains}
use Rattle.std.specs.List.{position_from}
use Rattle.std.specs.Str.{bytes_eq}
use Rattle.pw_info.specs.Name.{is_name}
use Rattle.pw_procs.specs.declared.registry.RegistryFault.{RegistryFault}
use Rattle.pw_procs.specs.declared.registry.RegistryFault.TheVariants.{DuplicateName, BadName}
use Rattle.pw_procs.specs.declared.registry.RegistryFault.TheVariants.{TooMany, Memory}

-- the position, from 0, of the first name that is equal to the word
abbrev pub place_of_name : List (List ℕ) → List ℕ → Option ℕ
place_of_name names word = position_from (bytes_eq word) 0 names

-- the greatest number of procedures in a registry
abbrev pub most_procedures : ℕ
most_procedures = 64

-- the names that every declaration gives to compounds of its own
abbrev pub taken_names : List (List ℕ)
taken_names = codes "sum" ∷ codes "product" ∷ codes "conditional" ∷ []

-- no procedure may have this name
abbrev pub IsBadName : List ℕ → Type 0
IsBadName name = (is_name name ≡ false) ⊎ Contains taken_names name

-- the fault of one name, after these: a bad name comes before a name that is among these already
abbrev pub IsFaultAfter : List (List ℕ) → List ℕ → RegistryFault → Type 0
IsFaultAfter before name BadName = IsBadName name
IsFaultAfter before name DuplicateName = (IsBadName name → ⊥) × Contains before name
IsFaultAfter before name _ = ⊥

-- the name has no fault, after these
abbrev pub IsFaultlessAfter : List (List ℕ) → List ℕ → Type 0
IsFaultlessAfter before name = (fault : RegistryFault) → IsFaultAfter before name fault → ⊥

-- the names up to place n have no fault
abbrev pub AreFreeBelow : List (List ℕ) → ℕ → Type 0
AreFreeBelow names n = (k : ℕ) (name : List ℕ) (fault : RegistryFault) → k < n → slice_get names k
    ≡ Some name → IsFaultAfter (take k names) name fault → ⊥

-- these are the names of a registry's procedures
pub record AreRegistered (names : List (List ℕ)) : Type 0 where
  pub most : length names ≤ most_procedures
  pub free : AreFreeBelow names (length names)

-- there are not too many names, and this is the first fault of a name
pub record IsFirstNameFault (names : List (List ℕ)) (fault : RegistryFault) : Type 0 where
  pub most : length names ≤ most_procedures
  pub place : ℕ
  pub name : List ℕ
  pub stands : slice_get names place ≡ Some name
  pub wrong : IsFaultAfter (take place names) name fault
  pub first : AreFreeBelow names place

-- why the procedures of these names make no registry; out of memory comes last
abbrev pub IsRegistryFault : List (List ℕ) → RegistryFault → Type 0
IsRegistryFault names TooMany = most_procedures < length names
IsRegistryFault names Memory = AreRegistered names
IsRegistryFault names fault = IsFirstNameFault names fault
