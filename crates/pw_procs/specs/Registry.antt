-- The procedures of a registry, and the cells that a procedure is put between.
--
-- A procedure's number is its place in the registry, from 0 on. Numbers never change, since
-- procedures are only added. A registry lists its procedures in a list of entries; an entry is a
-- stored procedure, that is a name, a signature, a meaning and a body. Contracts see all but the
-- body. Arguments have room for nine cells, of which the first `count` are given; what stands past
-- them means nothing.
use Rattle.std.specs.Prelude.{ℕ, List, take, map}
use Rattle.pw_procs.specs.declared.arguments.Arguments.{Arguments}
use Rattle.pw_procs.specs.declared.registry.Registry.{Registry}
use Rattle.pw_procs.specs.Procedure.{Procedure, procedure_of, names_of}

-- the numbers of the cells, in order
abbrev pub cells_of : Arguments → List ℕ
cells_of arguments = take arguments.count arguments.held

-- the procedures, in the order of their numbers
abbrev pub procedures_in : {A : _} {X : Type 0} {F : X → Type 0} {C : _} → Registry A X F C →
    List Procedure
procedures_in registry = map procedure_of registry.entries.items

-- their names, in that order
abbrev pub names_in : {A : _} {X : Type 0} {F : X → Type 0} {C : _} → Registry A X F C →
    List (List ℕ)
names_in registry = names_of (procedures_in registry)
