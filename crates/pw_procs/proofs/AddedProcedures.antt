-- A list of procedures that has gained one.
use Rattle.std.proofs.Common.{◌≡◌, ℕ, List, [], ◌∷◌, ◌++◌, map, refl, ◌∙◌, ap}
use Rattle.std.proofs.lemmas.List.{map-append}
use Rattle.pw_procs.specs.declared.signature.Slot.{Slot}
use Rattle.pw_procs.specs.declared.meaning.Meaning.{Meaning}
use Rattle.pw_procs.specs.declared.stored.Stored.{Stored}
use Rattle.pw_procs.specs.Procedure.{Procedure, procedure_of, procedures_of, named_meanings, names_of, IsAdded}

-- the procedures are unchanged, and the new one is added
pub procedures-added : {X : Type 0} {F : X → Type 0} {C : _} (old new : List (Stored X F C)) (name : List ℕ) (inputs : List Slot) (output : Slot) (meaning : Meaning)
    → (is : IsAdded old new name inputs output meaning) → procedures_of new ≡ procedures_of old ++ procedure_of is.added ∷ []
procedures-added old new name inputs output meaning is = ap procedures_of is.list ∙ map-append procedure_of old (is.added ∷ [])

-- the names of procedures are those of their named meanings
pub names-meanings : (procedures : List Procedure) → names_of procedures ≡ map (λ entry. entry.0) (named_meanings procedures)
names-meanings [] = refl
names-meanings (procedure ∷ procedures) = ap (λ names. procedure.name ∷ names) (names-meanings procedures)
