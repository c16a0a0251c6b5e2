-- The list of the standard procedures as it grows, and its names, which are those of a registry.
use Rattle.std.proofs.Common.{◌≡◌, ℕ, List, [], ◌∷◌, ◌++◌, map, refl, sym, ◌∙◌, ap, arith, subst, codes, true}
use Rattle.std.proofs.lemmas.List.{map-append}
use Rattle.pw_info.specs.Name.{is_name, is_reserved}
use Rattle.pw_procs.specs.declared.signature.Slot.{Slot}
use Rattle.pw_procs.specs.declared.meaning.Meaning.{Meaning}
use Rattle.pw_procs.specs.declared.stored.Stored.{Stored}
use Rattle.pw_procs.specs.Procedure.{Procedure, procedure_of, procedures_of, named_meanings, names_of, IsAdded}
use Rattle.pw_procs.specs.Registering.{AreRegistered}
use Rattle.pw_procs.proofs.AddedProcedures.{procedures-added, names-meanings}
use Rattle.pw_procs.proofs.RegistryNames.{registered_by_test, are_free}
use Rattle.pw_standard.specs.Procedures.{named_table, AreStandard}

-- first a procedure, and then others with these meanings under their names
abbrev pub HasTable : Procedure → List (List ℕ × Meaning) → List Procedure → Type 0
HasTable first known procedures = (others : List Procedure) × (procedures ≡ first ∷ others) × (named_meanings others ≡ known)

-- one more with its meaning under its name
pub one_more : {X : Type 0} {F : X → Type 0} {C : _} (old new : List (Stored X F C)) (name : List ℕ) (inputs : List Slot) (output : Slot) (meaning : Meaning)
    → IsAdded old new name inputs output meaning → (first : Procedure) (known : List (List ℕ × Meaning)) → HasTable first known (procedures_of old)
    → HasTable first (known ++ (name, meaning) ∷ []) (procedures_of new)
one_more old new name inputs output meaning is first known (others, are, named) = (
  others ++ procedure_of is.added ∷ [],
  procedures-added old new name inputs output meaning is ∙ ap (λ l. l ++ procedure_of is.added ∷ []) are,
  map-append (λ procedure. (procedure.name, procedure.meaning)) others (procedure_of is.added ∷ [])
      ∙ ap (λ l. l ++ ((procedure_of is.added).name, (procedure_of is.added).meaning) ∷ []) named
      ∙ ap (λ entry. known ++ entry ∷ []) (rw (is.name_is, is.meaning_is) refl),
)

names_free : are_free [] (codes "sign" ∷ map (λ entry. entry.0) named_table) ≡ true
unfolding is_name is_reserved
names_free = refl

names_are : (procedures : List Procedure) → AreStandard procedures → names_of procedures ≡ codes "sign" ∷ map (λ entry. entry.0) named_table
names_are procedures standard =
    ap names_of standard.are ∙ rw (names-meanings standard.others, standard.table, standard.is_sign.name) refl

pub registered : (procedures : List Procedure) → AreStandard procedures → AreRegistered (names_of procedures)
registered procedures standard =
    subst AreRegistered (sym (names_are procedures standard)) (registered_by_test _ names_free (omega arith))
