-- What a text spells has the compounds of the prelude first.
use Rattle.std.proofs.Common.{◌≡◌, ℕ, suc, ◌≤◌, List, [], ◌∷◌, ◌++◌, Some, None, length, refl, sym, ap, subst, ◌∙◌, codes, arith}
use Rattle.pw_info.specs.declared.kind.Kind.TheVariants as kinds
use Rattle.pw_procs.specs.Values.{bool}
use Rattle.pw_procs.specs.Registering.{place_of_name}
use Rattle.pw_procs.specs.Procedure.{Procedure, names_of}
use Rattle.pw_info.specs.Lines.{lines_of}
use Rattle.pw_decl.specs.declared.step.Callable.TheVariants as callables
use Rattle.pw_decl.specs.BuiltIn.{IsBuiltIn, first_compounds, HasPrelude}
use Rattle.pw_decl.specs.Declaration.{Declared, BeforeHeader, Outside, nothing_declared, callable_named}
use Rattle.pw_decl.specs.Faults.{PreludeDeclares, SpellsDeclaration}
use Rattle.pw_decl.specs.Prelude.{prelude_compounds, prelude_text}
use Rattle.pw_decl.proofs.CompoundsKept.{OnlyAdds, lines_add}
use Rattle.pw_decl.proofs.PreludeLemmas.{three_compounds, DeclaresThree, prelude_declares_three}

-- a name of no procedure calls the compound at its place
called_at : (d : Declared) (word : List ℕ) (number : ℕ) → place_of_name (names_of d.procedures) word ≡ None → place_of_name d.compound_names word ≡ Some number →
    callable_named d word ≡ Some (callables.Compound number)
called_at d word number free at = rw (free, at) refl

-- what is added to what the prelude declares
module _ (d known : Declared) (three : DeclaresThree d.procedures known) (adds : OnlyAdds known d) where
  names_are : d.compound_names ≡ codes "sum" ∷ codes "product" ∷ codes "conditional" ∷ adds.later_names
  names_are = adds.names ∙ ap (λ (k : Declared). k.compound_names ++ adds.later_names) three.known_is

  compounds_are : d.compounds ≡ three.sum ∷ three.product ∷ three.conditional ∷ adds.later
  compounds_are = adds.compounds ∙ ap (λ (k : Declared). k.compounds ++ adds.later) three.known_is

  three_there : prelude_compounds ≤ length d.compounds
  three_there = let many : length d.compounds ≡ suc (suc (suc (length adds.later))) = ap length compounds_are in omega arith

  first_are : first_compounds d ≡ three_compounds d.procedures three.sum three.product three.conditional
  first_are = rw (names_are, compounds_are) refl

  sum_built_in : IsBuiltIn d (codes "sum") 0 (kinds.Interval ∷ kinds.Interval ∷ kinds.Interval ∷ [])
  sum_built_in = record {
    called = called_at d (codes "sum") 0 three.sum_free (rw names_are refl);
    takes = (three.sum, rw compounds_are refl, three.sum_takes);
  }

  product_built_in : IsBuiltIn d (codes "product") 1 (kinds.Interval ∷ kinds.Interval ∷ kinds.Interval ∷ [])
  product_built_in = record {
    called = called_at d (codes "product") 1 three.product_free (rw names_are refl);
    takes = (three.product, rw compounds_are refl, three.product_takes);
  }

  conditional_built_in : IsBuiltIn d (codes "conditional") 2 (bool ∷ kinds.Interval ∷ kinds.Interval ∷ kinds.Interval ∷ [])
  conditional_built_in = record {
    called = called_at d (codes "conditional") 2 three.conditional_free (rw names_are refl);
    takes = (three.conditional, rw compounds_are refl, three.conditional_takes);
  }

  has_prelude : PreludeDeclares d.procedures known → HasPrelude d
  has_prelude declares = record {
    three = three_there;
    names = rw names_are refl;
    first = subst (PreludeDeclares d.procedures) (three.known_is ∙ sym first_are) declares;
    sum = sum_built_in;
    product = product_built_in;
    conditional = conditional_built_in;
  }

-- what a text spells has the prelude
pub spelled_prelude : (ps : List Procedure) (text : List ℕ) (d : Declared) → SpellsDeclaration ps text d → HasPrelude d
spelled_prelude ps text d spells =
    let adds = lines_add (BeforeHeader spells.known) (lines_of text) (Outside d) spells.leads in
    let first = lines_add (Outside (nothing_declared ps)) (lines_of prelude_text) (Outside spells.known) spells.prelude in
    let same : ps ≡ d.procedures = sym (adds.procedures ∙ first.procedures) in
    let declares = subst (λ (list : List Procedure). PreludeDeclares list spells.known) same spells.prelude in
    has_prelude d spells.known (prelude_declares_three d.procedures spells.known declares) adds declares
