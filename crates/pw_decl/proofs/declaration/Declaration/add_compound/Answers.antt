use Rattle.std.proofs.Common.{◌≡◌, ◌++◌, ◌∷◌, [], ℕ, List, None, refl}
use Rattle.std.proofs.lemmas.List.{map_push}
use Rattle.std.specs.String.{string_bytes}
use Rattle.pw_procs.specs.Registering.{place_of_name}
use Rattle.pw_decl.specs.Compound.{sizes_of}
use Rattle.pw_decl.specs.Declaration.{Declared, with_compound}
use Rattle.pw_decl.specs.Expansion.{inner_after}
use Rattle.pw_decl.specs.WellDeclared.{IsWellDeclared}
use Rattle.pw_decl.specs.declared.compound.Compound.{Compound as CompoundType}
use Rattle.pw_decl.specs.inside.Fields.{declared}
use Rattle.pw_decl.specs.inside.Held.{calls_held, calls_of, inner_held, instances_of}
use Rattle.pw_decl.specs.inside.Held.{compound_of, compounds_of, size_of, sizes_held}
use Rattle.pw_decl.proofs.DeclaredLemmas.{added_or_not, added_to, not_added_to, well_with_compound}
use Rattle.pw_decl.proofs.CompoundLaws.{sizes_push}
use Rattle.pw_decl.proofs.FlatKept.{calls_held_push, inner_held_push}
use Rattle.pw_decl.proofs.KeptLemmas.{not_compound}
use Rattle.pw_decl.proofs.declaration.Declaration.add_compound.Goals as goal

pub add_ended-requires : goal.add_ended-requires
add_ended-requires g c =
    let none : place_of_name c.args.self.now.compound_names (string_bytes c.args.opened.name) ≡ None = not_compound _ _ c.requires.kept.well.fresh in
    rw (c.as_str.ensures.value, c.ended-name.ensures.name) none

pub invariant_of-self-clause-well : goal.invariant_of-self-clause-well
invariant_of-self-clause-well g c =
    let d = declared c.args.self.now in
    let kept = c.args.self.now.compounds.items in
    let compound = c.args.opened.compound in
    let name = string_bytes c.args.opened.name in
    let well = c.requires.kept.well in
    let added = c.add_ended.ensures in
    let after : IsWellDeclared (record d { compound_names = d.compound_names ++ c.as_str.result.now ∷ []; compounds = compounds_of (kept ++ c.ended-name.result.1 ∷ []) }) =
    rw (c.as_str.ensures.value, c.ended-name.ensures.name, c.ended-name.ensures.compound, map_push compound_of kept compound)
    (well_with_compound d name (compound_of compound) c.args.self.now.well well.room well.parameters well.steps well.small) in
    added_or_not (λ names compounds. IsWellDeclared (record d { compound_names = names; compounds = compounds_of compounds })) c.add_ended.result added.name added.compound added.no_name added.no_compound
    c.args.self.now.well after

pub invariant_of-self-clause-sized : goal.invariant_of-self-clause-sized
invariant_of-self-clause-sized g c =
    let kept = c.args.self.now.compounds.items in
    let compound = c.args.opened.compound in
    let added = c.add_ended.ensures in
    let sizes : sizes_held (kept ++ compound ∷ []) ≡ sizes_held kept ++ size_of compound.size ∷ [] = map_push (λ kept. size_of kept.size) kept compound in
    let compounds : compounds_of (kept ++ compound ∷ []) ≡ compounds_of kept ++ compound_of compound ∷ [] = map_push compound_of kept compound in
    let after : sizes_held (kept ++ c.ended-name.result.1 ∷ []) ≡ sizes_of (compounds_of (kept ++ c.ended-name.result.1 ∷ [])) =
    rw (c.ended-name.ensures.compound, sizes, compounds, sizes_push [] (compounds_of kept) (compound_of compound), c.args.self.now.sized, c.requires.kept.size) refl in
    added_or_not (λ names compounds. sizes_held compounds ≡ sizes_of (compounds_of compounds)) c.add_ended.result added.name added.compound added.no_name added.no_compound
    c.args.self.now.sized after

pub invariant_of-self-clause-calls : goal.invariant_of-self-clause-calls
invariant_of-self-clause-calls g c =
    let kept = c.args.self.now.compounds.items in
    let flat = c.args.self.now.flattened.items in
    let compound = c.args.opened.compound in
    let flattened = c.args.flattened in
    let added = c.add_ended.ensures in
    let calls : calls_held (flat ++ flattened ∷ []) ≡ calls_held flat ++ instances_of flattened.calls.items ∷ [] = map_push (λ kept. instances_of kept.calls.items) flat flattened in
    let compounds : compounds_of (kept ++ compound ∷ []) ≡ compounds_of kept ++ compound_of compound ∷ [] = map_push compound_of kept compound in
    let after : calls_held (flat ++ flattened ∷ []) ≡ calls_of (compounds_of (kept ++ c.ended-name.result.1 ∷ [])) = rw (c.ended-name.ensures.compound, calls, compounds)
    (calls_held_push (compounds_of kept) (compound_of compound) (calls_held flat) (instances_of flattened.calls.items) c.args.self.now.calls c.requires.flat.calls) in
    added_or_not (λ flattened compounds. calls_held flattened ≡ calls_of (compounds_of compounds)) c.add_ended.result added.flattened added.compound added.no_flattened added.no_compound
    c.args.self.now.calls after

pub invariant_of-self-clause-inner : goal.invariant_of-self-clause-inner
invariant_of-self-clause-inner g c =
    let kept = c.args.self.now.compounds.items in
    let flat = c.args.self.now.flattened.items in
    let compound = c.args.opened.compound in
    let flattened = c.args.flattened in
    let added = c.add_ended.ensures in
    let inner : inner_held (flat ++ flattened ∷ []) ≡ inner_held flat ++ flattened.inner.items ∷ [] = map_push (λ kept. kept.inner.items) flat flattened in
    let compounds : compounds_of (kept ++ compound ∷ []) ≡ compounds_of kept ++ compound_of compound ∷ [] = map_push compound_of kept compound in
    let after : inner_held (flat ++ flattened ∷ []) ≡ inner_after [] (compounds_of (kept ++ c.ended-name.result.1 ∷ [])) = rw (c.ended-name.ensures.compound, inner, compounds)
    (inner_held_push (compounds_of kept) (compound_of compound) (inner_held flat) flattened.inner.items c.args.self.now.inner c.requires.flat.inner) in
    added_or_not (λ flattened compounds. inner_held flattened ≡ inner_after [] (compounds_of compounds)) c.add_ended.result added.flattened added.compound added.no_flattened added.no_compound
    c.args.self.now.inner after

pub returns-clause-ok : goal.returns-clause-ok
returns-clause-ok g c =
    let d = declared c.args.self.now in
    let kept = c.args.self.now.compounds.items in
    let compound = c.args.opened.compound in
    let made : List (List ℕ) → List (CompoundType g.row.A.Denot) → Declared = λ names compounds. record d { compound_names = names; compounds = compounds_of compounds } in
    let names = d.compound_names ++ c.as_str.result.now ∷ [] in
    let compounds = kept ++ c.ended-name.result.1 ∷ [] in
    let all = with_compound d (string_bytes c.args.opened.name) (compound_of compound) in
    let is : made names compounds ≡ all = rw (c.as_str.ensures.value, c.ended-name.ensures.name, c.ended-name.ensures.compound, map_push compound_of kept compound) refl in
    added_to made c.add_ended.new.names names c.add_ended.new.compounds.items compounds all c.add_ended.result c.add_ended.ensures.name c.add_ended.ensures.compound is

pub returns-clause-err : goal.returns-clause-err
returns-clause-err g c =
    let d = declared c.args.self.now in
    let made : List (List ℕ) → List (CompoundType g.row.A.Denot) → Declared = λ names compounds. record d { compound_names = names; compounds = compounds_of compounds } in
    not_added_to made c.add_ended.new.names d.compound_names c.add_ended.new.compounds.items c.args.self.now.compounds.items c.add_ended.result c.add_ended.ensures.no_name c.add_ended.ensures.no_compound
