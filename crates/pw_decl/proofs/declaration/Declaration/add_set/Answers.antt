use Rattle.pw_decl.specs.Declaration.{built_in_kind_names}
use Rattle.pw_decl.specs.WellDeclared.{IsWellDeclared}
use Rattle.pw_decl.specs.inside.Fields.{declared}
use Rattle.pw_decl.proofs.DeclaredLemmas.{added_or_not, well_with_set}
use Rattle.pw_decl.proofs.SetLemmas.{none_after}
use Rattle.pw_decl.proofs.declaration.Declaration.add_set.Goals as goal

pub add_named_set-requires : goal.add_named_set-requires
add_named_set-requires g c = none_after built_in_kind_names c.args.self.now.set_names c.args.name.now c.requires.fresh

pub invariant_of-self-clause-well : goal.invariant_of-self-clause-well
invariant_of-self-clause-well g c =
    let d = declared c.args.self.now in
    let added = c.add_named_set.ensures in
    added_or_not (λ names sets. IsWellDeclared (record d { set_names = names; sets = sets })) c.add_named_set.result added.name added.set added.no_name added.no_set
    c.args.self.now.well (well_with_set d c.args.name.now c.args.members c.args.self.now.well c.requires.room c.requires.size c.requires.names)
