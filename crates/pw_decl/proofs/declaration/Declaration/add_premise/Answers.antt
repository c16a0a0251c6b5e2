use Rattle.pw_decl.specs.WellDeclared.{IsWellDeclared}
use Rattle.pw_decl.specs.inside.Fields.{declared}
use Rattle.pw_decl.proofs.DeclaredLemmas.{added_or_not, well_with_premise}
use Rattle.pw_decl.proofs.declaration.Declaration.add_premise.Goals as goal

pub invariant_of-self-clause-well : goal.invariant_of-self-clause-well
invariant_of-self-clause-well g c =
    let d = declared c.args.self.now in
    let added = c.add_named.ensures in
    added_or_not (λ names owners. IsWellDeclared (record d { premises = names; owners = owners })) c.add_named.result added.name added.item added.no_name added.no_item
    c.args.self.now.well (well_with_premise d c.args.name.now c.args.owner c.args.self.now.well c.requires.room c.requires.user)
