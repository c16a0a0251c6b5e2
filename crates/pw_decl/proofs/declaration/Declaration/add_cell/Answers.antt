use Rattle.pw_decl.specs.WellDeclared.{IsWellDeclared}
use Rattle.pw_decl.specs.inside.Fields.{declared}
use Rattle.pw_decl.proofs.DeclaredLemmas.{added_or_not, well_with_cell}
use Rattle.pw_decl.proofs.declaration.Declaration.add_cell.Goals as goal

pub invariant_of-self-clause-well : goal.invariant_of-self-clause-well
invariant_of-self-clause-well g c =
    let d = declared c.args.self.now in
    let added = c.add_named.ensures in
    added_or_not (λ names kinds. IsWellDeclared (record d { cells = names; kinds = kinds })) c.add_named.result added.name added.item added.no_name added.no_item
    c.args.self.now.well (well_with_cell d c.args.name.now c.args.kind c.args.self.now.well c.requires.room c.requires.known)
