use Rattle.pw_decl.proofs.DeclaredLemmas.{well_with_user_or_not}
use Rattle.pw_decl.proofs.declaration.Declaration.add_user.Goals as goal

pub invariant_of-self-clause-well : goal.invariant_of-self-clause-well
invariant_of-self-clause-well g c =
    well_with_user_or_not _ c.args.name.now c.add.new.self c.add.result c.args.self.now.well c.requires.room c.add.ensures.ok c.add.ensures.err
