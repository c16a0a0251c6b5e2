use Rattle.pw_procs.specs.Registry.{procedures_in}
use Rattle.pw_decl.proofs.DeclaredLemmas.{well_at_first}
use Rattle.pw_decl.proofs.declaration.Declaration.new.Goals as goal

pub invariant_of-result-clause-well : goal.invariant_of-result-clause-well
invariant_of-result-clause-well g c =
    rw (c.new.ensures, c.new-2.ensures, c.new-3.ensures.items, c.new-4.ensures, c.new-5.ensures.items, c.new-6.ensures, c.new-7.ensures.items, c.new-8.ensures, c.new-9.ensures.items)
    (well_at_first (procedures_in c.args.registry.now))
