use Rattle.std.proofs.Common.{◌≡◌, refl, ◌++◌, ◌∷◌, [], rules}
use Rattle.pw_decl.specs.declared.step.Step.TheVariants as kept
use Rattle.pw_decl.proofs.CompoundLemmas.{grown_local, sum_with_local}
use Rattle.pw_decl.proofs.compound_line.add_local.Goals as goal

pub returns-clause-ok : goal.returns-clause-ok
returns-clause-ok g c =
    let old = c.args.opened.now in
    let kinds : c.push.new.self.items ≡ old.kinds.items ++ c.args.kind ∷ [] = search rules in
    let steps : c.push-2.new.self.items ≡ old.compound.steps.items ++ kept.Local c.args.kind ∷ [] = search rules in
    grown_local old _ c.args.name.now c.args.kind refl c.in_ok-add.ensures.ok kinds refl steps
    (sum_with_local old.compound.size.instances old.compound.size.inner_cells)
