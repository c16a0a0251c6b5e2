use Rattle.std.proofs.Common.{ℕ, List, [], sym, ap, subst, ◌∙◌}
use Rattle.pw_decl.specs.Declaration.{OpenCompound, begun}
use Rattle.pw_decl.specs.inside.Fields.{declared}
use Rattle.pw_decl.specs.inside.Opened.{IsBegun}
use Rattle.pw_decl.proofs.DeclarationSteps.{done_to, and_ok}
use Rattle.pw_decl.proofs.compound_line.begun_with.Goals as goal

pub add_parameters-requires-clause-begun : goal.add_parameters-requires-clause-begun
add_parameters-requires-clause-begun g c =
    let is = c.in_ok-opened.ensures.begun in
    is ∙ ap (λ (name : List ℕ). begun name [] []) (sym (ap (λ (o : OpenCompound). o.name) is))

pub returns : goal.returns
returns g c =
    let d = declared c.args.declaration.now in
    let opened = c.add_parameters.new.opened in
    let name = ap (λ (o : OpenCompound). o.name) c.in_ok-opened.ensures.begun in
    record {
      begun = and_ok c.add_parameters.result opened c.and.result c.and.ensures (IsBegun d c.args.name.now c.args.parameters)
          (done_to _ _ (λ is. subst (λ (name : List ℕ). IsBegun d name c.args.parameters opened) name is) c.add_parameters.result c.add_parameters.ensures.begun);
    }
