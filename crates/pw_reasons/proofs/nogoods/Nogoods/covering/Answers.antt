use Rattle.std.proofs.Common.{◌++◌, Contains, List, refl, subst}
use Rattle.std.proofs.lemmas.List.Elements.{Contains-append_left, Contains-append_right}
use Rattle.pw_premises.specs.Premises.{Premises}
use Rattle.pw_reasons.specs.inside.Families.{sets_of}
use Rattle.pw_reasons.proofs.FamilyLemmas.{found_right}
use Rattle.pw_reasons.proofs.nogoods.Nogoods.covering.Goals as goal

pub returns-in-Some-within-clause-some : goal.returns-in-Some-within-clause-some
returns-in-Some-within-clause-some g c =
    let family = sets_of c.self.inside.family in
    let products = c.self.inside.products in
    let some = c.in-Some-within.ensures.some in (
      subst (λ (l : List Premises). Contains l c.in-Some-within.set) c.self.view_is
          (Contains-append_right c.self.inside.pairs (family ++ products) c.in-Some-within.set
          (Contains-append_left family products c.in-Some-within.set some.0)),
      some.1,
    )

pub returns-in-None-clause-some : goal.returns-in-None-clause-some
returns-in-None-clause-some g c =
    let family = sets_of c.self.inside.family in
    let products = c.self.inside.products in
    found_right c.within-in-None.result c.self.inside.pairs (family ++ products) c.args.self.now c.args.premises.now c.self.view_is
    (found_right c.within-in-None.result family products (family ++ products) c.args.premises.now refl c.within-in-None.ensures.some)
