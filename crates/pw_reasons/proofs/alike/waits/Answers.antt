use Rattle.std.proofs.Common.{◌≡◌, [], sym, ap, ◌∙◌, subst}
use Rattle.std.specs.Prelude.{IfSome, slice_index_or}
use Rattle.std.specs.FinSet.{remove}
use Rattle.pw_premises.specs.PremiseSubsets.{same_numbers_equal}
use Rattle.pw_reasons.specs.Combinations.{groups_of}
use Rattle.pw_reasons.proofs.alike.waits.Goals as goal

pub returns-in-Some-clause-others : goal.returns-in-Some-clause-others
returns-in-Some-clause-others c same =
    subst (λ o. IfSome o (λ before. before ≡ remove c.args.nogood.now (slice_index_or (slice_index_or (groups_of c.args.groups.now) c.args.place []) c.args.index 0))) (sym c.in-Some.is)
    ((same_numbers_equal c.in-Some.before c.without.result).0 (sym c.eq.ensures ∙ same)
    ∙ c.without.ensures.removed ∙ ap (λ group. remove c.args.nogood.now (slice_index_or group c.args.index 0)) c.group.ensures)
