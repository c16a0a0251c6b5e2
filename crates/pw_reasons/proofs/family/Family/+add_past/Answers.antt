use Rattle.std.proofs.Common.{◌≡◌, sym, ap, ◌∙◌}
use Rattle.std.specs.FinSet.{insert}
use Rattle.std.proofs.lemmas.Result.{on_ok_weaker}
use Rattle.pw_reasons.specs.inside.Families.{sets_of}
use Rattle.pw_reasons.proofs.FamilyLemmas.{more_nil, more_rest, more_with, more_without, sets_under}
use Rattle.pw_reasons.proofs.family.Family.+add_past.Goals as goal

pub returns-in_ok-self-in-Nothing-clause-more : goal.returns-in_ok-self-in-Nothing-clause-more
returns-in_ok-self-in-Nothing-clause-more g t c =
    rw c.in-Nothing.is (rw c.in_ok-self-in-Nothing.ensures.alone
    (rw c.difference.ensures.difference (more_rest c.args.passed.now c.args.premises.now c.requires.passed)))

pub returns-in-Nil-clause-more : goal.returns-in-Nil-clause-more
returns-in-Nil-clause-more g t c = rw c.in-Nil.is (more_nil c.args.passed.now c.args.premises.now c.requires.passed)

pub returns-then-passes-clause-more : goal.returns-then-passes-clause-more
returns-then-passes-clause-more g t c =
    let branch = c.deref_mut.result.now in
    let old : sets_of c.args.self.now ≡ sets_under branch = ap sets_of c.in-Split.is ∙ ap sets_under (sym c.deref_mut.ensures.value) in
    let passed : c.passes.new.passed ≡ insert c.args.passed.now branch.premise =
    rw c.deref_mut.ensures.value (rw c.deref.ensures at (c.passes.ensures.more c.if-passes.true)) in
    on_ok_weaker c.add_past.result (λ more. rw old
    (more_with c.args.passed.now c.args.premises.now branch.premise (sets_of branch.with) (sets_of c.add_past.new.self) (sets_of branch.without)
    (rw passed at more))) c.add_past.ensures.more

pub returns-else-passes-clause-more : goal.returns-else-passes-clause-more
returns-else-passes-clause-more g t c =
    let branch = c.deref_mut-else-passes.result.now in
    let old : sets_of c.args.self.now ≡ sets_under branch = ap sets_of c.in-Split.is ∙ ap sets_under (sym c.deref_mut-else-passes.ensures.value) in
    on_ok_weaker c.add_past-else-passes.result (λ more. rw old
    (more_without c.args.passed.now c.args.premises.now branch.premise (sets_of branch.with) (sets_of branch.without) (sets_of c.add_past-else-passes.new.self)
    (rw (c.passes.ensures.same c.if-passes.false) at more)))
    c.add_past-else-passes.ensures.more
