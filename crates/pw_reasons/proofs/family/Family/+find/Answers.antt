use Rattle.std.proofs.Common.{◌≡◌, ◌&&◌, true, false, refl, sym, ◌∙◌}
use Rattle.std.specs.FinSet.{contains, insert}
use Rattle.pw_reasons.specs.Nogood.{covers}
use Rattle.pw_reasons.specs.inside.Families.{sets_of}
use Rattle.pw_reasons.proofs.FamilyLemmas.{found_with, found_without, neither, nil_within, not_covered}
use Rattle.pw_reasons.proofs.family.Family.+find.Goals.{else-contains-via-then-contains+else-find, else-contains-via-else-contains}
use Rattle.pw_reasons.proofs.family.Family.+find.Goals as goal

pub returns-then-find-clause-some : goal.returns-then-find-clause-some
returns-then-find-clause-some g t c = λ _.
    let there : contains c.args.premises.now c.in-Split.branch.value.premise ≡ true = rw c.deref.ensures at (sym c.contains.ensures.member ∙ c.if-contains.true) in
    let made : c.insert.new.self ≡ insert c.find.new.found c.in-Split.branch.value.premise = rw c.deref-then-find.ensures at c.insert.ensures.inserted in
    let found = rw c.deref-then-contains.ensures at (c.find.ensures.some c.if-find.true) in
    rw made (rw c.in-Split.is (found_with c.in-Split.branch.value.premise (sets_of c.in-Split.branch.value.with) (sets_of c.in-Split.branch.value.without)
    c.find.new.found c.args.premises.now found there))

pub returns-in-Nothing-clause-none : goal.returns-in-Nothing-clause-none
returns-in-Nothing-clause-none g t c = λ _. rw c.in-Nothing.is refl

pub returns-in-Nil-clause-some : goal.returns-in-Nil-clause-some
returns-in-Nil-clause-some g t c = λ _. rw c.in-Nil.is (rw c.empty.ensures.nothing (nil_within c.args.premises.now))

pub returns-else-contains-clause-some : goal.returns-else-contains-clause-some
returns-else-contains-clause-some g t c = λ is.
    let found = rw c.deref-in-Split.ensures at (c.find-in-Split.ensures.some is) in
    rw c.in-Split.is (
      found_without c.in-Split.branch.value.premise (sets_of c.in-Split.branch.value.with) (sets_of c.in-Split.branch.value.without)
          c.find-in-Split.new.found found.0,
      found.1,
    )

pub returns-else-contains-clause-none : goal.returns-else-contains-clause-none
returns-else-contains-clause-none g t c = λ is.
    let others = rw c.deref-in-Split.ensures at (c.find-in-Split.ensures.none is) in
    let none : (contains c.args.premises.now c.in-Split.branch.value.premise && covers (sets_of c.in-Split.branch.value.with) c.args.premises.now) ≡ false =
    elim c.else-contains.branch [
      | else-contains-via-then-contains+else-find w ↦ neither.1 (contains c.args.premises.now c.in-Split.branch.value.premise) _
          (rw w.deref-then-contains.ensures at (w.find.ensures.none w.if-find.false))
      | else-contains-via-else-contains w ↦ neither.0 _ (covers (sets_of c.in-Split.branch.value.with) c.args.premises.now)
          (rw c.deref.ensures at (sym c.contains.ensures.member ∙ w.if-contains.false))
    ] in
    rw c.in-Split.is (not_covered c.in-Split.branch.value.premise (sets_of c.in-Split.branch.value.with) (sets_of c.in-Split.branch.value.without)
    c.args.premises.now none others)
