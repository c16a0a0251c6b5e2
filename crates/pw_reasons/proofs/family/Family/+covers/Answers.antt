use Rattle.std.proofs.Common.{◌≡◌, ◌&&◌, true, false, sym, ◌∙◌}
use Rattle.std.specs.FinSet.{contains}
use Rattle.pw_reasons.specs.Nogood.{covers}
use Rattle.pw_reasons.specs.inside.Families.{sets_of}
use Rattle.pw_reasons.proofs.FamilyLemmas.{covered_with, covered_without, neither, nil_covers}
use Rattle.pw_reasons.proofs.family.Family.+covers.Goals.{else-contains-via-then-contains+else-covers, else-contains-via-else-contains}
use Rattle.pw_reasons.proofs.family.Family.+covers.Goals as goal

pub returns-then-covers : goal.returns-then-covers
returns-then-covers g t c =
    let there : contains c.args.premises.now c.in-Split.branch.value.premise ≡ true = rw c.deref.ensures at (sym c.contains.ensures.member ∙ c.if-contains.true) in
    let found = rw c.deref-then-contains.ensures at (sym c.covers.ensures ∙ c.if-covers.true) in
    sym (rw c.in-Split.is (covered_with c.in-Split.branch.value.premise (sets_of c.in-Split.branch.value.with) (sets_of c.in-Split.branch.value.without)
    c.args.premises.now there found))

pub returns-in-Nil : goal.returns-in-Nil
returns-in-Nil g t c = sym (rw c.in-Nil.is (nil_covers c.args.premises.now))

pub returns-else-contains : goal.returns-else-contains
returns-else-contains g t c =
    let none : (contains c.args.premises.now c.in-Split.branch.value.premise && covers (sets_of c.in-Split.branch.value.with) c.args.premises.now) ≡ false =
    elim c.else-contains.branch [
      | else-contains-via-then-contains+else-covers w ↦ neither.1 (contains c.args.premises.now c.in-Split.branch.value.premise) _
          (rw w.deref-then-contains.ensures at (sym w.covers.ensures ∙ w.if-covers.false))
      | else-contains-via-else-contains w ↦ neither.0 _ (covers (sets_of c.in-Split.branch.value.with) c.args.premises.now)
          (rw c.deref.ensures at (sym c.contains.ensures.member ∙ w.if-contains.false))
    ] in
    rw c.deref-in-Split.ensures at c.covers-in-Split.ensures
    ∙ sym (rw c.in-Split.is (covered_without c.in-Split.branch.value.premise (sets_of c.in-Split.branch.value.with) (sets_of c.in-Split.branch.value.without)
    c.args.premises.now none))
