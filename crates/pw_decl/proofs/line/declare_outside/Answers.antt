use Rattle.std.specs.Prelude.{OnOk, IfErr}
use Rattle.pw_decl.specs.inside.Fields.{declared, outside, placed}
use Rattle.pw_decl.specs.inside.Forms.{outer_in}
use Rattle.pw_decl.specs.inside.Opened.{IsWellPlaced}
use Rattle.pw_decl.specs.inside.SentenceFaults.{DeclaresSentence, IsToldOf}
use Rattle.pw_decl.specs.declared.compound.Place.TheVariants.{Outside}
use Rattle.pw_decl.proofs.DeclarationSteps.{always_done, and_ok, and_err}
use Rattle.pw_decl.proofs.line.declare_outside.Goals.{in-User, in-Premise, in-PremiseOf, in-Set, in-Cell}
use Rattle.pw_decl.proofs.line.declare_outside.Goals as goal

pub returns-clause-ok : goal.returns-clause-ok
returns-clause-ok g c =
    let before = outside c.args.declaration.now in
    let after = c.match-sentence.declaration in
    let declares : OnOk c.match-sentence.done (DeclaresSentence before (outer_in c.args.sentence) (outside after)) =
    elim c.match-sentence.branch [
      | in-User w ↦ rw (w.declaration-is, w.done-is, w.in-User.is) w.declare_user-done.ensures.ok
      | in-Premise w ↦ rw (w.declaration-is, w.done-is, w.in-Premise.is) w.declare_premise-done.ensures.ok
      | in-PremiseOf w ↦ rw (w.declaration-is, w.done-is, w.in-PremiseOf.is) w.declare_premise_of-done.ensures.ok
      | in-Set w ↦ rw (w.declaration-is, w.done-is, w.in-Set.is) w.declare_set-done.ensures.ok
      | in-Cell w ↦ rw (w.declaration-is, w.done-is, w.in-Cell.is) w.declare_cell-done.ensures.ok
    ] in
    and_ok c.match-sentence.done Outside c.and.result c.and.ensures
    (λ place. DeclaresSentence before (outer_in c.args.sentence) (placed (declared after) place)) declares

pub returns-clause-well : goal.returns-clause-well
returns-clause-well g c =
    and_ok c.match-sentence.done Outside c.and.result c.and.ensures (IsWellPlaced (declared c.match-sentence.declaration)) (always_done tt c.match-sentence.done)

pub returns-clause-err : goal.returns-clause-err
returns-clause-err g c =
    let before = outside c.args.declaration.now in
    let told : IfErr c.match-sentence.done (IsToldOf before (outer_in c.args.sentence)) =
    elim c.match-sentence.branch [
      | in-User w ↦ rw (w.done-is, w.in-User.is) w.declare_user-done.ensures.err
      | in-Premise w ↦ rw (w.done-is, w.in-Premise.is) w.declare_premise-done.ensures.err
      | in-PremiseOf w ↦ rw (w.done-is, w.in-PremiseOf.is) w.declare_premise_of-done.ensures.err
      | in-Set w ↦ rw (w.done-is, w.in-Set.is) w.declare_set-done.ensures.err
      | in-Cell w ↦ rw (w.done-is, w.in-Cell.is) w.declare_cell-done.ensures.err
    ] in
    and_err c.match-sentence.done Outside c.and.result c.and.ensures (IsToldOf before (outer_in c.args.sentence)) told
