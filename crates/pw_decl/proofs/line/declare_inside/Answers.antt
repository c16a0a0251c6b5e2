use Rattle.std.specs.Prelude.{OnOk, IfErr}
use Rattle.pw_decl.specs.inside.Fields.{declared, inside, placed}
use Rattle.pw_decl.specs.inside.Forms.{inner_in}
use Rattle.pw_decl.specs.inside.Opened.{IsOpen, IsWellPlaced}
use Rattle.pw_decl.specs.inside.SentenceFaults.{DeclaresSentence, IsToldOf}
use Rattle.pw_decl.specs.declared.compound.Place.TheVariants.{Inside}
use Rattle.pw_decl.proofs.DeclarationSteps.{always_done, and_ok, and_err}
use Rattle.pw_decl.proofs.line.declare_inside.Goals.{in-Local, in-Call}
use Rattle.pw_decl.proofs.line.declare_inside.Goals as goal

pub returns-clause-ok : goal.returns-clause-ok
returns-clause-ok g c =
    let opened = c.match-sentence.opened in
    let before = inside c.args.declaration.now c.args.opened in
    let declares : OnOk c.match-sentence.done (DeclaresSentence before (inner_in c.args.sentence) (inside c.args.declaration.now opened)) =
    elim c.match-sentence.branch [
      | in-Local w ↦ rw (w.opened-is, w.done-is, w.in-Local.is) w.declare_local-done.ensures.ok
      | in-Call w ↦ rw (w.opened-is, w.done-is, w.in-Call.is) w.declare_call-done.ensures.ok
    ] in
    and_ok c.match-sentence.done (Inside opened) c.and.result c.and.ensures
    (λ place. DeclaresSentence before (inner_in c.args.sentence) (placed (declared c.args.declaration.now) place)) declares

pub returns-clause-well : goal.returns-clause-well
returns-clause-well g c =
    let opened = c.match-sentence.opened in
    let kept : IsOpen (declared c.args.declaration.now) opened =
    elim c.match-sentence.branch [
      | in-Local w ↦ rw w.opened-is w.declare_local-done.ensures.kept
      | in-Call w ↦ rw w.opened-is w.declare_call-done.ensures.kept
    ] in
    and_ok c.match-sentence.done (Inside opened) c.and.result c.and.ensures (IsWellPlaced (declared c.args.declaration.now)) (always_done kept c.match-sentence.done)

pub returns-clause-err : goal.returns-clause-err
returns-clause-err g c =
    let before = inside c.args.declaration.now c.args.opened in
    let told : IfErr c.match-sentence.done (IsToldOf before (inner_in c.args.sentence)) =
    elim c.match-sentence.branch [
      | in-Local w ↦ rw (w.done-is, w.in-Local.is) w.declare_local-done.ensures.err
      | in-Call w ↦ rw (w.done-is, w.in-Call.is) w.declare_call-done.ensures.err
    ] in
    and_err c.match-sentence.done (Inside c.match-sentence.opened) c.and.result c.and.ensures (IsToldOf before (inner_in c.args.sentence)) told
