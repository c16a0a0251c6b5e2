use Rattle.std.proofs.Common.{length, sym, ap, ◌∙◌}
use Rattle.std.proofs.lemmas.Bool.{ltb-true}
use Rattle.pw_premises.specs.Premises.{Premises}
use Rattle.pw_premises.specs.PremiseSubsets.{has_same_numbers}
use Rattle.pw_sessions.specs.Snapshot.{is_of}
use Rattle.pw_sessions.proofs.ApartSnapshots.{apart_place}
use Rattle.pw_sessions.proofs.workbench.snapshots.is_at.Goals as goal

pub returns-in-Some : goal.returns-in-Some
returns-in-Some g c = λ is apart.
    let w : Premises = c.args.worldview.now in
    let there = ltb-true c.args.place (length c.args.snapshots.now) (sym c.in-Some.ensures.lookup.0) in
    apart_place w c.args.snapshots.now c.args.place c.in-Some.snapshot.now there
    (ap (is_of w) (sym c.in-Some.ensures.lookup.1) ∙ ap (is_of w) (sym c.snapshot.view_is)
    ∙ ap (λ (u : Premises). has_same_numbers u w) (sym c.worldview.ensures) ∙ sym c.are_same.ensures ∙ is) apart
