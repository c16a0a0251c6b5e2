use Rattle.std.proofs.Common.{◌≡◌, ℕ, sym, ap, subst}
use Rattle.pw_sessions.specs.inside.Fields.{state}
use Rattle.pw_sessions.specs.inside.Steps.{HasSettled, IsAfterSettling}
use Rattle.pw_sessions.specs.Workbench.{Workbench}
use Rattle.pw_sessions.proofs.workbench.Workbench.settle_for.Goals.{in-Some+in_ok-place-in-Some, in-None+in_ok-place-in-None}
use Rattle.pw_sessions.proofs.workbench.Workbench.settle_for.Goals as goal

-- what was done is done in a workbench that is the same
settled_still : (old : Workbench) (user place at : ℕ) (now found : Workbench) → now ≡ found → place ≡ at → HasSettled old user at found →
    HasSettled old user place now
settled_still old user place at now found same here settled =
    subst (HasSettled old user place) (sym same) (subst (λ n. HasSettled old user n found) (sym here) settled)

pub returns : goal.returns
returns g c = record {
  settled =
      subst (HasSettled (state c.args.self.now) c.args.user c.match-place.place) (sym {A = Workbench} c.note_place.ensures)
      (elim c.match-place.branch [
        | in-Some+in_ok-place-in-Some w ↦ settled_still (state c.args.self.now) c.args.user c.match-place.place w.in_ok-place-in-Some.place
            (state c.match-place.self) (state w.settle_again.new.self) (ap state w.self-is) w.place-is w.in_ok-place-in-Some.ensures.settled
        | in-None+in_ok-place-in-None w ↦ settled_still (state c.args.self.now) c.args.user c.match-place.place w.in_ok-place-in-None.place
            (state c.match-place.self) (state w.settle_anew.new.self) (ap state w.self-is) w.place-is w.in_ok-place-in-None.ensures.settled
      ]);
  after =
      subst (IsAfterSettling (state c.args.self.now) c.args.user) (sym {A = Workbench} c.note_place.ensures)
      (elim c.match-place.branch [
        | in-Some+in_ok-place-in-Some w ↦
            subst (IsAfterSettling (state c.args.self.now) c.args.user) (sym {A = Workbench} (ap state w.self-is)) w.in_ok-place-in-Some.ensures.after
        | in-None+in_ok-place-in-None w ↦
            subst (IsAfterSettling (state c.args.self.now) c.args.user) (sym {A = Workbench} (ap state w.self-is)) w.in_ok-place-in-None.ensures.after
      ]);
  refused = tt;
}
