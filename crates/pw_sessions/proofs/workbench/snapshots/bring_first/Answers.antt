use Rattle.std.proofs.Common.{◌∷◌, List, ap, ◌∙◌, subst, sym}
use Rattle.std.specs.Prelude.{remove}
use Rattle.std.proofs.lemmas.List.{get_or_default}
use Rattle.pw_sessions.specs.inside.Steps.{OnlySpares}
use Rattle.pw_sessions.specs.Snapshot.{Snapshot}
use Rattle.pw_sessions.proofs.ApartSnapshots.{AreOthers, apart_others, apart_remove}
use Rattle.pw_sessions.proofs.SnapshotLists.{apart_first}
use Rattle.pw_sessions.proofs.workbench.snapshots.bring_first.Goals as goal

pub returns : goal.returns
returns g c =
    let old : List Snapshot = c.args.snapshots.now.items in
    let left : List Snapshot = c.make_room.new.snapshots.items in
    let spares : OnlySpares c.args.beliefs.now (remove old c.args.place) left =
    subst (λ (l : List Snapshot). OnlySpares c.args.beliefs.now l left) c.remove-snapshot.ensures.items c.make_room.ensures.spares in
    record {
      left = left;
      first = λ d.
          c.put_first.ensures
          ∙ ap (λ (s : Snapshot). s ∷ left) (c.remove-snapshot.ensures.value ∙ get_or_default old c.args.place c.remove-snapshot.result d c.requires);
      spares = spares;
      apart = λ apart.
          apart_first c.args.beliefs.now (remove old c.args.place) left c.put_first.new.snapshots.items c.remove-snapshot.result
          (subst (λ (s : Snapshot). AreOthers s.values.worldview (remove old c.args.place)) (sym c.remove-snapshot.ensures.value)
          (apart_others old c.args.place c.remove-snapshot.result c.requires apart)) spares c.put_first.ensures
          (apart_remove old c.args.place c.requires apart);
    }
