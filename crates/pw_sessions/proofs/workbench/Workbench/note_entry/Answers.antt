use Rattle.std.proofs.Common.{◌≡◌, List, length, map, refl, sym, ap, ◌∙◌, subst}
use Rattle.std.proofs.lemmas.List.{length-map}
use Rattle.pw_settle.proofs.SourceLists.{came_back}
use Rattle.pw_sessions.specs.Snapshot.{AreApart, Snapshot, after_entry}
use Rattle.pw_sessions.proofs.ApartSnapshots.{apart_made}
use Rattle.pw_sessions.proofs.workbench.Workbench.note_entry.Goals as goal

pub invariant_of-self : goal.invariant_of-self
invariant_of-self g c =
    let old : List Snapshot = c.args.self.now.snapshots.items in
    let noted : c.note_entry.new.snapshots ≡ map (after_entry c.args.support.now) old =
    c.note_entry.ensures ∙ ap (map (after_entry c.args.support.now)) c.deref_mut.ensures.value in
    let back =
    came_back c.note_entry.new.snapshots old c.args.self.now.snapshots.len (sym c.deref_mut.ensures.len ∙ ap length c.deref_mut.ensures.value)
    (ap length noted ∙ length-map old (after_entry c.args.support.now)) in
    record { apart = subst AreApart (sym back) (subst AreApart (sym noted) (apart_made (after_entry c.args.support.now) (λ x. refl) old c.args.self.now.apart)) }
