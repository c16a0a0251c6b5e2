use Rattle.std.proofs.Common.{List, length, refl, sym, ap, ◌∙◌, subst}
use Rattle.pw_network.specs.Wiring.{wiring}
use Rattle.pw_info.specs.Information.{kind_of}
use Rattle.pw_settle.proofs.SourceLists.{came_back}
use Rattle.pw_sessions.specs.Snapshot.{AreApart, EachBecomes, HaveValues, IsAfterTell, Snapshot}
use Rattle.pw_sessions.proofs.ApartSnapshots.{apart_become}
use Rattle.pw_sessions.proofs.LastValues.{have_values}
use Rattle.pw_sessions.proofs.workbench.Workbench.tell.Goals as goal

pub note_tell-requires : goal.note_tell-requires
note_tell-requires g c =
    subst (HaveValues c.args.cell (kind_of c.args.fact.info)) (sym c.deref_mut.ensures.value)
    (have_values (wiring c.args.self.now.network) c.args.self.now.store c.args.cell c.args.fact c.requires.fits.sound.kinds c.requires.kind c.requires.declared
    c.args.self.now.snapshots.items c.requires.fits.snapshots)

pub invariant_of-self-2 : goal.invariant_of-self-2
invariant_of-self-2 g c =
    let old : List Snapshot = c.args.self.now.snapshots.items in
    let noted : EachBecomes (IsAfterTell c.args.cell c.args.fact) old c.note_tell.new.snapshots =
    subst (λ (l : List Snapshot). EachBecomes (IsAfterTell c.args.cell c.args.fact) l c.note_tell.new.snapshots) c.deref_mut.ensures.value
    c.note_tell.ensures in
    let back =
    came_back c.note_tell.new.snapshots old c.args.self.now.snapshots.len (sym c.deref_mut.ensures.len ∙ ap length c.deref_mut.ensures.value) noted.many in
    record {
      apart = subst AreApart (sym back)
          (apart_become (IsAfterTell c.args.cell c.args.fact) (λ x y came. came.values) old c.note_tell.new.snapshots noted c.args.self.now.apart);
    }

pub returns-clause-ok : goal.returns-clause-ok
returns-clause-ok g c =
    let told = c.in_ok-tell.ensures in
    let noted : EachBecomes (IsAfterTell c.args.cell c.args.fact) c.args.self.now.snapshots.items c.note_tell.new.snapshots =
    subst (λ (l : List Snapshot). EachBecomes (IsAfterTell c.args.cell c.args.fact) l c.note_tell.new.snapshots) c.deref_mut.ensures.value
    c.note_tell.ensures in
    record {
      network = refl;
      store = record {
        told = told.told;
        kept = told.kept;
        assimilates = told.assimilates;
        others = told.others;
        kinds = told.kinds;
        remembers = told.remembers;
        continues = told.continues;
      };
      nogoods = refl;
      beliefs = refl;
      snapshots = subst (EachBecomes (IsAfterTell c.args.cell c.args.fact) c.args.self.now.snapshots.items)
          (sym (came_back c.note_tell.new.snapshots c.args.self.now.snapshots.items c.args.self.now.snapshots.len
          (sym c.deref_mut.ensures.len ∙ ap length c.deref_mut.ensures.value) noted.many)) noted;
      calls = refl;
    }
