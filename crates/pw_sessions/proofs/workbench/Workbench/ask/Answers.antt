use Rattle.std.proofs.Common.{◌≡◌, ℕ, ◌<◌, Option, Some, length, get_or, sym, ap, ◌∙◌, arith, inl}
use Rattle.std.specs.FinSet.{empty}
use Rattle.std.proofs.lemmas.List.{get_or_default}
use Rattle.pw_premises.specs.Premises.{Premises}
use Rattle.pw_cells.specs.Cells.{told_in}
use Rattle.pw_network.specs.Wiring.{wiring}
use Rattle.pw_sessions.specs.inside.Fields.{state}
use Rattle.pw_sessions.specs.Reply as reply
use Rattle.pw_sessions.specs.Snapshot.{Snapshot, snapshot_in}
use Rattle.pw_sessions.specs.inside.Steps.{is_written, place_in}
use Rattle.pw_sessions.specs.Workbench.{Workbench, beliefs_in}
use Rattle.pw_sessions.proofs.AskedCells.{told_answers}
use Rattle.pw_sessions.proofs.FreshUsers.{asked_known, known_fresh, known_value}
use Rattle.pw_sessions.proofs.SnapshotLists.{own_there}
use Rattle.pw_settle.proofs.StoreCells.{cells_kept}
use Rattle.pw_sessions.proofs.workbench.Workbench.ask.Goals as goal

-- what the code reads of the beliefs are those of the user
beliefs_read : (old : Workbench) (user at : ℕ) (read : Premises) → user < length old.beliefs → at ≡ user
    → read ≡ get_or old.beliefs at read → read ≡ beliefs_in old user
beliefs_read old user at read within here is =
    is ∙ ap (λ n. get_or old.beliefs n read) here ∙ get_or_default old.beliefs user read empty within

-- the snapshot that the code reads is the one of what the user believes
snapshot_read : (old : Workbench) (user place : ℕ) (found : Option ℕ) (d read : Snapshot) → found ≡ place_in old user → found ≡ Some place →
    read ≡ get_or old.snapshots place d → snapshot_in old.snapshots (beliefs_in old user) ≡ Some read
snapshot_read old user place found d read its here is = own_there old.snapshots (beliefs_in old user) place d read (sym its ∙ here) is

pub recall-requires : goal.recall-requires
recall-requires g c =
    let same = cells_kept (wiring c.args.self.now.network) c.args.self.now.store c.args.self.now.network.well c.requires.can.fits.sound.kinds in
    omega (arith, c.requires.cell)

-- ---- what is known

pub returns-then-snapshot-clause-answer : goal.returns-then-snapshot-clause-answer
returns-then-snapshot-clause-answer g c = λ d before left.
    let read : Snapshot = record { values = c.snapshot.inside.values; is_current = c.snapshot.inside.is_current } in
    let has = snapshot_read (state c.args.self.now) c.args.user c.in-Some.place c.place_for-place.result _ read c.place_for-place.ensures c.in-Some.is
    (c.snapshot.view_is ∙ c.index-snapshot.ensures) in
    inl (ap reply.Value (known_value (state c.args.self.now) c.args.user c.args.cell read c.info.result has c.requires.can.fits c.if-snapshot.true
    c.requires.cell c.info.ensures))

pub returns-then-snapshot-clause-asked : goal.returns-then-snapshot-clause-asked
returns-then-snapshot-clause-asked g c =
    let read : Snapshot = record { values = c.snapshot.inside.values; is_current = c.snapshot.inside.is_current } in
    let has = snapshot_read (state c.args.self.now) c.args.user c.in-Some.place c.place_for-place.result _ read c.place_for-place.ensures c.in-Some.is
    (c.snapshot.view_is ∙ c.index-snapshot.ensures) in
    asked_known (state c.args.self.now) c.args.user _ _
    (known_fresh (state c.args.self.now) c.args.user read c.requires.can.exists has c.requires.can.fits c.if-snapshot.true) c.requires.calls

-- ---- the told facts

pub returns-then-not-is_written_by-clause-answer : goal.returns-then-not-is_written_by-clause-answer
returns-then-not-is_written_by-clause-answer g c = λ d before left.
    let believed = beliefs_read (state c.args.self.now) c.args.user c.from.result c.index-beliefs.result.now c.requires.can.exists c.from.ensures c.index-beliefs.ensures in
    let written = c.is_written_by.ensures ∙ ap (is_written (wiring c.args.self.now.network).attached c.args.cell) believed in
    let told = c.recall.ensures.value ∙ ap (told_in c.args.self.now.store c.args.cell) believed in
    told_answers d before (state c.args.self.now) c.args.user c.args.cell c.recall.result c.args.self.now.network.well left c.requires.cell
    (sym written ∙ c.if-not-is_written_by.true) told
