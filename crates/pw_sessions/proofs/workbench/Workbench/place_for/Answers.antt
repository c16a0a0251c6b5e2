use Rattle.std.proofs.Common.{◌≡◌, ℕ, ◌<◌, length, get_or, sym, ap, ◌∙◌, subst}
use Rattle.std.specs.Prelude.{position}
use Rattle.std.specs.FinSet.{empty}
use Rattle.std.proofs.lemmas.List.{get_or_default}
use Rattle.pw_premises.specs.Premises.{Premises}
use Rattle.pw_sessions.specs.Snapshot.{AreApart, is_of}
use Rattle.pw_sessions.specs.Workbench.{Workbench}
use Rattle.pw_sessions.specs.inside.Fields.{state}
use Rattle.pw_sessions.specs.inside.Steps.{place_in}
use Rattle.pw_sessions.proofs.workbench.Workbench.place_for.Goals as goal

-- what the code reads of the beliefs are those of the user, and so the place of their snapshot is the
-- user's
place_read : (old : Workbench) (user at : ℕ) (read : Premises) → user < length old.beliefs → at ≡ user → read ≡ get_or old.beliefs at read →
    position (is_of read) old.snapshots ≡ place_in old user
place_read old user at read within here is =
    ap (λ (w : Premises). position (is_of w) old.snapshots)
    (is ∙ ap (λ n. get_or old.beliefs n read) here ∙ get_or_default old.beliefs user read empty within)

-- the snapshot is where it was last
pub returns-then-is_at : goal.returns-then-is_at
returns-then-is_at g c =
    let old : Workbench = state c.args.self.now in
    sym (c.is_at.ensures c.if-is_at.true (subst AreApart (sym c.deref-in-Some.ensures.value) c.args.self.now.apart))
    ∙ ap (position (is_of c.index-beliefs.result.now)) c.deref-in-Some.ensures.value
    ∙ place_read old c.args.user c.from.result c.index-beliefs.result.now c.requires c.from.ensures c.index-beliefs.ensures

pub returns : goal.returns
returns g c =
    let old : Workbench = state c.args.self.now in
    c.place_of.ensures ∙ ap (position (is_of c.index-beliefs.result.now)) c.deref-2.ensures.value
    ∙ place_read old c.args.user c.from.result c.index-beliefs.result.now c.requires c.from.ensures c.index-beliefs.ensures
