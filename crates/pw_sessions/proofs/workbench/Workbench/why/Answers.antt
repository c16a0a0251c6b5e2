use Rattle.std.proofs.Common.{◌≡◌, ◌<◌, ℕ, List, ap, ◌∙◌, subst, inl, sym, arith}
use Rattle.pw_info.specs.declared.info.Info.{Info}
use Rattle.pw_premises.specs.Premises.{Premises}
use Rattle.pw_cells.specs.Cells.{Store}
use Rattle.pw_network.specs.Wiring.{wiring}
use Rattle.pw_network.specs.Network.{Network, cells_in}
use Rattle.pw_settle.specs.Growth.{KeepsMore, StaysUpstream}
use Rattle.pw_settle.specs.Settled.{IsSettled}
use Rattle.pw_settle.specs.Values.{value_in}
use Rattle.pw_settle.proofs.Growing.{same_value}
use Rattle.pw_reasons.specs.Nogood.{AreNogoods}
use Rattle.pw_reasons.specs.Reason.{reason_of}
use Rattle.pw_sessions.specs.inside.Fields.{state}
use Rattle.pw_sessions.specs.Reply as reply
use Rattle.pw_sessions.specs.declared.reply.Refusal.TheVariants as refusal
use Rattle.pw_sessions.specs.Freshness.{IsSettledFor}
use Rattle.pw_sessions.specs.inside.Steps.{OnlyKeepsMore}
use Rattle.pw_sessions.specs.Workbench.{Workbench, beliefs_in}
use Rattle.pw_sessions.proofs.AskedUsers.{asked_noted, place_settled, place_settled_still}
use Rattle.pw_sessions.proofs.LastValues.{only_keeps_then, only_notes}
use Rattle.pw_sessions.proofs.UnchangedReplies.{notes_reason}
use Rattle.pw_sessions.proofs.workbench.Workbench.why.Goals as goal

pub reason-requires-clause-settled : goal.reason-requires-clause-settled
reason-requires-clause-settled g c =
    place_settled_still (state c.args.self.now) c.args.user c.in-Ok.place (state c.settle_for.new.self) _
    (record { values = c.snapshot.inside.values; is_current = c.snapshot.inside.is_current }) c.in-Ok.ensures.settled c.settle_for.ensures.after.grows
    (c.snapshot.view_is ∙ c.index-snapshot.ensures)

-- what was found, with what the search for a reason kept and noted
after_reason : (old : Workbench) (user : ℕ) (found : Workbench) (store : Store) (nogoods : List Premises) → OnlyKeepsMore old user found →
    KeepsMore found.network found.store store → StaysUpstream found.network found.store store → AreNogoods found.network found.store nogoods →
    OnlyKeepsMore old user (record found { store = store; nogoods = nogoods })
after_reason old user found store nogoods keeps grows upstream are =
    only_keeps_then old user found (record found { store = store; nogoods = nogoods }) keeps (only_notes found user store nogoods grows upstream (λ noted. are))

-- ---- out of memory, after it settled

pub returns-in_default-reason-clause-grows : goal.returns-in_default-reason-clause-grows
returns-in_default-reason-clause-grows g c =
    after_reason (state c.args.self.now) c.args.user (state c.settle_for.new.self) c.reason.new.store c.reason.new.nogoods
    c.settle_for.ensures.after.grows c.reason.ensures.grows c.reason.ensures.upstream c.reason.ensures.nogoods

pub returns-in_default-reason-clause-asked : goal.returns-in_default-reason-clause-asked
returns-in_default-reason-clause-asked g c =
    asked_noted (state c.args.self.now) c.args.user c.in-Ok.place (state c.settle_for.new.self) Unit tt c.settle_for.ensures.after c.reason.new.store
    c.reason.new.nogoods (reply.Refused refusal.Memory) c.requires.can c.in-Ok.ensures.settled c.reason.ensures.grows c.reason.ensures.upstream
    c.reason.ensures.nogoods

-- ---- answered

pub returns-clause-answer : goal.returns-clause-answer
returns-clause-answer g c =
    let network : Network = wiring c.args.self.now.network in
    let beliefs : Premises = beliefs_in (state c.args.self.now) c.args.user in
    let there : c.args.cell < cells_in network = omega (arith, c.requires.cell) in
    let settles : Network → Store → Premises → Info = λ n store w. value_in n store w c.args.cell in
    let settled : IsSettledFor (state c.args.self.now) c.args.user c.snapshot.inside.values =
    place_settled (state c.args.self.now) c.args.user c.in-Ok.place (state c.settle_for.new.self) _
    (record { values = c.snapshot.inside.values; is_current = c.snapshot.inside.is_current }) c.in-Ok.ensures.settled
    (c.snapshot.view_is ∙ c.index-snapshot.ensures) in
    let value : c.info.result ≡ settles network c.args.self.now.store beliefs = c.info.ensures ∙ settled.values c.args.cell there in
    let reason : c.in-Ok-reason.reason ≡ reason_of (settles network c.args.self.now.store) beliefs =
    c.in-Ok-reason.ensures.reason
    ∙ ap (λ (n : Network). reason_of (settles n c.settle_for.new.self.store) c.snapshot.inside.values.worldview) c.settle_for.ensures.after.grows.network
    ∙ (λ i. reason_of (λ w. same_value network c.args.self.now.store c.settle_for.new.self.store c.settle_for.ensures.after.grows.grows.told w
    c.args.cell i) (settled.worldview_is i)) in
    inl (λ i. reply.Because (value i) (reason i))

pub returns-clause-asked : goal.returns-clause-asked
returns-clause-asked g c =
    asked_noted (state c.args.self.now) c.args.user c.in-Ok.place (state c.settle_for.new.self) Unit tt c.settle_for.ensures.after c.reason.new.store
    c.reason.new.nogoods (reply.Because c.info.result c.in-Ok-reason.reason) c.requires.can c.in-Ok.ensures.settled c.reason.ensures.grows
    c.reason.ensures.upstream c.reason.ensures.nogoods

pub returns-clause-grows : goal.returns-clause-grows
returns-clause-grows g c =
    after_reason (state c.args.self.now) c.args.user (state c.settle_for.new.self) c.reason.new.store c.reason.new.nogoods
    c.settle_for.ensures.after.grows c.reason.ensures.grows c.reason.ensures.upstream c.reason.ensures.nogoods

-- ---- what is noted

pub returns-clause-noted : goal.returns-clause-noted
returns-clause-noted g c =
    let found : Workbench = state c.settle_for.new.self in
    let there : c.args.cell < cells_in (wiring c.args.self.now.network) = omega (arith, c.requires.cell) in
    let here : c.args.cell < cells_in found.network =
    subst (λ (n : Network). c.args.cell < cells_in n) (sym c.settle_for.ensures.after.grows.network) there in
    let settled : IsSettled found.network found.store c.snapshot.inside.values.worldview c.snapshot.inside.values =
    place_settled_still (state c.args.self.now) c.args.user c.in-Ok.place found _
    (record { values = c.snapshot.inside.values; is_current = c.snapshot.inside.is_current }) c.in-Ok.ensures.settled
    c.settle_for.ensures.after.grows (c.snapshot.view_is ∙ c.index-snapshot.ensures) in
    notes_reason (state c.args.self.now).nogoods found.nogoods c.reason.new.nogoods c.info.result
    (value_in found.network found.store c.snapshot.inside.values.worldview c.args.cell) c.in-Ok-reason.reason
    (ap (λ (b : Workbench). b.nogoods) c.settle_for.ensures.after.same) c.reason.ensures.covers
    (c.info.ensures ∙ settled.values c.args.cell here) c.in-Ok-reason.ensures.covered
