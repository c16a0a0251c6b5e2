use Rattle.std.proofs.Common.{refl, sym, ap, subst, ◌∙◌, inl, inr, arith}
use Rattle.std.specs.Prelude.{◌≢◌, ◌⊎◌, slice_set}
use Rattle.std.specs.FinSet.{union, difference}
use Rattle.pw_premises.specs.Premises.{Premises}
use Rattle.pw_sessions.specs.declared.command.Command.{Command}
use Rattle.pw_sessions.specs.declared.command.Command.TheVariants as commands
use Rattle.pw_sessions.specs.Reply as reply
use Rattle.pw_sessions.specs.Reply.{reply_by}
use Rattle.pw_sessions.specs.declared.reply.Refusal.TheVariants as refusal
use Rattle.pw_network.specs.Wiring.{wiring}
use Rattle.pw_reasons.specs.Combinations.{groups_of}
use Rattle.pw_sessions.specs.inside.Fields.{state}
use Rattle.pw_sessions.specs.Carrying.{ShowsNoChange}
use Rattle.pw_sessions.specs.Freshness.{CountsCalls, IsFresh, KeepsFresh}
use Rattle.pw_sessions.specs.Reply.{Says}
use Rattle.pw_sessions.specs.Command.{IsDeclared}
use Rattle.pw_sessions.specs.Workbench.{Workbench, IsCarriedOut, beliefs_in}
use Rattle.pw_sessions.proofs.AskedCells.{well_left}
use Rattle.pw_sessions.proofs.CarriedCommands.{carried_ask, carried_attach, carried_beliefs, carried_believe, carried_conflicts, carried_doubt, carried_keeping, carried_tell, carried_why, refused_attach, refused_tell}
use Rattle.pw_sessions.proofs.ChosenLines.{carried_choose, chosen_calls, chosen_fresh, chosen_refused, groups_fit}
use Rattle.pw_sessions.proofs.FreshLines.{asks_written, attached_seen, can_answer, kind_of_told, written_asks}
use Rattle.pw_sessions.proofs.UnchangedReplies.{no_change_as_before, no_change_itself, no_change_keeping, notes_none}
use Rattle.pw_sessions.proofs.FreshUsers.{counts_none, fresh_believed, fresh_refused, fresh_told, keeps_fresh, question_counts, question_keeps}
use Rattle.std.proofs.lemmas.List.{length-set}
use Rattle.pw_settle.proofs.StoreCells.{cells_kept}
use Rattle.pw_sessions.proofs.workbench.Workbench.carry_out.Goals as goal

-- ---- a tell

pub tell-requires-clause-there : goal.tell-requires-clause-there
tell-requires-clause-there g c =
    let named = subst (λ (x : Command). IsDeclared (wiring c.args.self.now.network).declared (Says x)) c.in-Tell.is c.requires.can.declared in
    let many = cells_kept (wiring c.args.self.now.network) c.args.self.now.store c.args.self.now.network.well c.requires.can.set_up.fits.sound.kinds in
    omega (arith, named.1.0, many)

pub tell-requires-clause-declared : goal.tell-requires-clause-declared
tell-requires-clause-declared g c =
    let named = subst (λ (x : Command). IsDeclared (wiring c.args.self.now.network).declared (Says x)) c.in-Tell.is c.requires.can.declared in
    named.1.0

pub tell-requires-clause-fits : goal.tell-requires-clause-fits
tell-requires-clause-fits g c = c.requires.can.set_up.fits

pub tell-requires-clause-kind : goal.tell-requires-clause-kind
tell-requires-clause-kind g c = kind_of_told (state c.args.self.now) c.args.self.now.network.well c.requires.can.set_up c.in-Tell.user c.in-Tell.cell c.in-Tell.fact
    (subst (λ (x : Command). IsDeclared (wiring c.args.self.now.network).declared (Says x)) c.in-Tell.is c.requires.can.declared)

pub returns-in_default-clause-carried : goal.returns-in_default-clause-carried
returns-in_default-clause-carried g c = λ d before left at named.
    let bench : Workbench = state c.args.self.now in
    let well = well_left d before bench c.args.self.now.network.well left in
    let told : Command = commands.Tell c.in-Tell.user c.in-Tell.cell c.in-Tell.fact in
    subst (λ (x : Command). IsCarriedOut d before x (state c.tell.new.self) (reply.Refused refusal.Memory)) (sym c.in-Tell.is)
    (subst (λ (new : Workbench). IsCarriedOut d before told new (reply.Refused refusal.Memory))
    (sym c.in_default.ensures.err) (refused_tell d well before bench left c.in-Tell.user c.in-Tell.cell c.in-Tell.fact))

pub returns-in_default-clause-fresh : goal.returns-in_default-clause-fresh
returns-in_default-clause-fresh g c =
    subst (λ (x : Command). KeepsFresh (state c.args.self.now) x (state c.tell.new.self) (reply.Refused refusal.Memory)) (sym c.in-Tell.is)
    (keeps_fresh (state c.args.self.now) (state c.tell.new.self) (commands.Tell c.in-Tell.user c.in-Tell.cell c.in-Tell.fact)
    (reply.Refused refusal.Memory) (λ d before settles. settles)
    (λ user is. inr (subst (λ (new : Workbench). IsFresh new user) (sym c.in_default.ensures.err) is)))

pub returns-in_default-clause-calls : goal.returns-in_default-clause-calls
returns-in_default-clause-calls g c =
    subst (λ (x : Command). CountsCalls (state c.args.self.now) x (state c.tell.new.self) (reply.Refused refusal.Memory)) (sym c.in-Tell.is)
    (counts_none (state c.args.self.now) (state c.tell.new.self) (commands.Tell c.in-Tell.user c.in-Tell.cell c.in-Tell.fact)
    (reply.Refused refusal.Memory) (λ d before settles. settles)
    (ap (λ (new : Workbench). new.calls) c.in_default.ensures.err ∙ c.requires.calls))

pub returns-in-Ok-clause-carried : goal.returns-in-Ok-clause-carried
returns-in-Ok-clause-carried g c = λ d before left at named.
    let bench : Workbench = state c.args.self.now in
    let well = well_left d before bench c.args.self.now.network.well left in
    let named' = subst (λ (x : Command). IsDeclared d (Says x)) c.in-Tell.is named in
    subst (λ (x : Command). IsCarriedOut d before x (state c.tell.new.self) reply.Done) (sym c.in-Tell.is)
    (carried_tell d well before bench left (state c.tell.new.self) c.in-Tell.user c.in-Tell.cell c.in-Tell.fact c.args.self.now.network.well named'
    c.in-Ok.ensures.ok)

pub returns-in-Ok-clause-fresh : goal.returns-in-Ok-clause-fresh
returns-in-Ok-clause-fresh g c =
    let bench : Workbench = state c.args.self.now in
    let new : Workbench = state c.tell.new.self in
    let named = subst (λ (x : Command). IsDeclared (wiring c.args.self.now.network).declared (Says x)) c.in-Tell.is c.requires.can.declared in
    subst (λ (x : Command). KeepsFresh bench x new reply.Done) (sym c.in-Tell.is)
    (keeps_fresh bench new (commands.Tell c.in-Tell.user c.in-Tell.cell c.in-Tell.fact) reply.Done (λ d before settles. settles)
    (λ user is. elim (fresh_told bench new c.in-Tell.cell c.in-Tell.fact c.args.self.now.network.well c.requires.can.set_up.fits named.1.0
    (kind_of_told bench c.args.self.now.network.well c.requires.can.set_up c.in-Tell.user c.in-Tell.cell c.in-Tell.fact named) c.in-Ok.ensures.ok user is) [
      | inl seen ↦ inl (inr (inr (refl, seen)))
      | inr fresh ↦ inr fresh
    ]))

pub returns-in-Ok-clause-calls : goal.returns-in-Ok-clause-calls
returns-in-Ok-clause-calls g c =
    subst (λ (x : Command). CountsCalls (state c.args.self.now) x (state c.tell.new.self) reply.Done) (sym c.in-Tell.is)
    (counts_none (state c.args.self.now) (state c.tell.new.self) (commands.Tell c.in-Tell.user c.in-Tell.cell c.in-Tell.fact)
    reply.Done (λ d before settles. settles) (c.in-Ok.ensures.ok.calls ∙ c.requires.calls))

-- ---- an attach

pub returns-in_default-attach-clause-carried : goal.returns-in_default-attach-clause-carried
returns-in_default-attach-clause-carried g c = λ d before left at named.
    let bench : Workbench = state c.args.self.now in
    let well = well_left d before bench c.args.self.now.network.well left in
    subst (λ (x : Command). IsCarriedOut d before x (state c.attach.new.self) (reply.Refused refusal.Memory)) (sym c.in-Attach.is)
    (refused_attach d well before bench left (state c.attach.new.self) c.in-Attach.user c.in-Attach.callable c.in-Attach.cells c.in-Attach.support
    c.in_default-attach.ensures.err)

pub returns-in-Ok-attach-clause-carried : goal.returns-in-Ok-attach-clause-carried
returns-in-Ok-attach-clause-carried g c = λ d before left at named.
    let bench : Workbench = state c.args.self.now in
    let well = well_left d before bench c.args.self.now.network.well left in
    let named' = subst (λ (x : Command). IsDeclared d (Says x)) c.in-Attach.is named in
    subst (λ (x : Command). IsCarriedOut d before x (state c.attach.new.self) reply.Done) (sym c.in-Attach.is)
    (carried_attach d well before bench left (state c.attach.new.self) c.in-Attach.user c.args.line c.in-Attach.callable c.in-Attach.cells c.in-Attach.support
    c.args.self.now.network.well c.attach.new.self.network.well named' at c.in-Ok-attach.ensures.ok)

pub returns-in-Believe-clause-carried : goal.returns-in-Believe-clause-carried
returns-in-Believe-clause-carried g c = λ d before left at named.
    let bench : Workbench = state c.args.self.now in
    let well = well_left d before bench c.args.self.now.network.well left in
    let named' = subst (λ (x : Command). IsDeclared d (Says x)) c.in-Believe.is named in
    let believed = c.join.ensures.union ∙ ap (λ (b : Premises). union b c.in-Believe.premises) c.beliefs_of.ensures in
    let set' = c.set_beliefs.ensures ∙ ap (λ (b : Premises). record bench { beliefs = slice_set bench.beliefs c.in-Believe.user b }) believed in
    subst (λ (x : Command). IsCarriedOut d before x (state c.set_beliefs.new.self) reply.Done) (sym c.in-Believe.is)
    (subst (λ (new : Workbench). IsCarriedOut d before (commands.Believe c.in-Believe.user c.in-Believe.premises) new reply.Done) (sym set')
    (carried_believe d well before bench left c.in-Believe.user c.in-Believe.premises named'.0))

pub returns-in-Doubt-clause-carried : goal.returns-in-Doubt-clause-carried
returns-in-Doubt-clause-carried g c = λ d before left at named.
    let bench : Workbench = state c.args.self.now in
    let well = well_left d before bench c.args.self.now.network.well left in
    let named' = subst (λ (x : Command). IsDeclared d (Says x)) c.in-Doubt.is named in
    let believed = c.difference.ensures.difference ∙ ap (λ (b : Premises). difference b c.in-Doubt.premises) c.beliefs_of-in-Doubt.ensures in
    let set' = c.set_beliefs-in-Doubt.ensures ∙ ap (λ (b : Premises). record bench { beliefs = slice_set bench.beliefs c.in-Doubt.user b }) believed in
    subst (λ (x : Command). IsCarriedOut d before x (state c.set_beliefs-in-Doubt.new.self) reply.Done) (sym c.in-Doubt.is)
    (subst (λ (new : Workbench). IsCarriedOut d before (commands.Doubt c.in-Doubt.user c.in-Doubt.premises) new reply.Done) (sym set')
    (carried_doubt d well before bench left c.in-Doubt.user c.in-Doubt.premises named'.0))

pub ask-requires-clause-can : goal.ask-requires-clause-can
ask-requires-clause-can g c =
    let named = subst (λ (x : Command). IsDeclared (wiring c.args.self.now.network).declared (Says x)) c.in-Ask.is c.requires.can.declared in
    can_answer (state c.args.self.now) c.requires.can c.in-Ask.user named.0

pub returns-in-Ask-clause-carried : goal.returns-in-Ask-clause-carried
returns-in-Ask-clause-carried g c = λ d before left at named.
    let bench : Workbench = state c.args.self.now in
    let well = well_left d before bench c.args.self.now.network.well left in
    let named' = subst (λ (x : Command). IsDeclared d (Says x)) c.in-Ask.is named in
    subst (λ (x : Command). IsCarriedOut d before x (state c.ask.new.self) (reply_by c.ask.result)) (sym c.in-Ask.is)
    (carried_keeping d well before bench left c.in-Ask.user (state c.ask.new.self) (commands.Ask c.in-Ask.user c.in-Ask.cell) (reply_by c.ask.result) c.ask.ensures.grows
    (carried_ask d well before bench left c.in-Ask.user c.in-Ask.cell (reply_by c.ask.result) named' (c.ask.ensures.answer d before left)))

pub returns-in-Beliefs-clause-carried : goal.returns-in-Beliefs-clause-carried
returns-in-Beliefs-clause-carried g c = λ d before left at named.
    let bench : Workbench = state c.args.self.now in
    let well = well_left d before bench c.args.self.now.network.well left in
    let named' = subst (λ (x : Command). IsDeclared d (Says x)) c.in-Beliefs.is named in
    subst (λ (x : Command). IsCarriedOut d before x bench (reply.Believes c.beliefs_of-in-Beliefs.result)) (sym c.in-Beliefs.is)
    (carried_beliefs d well before bench left c.in-Beliefs.user c.beliefs_of-in-Beliefs.result named'.0 c.beliefs_of-in-Beliefs.ensures)

pub why-requires-clause-can : goal.why-requires-clause-can
why-requires-clause-can g c =
    let named = subst (λ (x : Command). IsDeclared (wiring c.args.self.now.network).declared (Says x)) c.in-Why.is c.requires.can.declared in
    can_answer (state c.args.self.now) c.requires.can c.in-Why.user named.0

pub returns-in-Why-clause-carried : goal.returns-in-Why-clause-carried
returns-in-Why-clause-carried g c = λ d before left at named.
    let bench : Workbench = state c.args.self.now in
    let well = well_left d before bench c.args.self.now.network.well left in
    let named' = subst (λ (x : Command). IsDeclared d (Says x)) c.in-Why.is named in
    subst (λ (x : Command). IsCarriedOut d before x (state c.why.new.self) (reply_by c.why.result)) (sym c.in-Why.is)
    (carried_keeping d well before bench left c.in-Why.user (state c.why.new.self) (commands.Why c.in-Why.user c.in-Why.cell) (reply_by c.why.result) c.why.ensures.grows
    (carried_why d well before bench left c.in-Why.user c.in-Why.cell (reply_by c.why.result) named' c.why.ensures.answer))

pub conflicts-requires-clause-can : goal.conflicts-requires-clause-can
conflicts-requires-clause-can g c =
    let named = subst (λ (x : Command). IsDeclared (wiring c.args.self.now.network).declared (Says x)) c.in-Conflicts.is c.requires.can.declared in
    can_answer (state c.args.self.now) c.requires.can c.in-Conflicts.user named.0

pub returns-in-Conflicts-clause-carried : goal.returns-in-Conflicts-clause-carried
returns-in-Conflicts-clause-carried g c = λ d before left at named.
    let bench : Workbench = state c.args.self.now in
    let well = well_left d before bench c.args.self.now.network.well left in
    let named' = subst (λ (x : Command). IsDeclared d (Says x)) c.in-Conflicts.is named in
    subst (λ (x : Command). IsCarriedOut d before x (state c.conflicts.new.self) (reply_by c.conflicts.result)) (sym c.in-Conflicts.is)
    (carried_keeping d well before bench left c.in-Conflicts.user (state c.conflicts.new.self) (commands.Conflicts c.in-Conflicts.user) (reply_by c.conflicts.result) c.conflicts.ensures.grows
    (carried_conflicts d well before bench left c.in-Conflicts.user (reply_by c.conflicts.result) named'.0 c.conflicts.ensures.answer))

pub returns-in_default-attach-clause-fresh : goal.returns-in_default-attach-clause-fresh
returns-in_default-attach-clause-fresh g c =
    subst (λ (x : Command). KeepsFresh (state c.args.self.now) x (state c.attach.new.self) (reply.Refused refusal.Memory)) (sym c.in-Attach.is)
    (keeps_fresh (state c.args.self.now) (state c.attach.new.self) (commands.Attach c.in-Attach.user c.in-Attach.callable c.in-Attach.cells c.in-Attach.support) (reply.Refused refusal.Memory) (λ d before settles. settles)
    (λ user is. fresh_refused (state c.args.self.now) (state c.attach.new.self) c.requires.can.set_up.fits
    c.in_default-attach.ensures.err user
    (commands.Attach c.in-Attach.user c.in-Attach.callable c.in-Attach.cells c.in-Attach.support) (reply.Refused refusal.Memory) is))

pub returns-in_default-attach-clause-calls : goal.returns-in_default-attach-clause-calls
returns-in_default-attach-clause-calls g c =
    subst (λ (x : Command). CountsCalls (state c.args.self.now) x (state c.attach.new.self) (reply.Refused refusal.Memory)) (sym c.in-Attach.is)
    (counts_none (state c.args.self.now) (state c.attach.new.self) (commands.Attach c.in-Attach.user c.in-Attach.callable c.in-Attach.cells c.in-Attach.support) (reply.Refused refusal.Memory) (λ d before settles. settles)
    (c.attach.ensures.calls ∙ c.requires.calls))

pub returns-in-Ok-attach-clause-fresh : goal.returns-in-Ok-attach-clause-fresh
returns-in-Ok-attach-clause-fresh g c =
    subst (λ (x : Command). KeepsFresh (state c.args.self.now) x (state c.attach.new.self) (reply.Done)) (sym c.in-Attach.is)
    (keeps_fresh (state c.args.self.now) (state c.attach.new.self) (commands.Attach c.in-Attach.user c.in-Attach.callable c.in-Attach.cells c.in-Attach.support) (reply.Done) (λ d before settles. settles)
    (attached_seen (state c.args.self.now) (state c.attach.new.self) c.args.line c.in-Attach.user c.in-Attach.callable c.in-Attach.cells
    c.in-Attach.support c.args.self.now.network.well c.attach.new.self.network.well c.requires.can.set_up.fits c.in-Ok-attach.ensures.ok))

pub returns-in-Ok-attach-clause-calls : goal.returns-in-Ok-attach-clause-calls
returns-in-Ok-attach-clause-calls g c =
    subst (λ (x : Command). CountsCalls (state c.args.self.now) x (state c.attach.new.self) (reply.Done)) (sym c.in-Attach.is)
    (counts_none (state c.args.self.now) (state c.attach.new.self) (commands.Attach c.in-Attach.user c.in-Attach.callable c.in-Attach.cells c.in-Attach.support) (reply.Done) (λ d before settles. settles)
    (c.attach.ensures.calls ∙ c.requires.calls))

pub returns-in-Believe-clause-fresh : goal.returns-in-Believe-clause-fresh
returns-in-Believe-clause-fresh g c =
    subst (λ (x : Command). KeepsFresh (state c.args.self.now) x (state c.set_beliefs.new.self) (reply.Done)) (sym c.in-Believe.is)
    (keeps_fresh (state c.args.self.now) (state c.set_beliefs.new.self) (commands.Believe c.in-Believe.user c.in-Believe.premises) (reply.Done) (λ d before settles. settles)
    (λ user is. elim (subst (λ (new : Workbench). (beliefs_in new user ≢ beliefs_in (state c.args.self.now) user) ⊎ IsFresh new user)
    (sym c.set_beliefs.ensures) (fresh_believed (state c.args.self.now) _ (length-set (state c.args.self.now).beliefs _ _) user is)) [
      | inl other ↦ inl (inl other)
      | inr fresh ↦ inr fresh
    ]))

pub returns-in-Believe-clause-calls : goal.returns-in-Believe-clause-calls
returns-in-Believe-clause-calls g c =
    subst (λ (x : Command). CountsCalls (state c.args.self.now) x (state c.set_beliefs.new.self) (reply.Done)) (sym c.in-Believe.is)
    (counts_none (state c.args.self.now) (state c.set_beliefs.new.self) (commands.Believe c.in-Believe.user c.in-Believe.premises) (reply.Done) (λ d before settles. settles)
    (ap (λ (new : Workbench). new.calls) c.set_beliefs.ensures ∙ c.requires.calls))

pub returns-in-Doubt-clause-fresh : goal.returns-in-Doubt-clause-fresh
returns-in-Doubt-clause-fresh g c =
    subst (λ (x : Command). KeepsFresh (state c.args.self.now) x (state c.set_beliefs-in-Doubt.new.self) (reply.Done)) (sym c.in-Doubt.is)
    (keeps_fresh (state c.args.self.now) (state c.set_beliefs-in-Doubt.new.self) (commands.Doubt c.in-Doubt.user c.in-Doubt.premises) (reply.Done) (λ d before settles. settles)
    (λ user is. elim (subst (λ (new : Workbench). (beliefs_in new user ≢ beliefs_in (state c.args.self.now) user) ⊎ IsFresh new user)
    (sym c.set_beliefs-in-Doubt.ensures) (fresh_believed (state c.args.self.now) _ (length-set (state c.args.self.now).beliefs _ _) user is)) [
      | inl other ↦ inl (inl other)
      | inr fresh ↦ inr fresh
    ]))

pub returns-in-Doubt-clause-calls : goal.returns-in-Doubt-clause-calls
returns-in-Doubt-clause-calls g c =
    subst (λ (x : Command). CountsCalls (state c.args.self.now) x (state c.set_beliefs-in-Doubt.new.self) (reply.Done)) (sym c.in-Doubt.is)
    (counts_none (state c.args.self.now) (state c.set_beliefs-in-Doubt.new.self) (commands.Doubt c.in-Doubt.user c.in-Doubt.premises) (reply.Done) (λ d before settles. settles)
    (ap (λ (new : Workbench). new.calls) c.set_beliefs-in-Doubt.ensures ∙ c.requires.calls))

pub returns-in-Beliefs-clause-fresh : goal.returns-in-Beliefs-clause-fresh
returns-in-Beliefs-clause-fresh g c =
    subst (λ (x : Command). KeepsFresh (state c.args.self.now) x (state c.args.self.now) (reply.Believes c.beliefs_of-in-Beliefs.result)) (sym c.in-Beliefs.is)
    (keeps_fresh (state c.args.self.now) (state c.args.self.now) (commands.Beliefs c.in-Beliefs.user) (reply.Believes c.beliefs_of-in-Beliefs.result) (λ d before settles. settles)
    (λ user is. inr is))

pub returns-in-Beliefs-clause-calls : goal.returns-in-Beliefs-clause-calls
returns-in-Beliefs-clause-calls g c =
    subst (λ (x : Command). CountsCalls (state c.args.self.now) x (state c.args.self.now) (reply.Believes c.beliefs_of-in-Beliefs.result)) (sym c.in-Beliefs.is)
    (counts_none (state c.args.self.now) (state c.args.self.now) (commands.Beliefs c.in-Beliefs.user) (reply.Believes c.beliefs_of-in-Beliefs.result) (λ d before settles. settles)
    (c.requires.calls))

pub returns-in-Ask-clause-fresh : goal.returns-in-Ask-clause-fresh
returns-in-Ask-clause-fresh g c =
    subst (λ (x : Command). KeepsFresh (state c.args.self.now) x (state c.ask.new.self) (reply_by c.ask.result)) (sym c.in-Ask.is)
    (question_keeps (state c.args.self.now) (commands.Ask c.in-Ask.user c.in-Ask.cell) _ (state c.ask.new.self) (reply_by c.ask.result)
    (can_answer (state c.args.self.now) c.requires.can c.in-Ask.user
    (subst (λ (x : Command). IsDeclared (wiring c.args.self.now.network).declared (Says x)) c.in-Ask.is c.requires.can.declared).0) c.ask.ensures.grows c.ask.ensures.asked
    (asks_written (state c.args.self.now) c.args.self.now.network.well c.in-Ask.user c.in-Ask.cell
    (subst (λ (x : Command). IsDeclared (wiring c.args.self.now.network).declared (Says x)) c.in-Ask.is c.requires.can.declared)))

pub returns-in-Ask-clause-calls : goal.returns-in-Ask-clause-calls
returns-in-Ask-clause-calls g c =
    subst (λ (x : Command). CountsCalls (state c.args.self.now) x (state c.ask.new.self) (reply_by c.ask.result)) (sym c.in-Ask.is)
    (question_counts (state c.args.self.now) (commands.Ask c.in-Ask.user c.in-Ask.cell) _ (state c.ask.new.self) (reply_by c.ask.result)
    (can_answer (state c.args.self.now) c.requires.can c.in-Ask.user
    (subst (λ (x : Command). IsDeclared (wiring c.args.self.now.network).declared (Says x)) c.in-Ask.is c.requires.can.declared).0) c.ask.ensures.grows c.ask.ensures.asked
    (asks_written (state c.args.self.now) c.args.self.now.network.well c.in-Ask.user c.in-Ask.cell
    (subst (λ (x : Command). IsDeclared (wiring c.args.self.now.network).declared (Says x)) c.in-Ask.is c.requires.can.declared))
    (written_asks (state c.args.self.now) c.args.self.now.network.well c.in-Ask.user c.in-Ask.cell
    (subst (λ (x : Command). IsDeclared (wiring c.args.self.now.network).declared (Says x)) c.in-Ask.is c.requires.can.declared)))

pub returns-in-Why-clause-fresh : goal.returns-in-Why-clause-fresh
returns-in-Why-clause-fresh g c =
    subst (λ (x : Command). KeepsFresh (state c.args.self.now) x (state c.why.new.self) (reply_by c.why.result)) (sym c.in-Why.is)
    (question_keeps (state c.args.self.now) (commands.Why c.in-Why.user c.in-Why.cell) _ (state c.why.new.self) (reply_by c.why.result)
    (can_answer (state c.args.self.now) c.requires.can c.in-Why.user
    (subst (λ (x : Command). IsDeclared (wiring c.args.self.now.network).declared (Says x)) c.in-Why.is c.requires.can.declared).0) c.why.ensures.grows c.why.ensures.asked
    (λ d before left settles. tt))

pub returns-in-Why-clause-calls : goal.returns-in-Why-clause-calls
returns-in-Why-clause-calls g c =
    subst (λ (x : Command). CountsCalls (state c.args.self.now) x (state c.why.new.self) (reply_by c.why.result)) (sym c.in-Why.is)
    (question_counts (state c.args.self.now) (commands.Why c.in-Why.user c.in-Why.cell) _ (state c.why.new.self) (reply_by c.why.result)
    (can_answer (state c.args.self.now) c.requires.can c.in-Why.user
    (subst (λ (x : Command). IsDeclared (wiring c.args.self.now.network).declared (Says x)) c.in-Why.is c.requires.can.declared).0) c.why.ensures.grows c.why.ensures.asked
    (λ d before left settles. tt)
    (λ d before left settling. tt))

pub returns-in-Conflicts-clause-fresh : goal.returns-in-Conflicts-clause-fresh
returns-in-Conflicts-clause-fresh g c =
    subst (λ (x : Command). KeepsFresh (state c.args.self.now) x (state c.conflicts.new.self) (reply_by c.conflicts.result)) (sym c.in-Conflicts.is)
    (question_keeps (state c.args.self.now) (commands.Conflicts c.in-Conflicts.user) _ (state c.conflicts.new.self) (reply_by c.conflicts.result)
    (can_answer (state c.args.self.now) c.requires.can c.in-Conflicts.user
    (subst (λ (x : Command). IsDeclared (wiring c.args.self.now.network).declared (Says x)) c.in-Conflicts.is c.requires.can.declared).0) c.conflicts.ensures.grows c.conflicts.ensures.asked
    (λ d before left settles. tt))

pub returns-in-Conflicts-clause-calls : goal.returns-in-Conflicts-clause-calls
returns-in-Conflicts-clause-calls g c =
    subst (λ (x : Command). CountsCalls (state c.args.self.now) x (state c.conflicts.new.self) (reply_by c.conflicts.result)) (sym c.in-Conflicts.is)
    (question_counts (state c.args.self.now) (commands.Conflicts c.in-Conflicts.user) _ (state c.conflicts.new.self) (reply_by c.conflicts.result)
    (can_answer (state c.args.self.now) c.requires.can c.in-Conflicts.user
    (subst (λ (x : Command). IsDeclared (wiring c.args.self.now.network).declared (Says x)) c.in-Conflicts.is c.requires.can.declared).0) c.conflicts.ensures.grows c.conflicts.ensures.asked
    (λ d before left settles. tt)
    (λ d before left settling. tt))

-- ---- what is noted

pub returns-in_default-clause-noted : goal.returns-in_default-clause-noted
returns-in_default-clause-noted g c =
    notes_none _ _ _ (ap (λ (new : Workbench). new.nogoods) c.in_default.ensures.err) (λ info reason is. absurd (cc))

pub returns-in-Ok-clause-noted : goal.returns-in-Ok-clause-noted
returns-in-Ok-clause-noted g c = notes_none _ _ _ c.in-Ok.ensures.ok.nogoods (λ info reason is. absurd (cc))

pub returns-in_default-attach-clause-noted : goal.returns-in_default-attach-clause-noted
returns-in_default-attach-clause-noted g c = notes_none _ _ _ c.in_default-attach.ensures.err.nogoods (λ info reason is. absurd (cc))

pub returns-in-Ok-attach-clause-noted : goal.returns-in-Ok-attach-clause-noted
returns-in-Ok-attach-clause-noted g c = notes_none _ _ _ c.in-Ok-attach.ensures.ok.nogoods (λ info reason is. absurd (cc))

pub returns-in-Believe-clause-noted : goal.returns-in-Believe-clause-noted
returns-in-Believe-clause-noted g c = notes_none _ _ _ (ap (λ (new : Workbench). new.nogoods) c.set_beliefs.ensures) (λ info reason is. absurd (cc))

pub returns-in-Doubt-clause-noted : goal.returns-in-Doubt-clause-noted
returns-in-Doubt-clause-noted g c = notes_none _ _ _ (ap (λ (new : Workbench). new.nogoods) c.set_beliefs-in-Doubt.ensures) (λ info reason is. absurd (cc))

pub returns-in-Beliefs-clause-noted : goal.returns-in-Beliefs-clause-noted
returns-in-Beliefs-clause-noted g c = notes_none _ _ _ refl (λ info reason is. absurd (cc))

-- ---- what a refusal leaves

pub returns-in_default-clause-refused : goal.returns-in_default-clause-refused
returns-in_default-clause-refused g c = λ refused.
    subst (ShowsNoChange (state c.args.self.now)) (sym c.in_default.ensures.err) (no_change_itself (state c.args.self.now))

pub returns-in-Ok-clause-refused : goal.returns-in-Ok-clause-refused
returns-in-Ok-clause-refused g c = λ refused. absurd (cc)

pub returns-in_default-attach-clause-refused : goal.returns-in_default-attach-clause-refused
returns-in_default-attach-clause-refused g c = λ refused.
    no_change_as_before (state c.args.self.now) (state c.attach.new.self) c.args.self.now.network.well c.in_default-attach.ensures.err

pub returns-in-Ok-attach-clause-refused : goal.returns-in-Ok-attach-clause-refused
returns-in-Ok-attach-clause-refused g c = λ refused. absurd (cc)

pub returns-in-Believe-clause-refused : goal.returns-in-Believe-clause-refused
returns-in-Believe-clause-refused g c = λ refused. absurd (cc)

pub returns-in-Doubt-clause-refused : goal.returns-in-Doubt-clause-refused
returns-in-Doubt-clause-refused g c = λ refused. absurd (cc)

pub returns-in-Beliefs-clause-refused : goal.returns-in-Beliefs-clause-refused
returns-in-Beliefs-clause-refused g c = λ refused. absurd (cc)

pub returns-in-Ask-clause-refused : goal.returns-in-Ask-clause-refused
returns-in-Ask-clause-refused g c = λ refused.
    no_change_keeping (state c.args.self.now) c.in-Ask.user (state c.ask.new.self) c.args.self.now.network.well c.ask.ensures.grows

pub returns-in-Why-clause-refused : goal.returns-in-Why-clause-refused
returns-in-Why-clause-refused g c = λ refused.
    no_change_keeping (state c.args.self.now) c.in-Why.user (state c.why.new.self) c.args.self.now.network.well c.why.ensures.grows

pub returns-in-Conflicts-clause-refused : goal.returns-in-Conflicts-clause-refused
returns-in-Conflicts-clause-refused g c = λ refused.
    no_change_keeping (state c.args.self.now) c.in-Conflicts.user (state c.conflicts.new.self) c.args.self.now.network.well c.conflicts.ensures.grows

-- ---- a choice

pub choose-requires-clause-can : goal.choose-requires-clause-can
choose-requires-clause-can g c =
    let named = subst (λ (x : Command). IsDeclared (wiring c.args.self.now.network).declared (Says x)) c.in-Choose.is c.requires.can.declared in
    can_answer (state c.args.self.now) c.requires.can c.in-Choose.user named.0

pub choose-requires-clause-premises : goal.choose-requires-clause-premises
choose-requires-clause-premises g c =
    let named = subst (λ (x : Command). IsDeclared (wiring c.args.self.now.network).declared (Says x)) c.in-Choose.is c.requires.can.declared in
    groups_fit (wiring c.args.self.now.network).declared c.args.self.now.network.well.declared (groups_of c.in-Choose.groups) named.1

pub returns-in-Choose-clause-carried : goal.returns-in-Choose-clause-carried
returns-in-Choose-clause-carried g c = λ d before left at named.
    let bench : Workbench = state c.args.self.now in
    let well = well_left d before bench c.args.self.now.network.well left in
    let named' = subst (λ (x : Command). IsDeclared d (Says x)) c.in-Choose.is named in
    subst (λ (x : Command). IsCarriedOut d before x (state c.choose.new.self) (reply_by c.choose.result)) (sym c.in-Choose.is)
    (carried_choose d well before bench left c.in-Choose.user c.in-Choose.groups named'.0 (state c.choose.new.self) (reply_by c.choose.result)
    c.choose.ensures.chosen)

pub returns-in-Choose-clause-fresh : goal.returns-in-Choose-clause-fresh
returns-in-Choose-clause-fresh g c =
    subst (λ (x : Command). KeepsFresh (state c.args.self.now) x (state c.choose.new.self) (reply_by c.choose.result)) (sym c.in-Choose.is)
    (keeps_fresh (state c.args.self.now) (state c.choose.new.self) (commands.Choose c.in-Choose.user c.in-Choose.groups) (reply_by c.choose.result)
    (λ d before settles. settles)
    (chosen_fresh (state c.args.self.now) c.in-Choose.user (groups_of c.in-Choose.groups) (state c.choose.new.self) (reply_by c.choose.result)
    c.choose.ensures.chosen (commands.Choose c.in-Choose.user c.in-Choose.groups) c.requires.can.set_up.fits))

pub returns-in-Choose-clause-calls : goal.returns-in-Choose-clause-calls
returns-in-Choose-clause-calls g c =
    subst (λ (x : Command). CountsCalls (state c.args.self.now) x (state c.choose.new.self) (reply_by c.choose.result)) (sym c.in-Choose.is)
    (counts_none (state c.args.self.now) (state c.choose.new.self) (commands.Choose c.in-Choose.user c.in-Choose.groups) (reply_by c.choose.result)
    (λ d before settles. settles)
    (chosen_calls (state c.args.self.now) c.in-Choose.user (groups_of c.in-Choose.groups) (state c.choose.new.self) (reply_by c.choose.result)
    c.choose.ensures.chosen ∙ c.requires.calls))

pub returns-in-Choose-clause-refused : goal.returns-in-Choose-clause-refused
returns-in-Choose-clause-refused g c =
    chosen_refused (state c.args.self.now) c.in-Choose.user (groups_of c.in-Choose.groups) (state c.choose.new.self) (reply_by c.choose.result)
    c.choose.ensures.chosen c.args.self.now.network.well
