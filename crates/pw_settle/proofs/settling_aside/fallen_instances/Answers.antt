use Rattle.std.proofs.Common.{◌+◌, sym, subst, ◌∙◌, arith}
use Rattle.pw_network.specs.Wiring.{wiring}
use Rattle.pw_settle.proofs.AsideAgendas.{AreMetTo, all_met, met_none, met_passed, met_queued}
use Rattle.pw_settle.proofs.settling_aside.fallen_instances.Goals as goal
use Rattle.pw_settle.proofs.settling_aside.fallen_instances.Goals.{then-visible-number+then-not-stays_met, else-visible-number, else-visible-number-via-then-visible-number+else-not-stays_met, else-visible-number-via-else-visible-number}

pub loop-number-init : goal.loop-number-init
loop-number-init g c =
    met_none (wiring c.args.network.now) c.args.visible.now c.args.was_visible.now c.args.before.now c.args.now.now c.in_ok-agenda.agenda c.in_ok-agenda.ensures

pub loop-number-preserved : goal.loop-number-preserved
loop-number-preserved g c = elim c.if-visible-number.branch [
  | then-visible-number+then-not-stays_met w ↦
      subst (AreMetTo (wiring c.args.network.now) c.args.visible.now c.args.was_visible.now c.args.before.now c.args.now.now (c.loop-number.number + 1))
      (sym (w.agenda-is ∙ w.add.ensures))
      (met_queued (wiring c.args.network.now) c.args.visible.now c.args.was_visible.now c.args.before.now c.args.now.now c.loop-number.number c.loop-number.agenda
      c.loop-number.invariant (omega (arith, c.loop-number-test.true)) w.if-visible-number.true
      (λ met. let flag = w.stays_met.ensures.1 met in let not = w.if-not-stays_met.true in absurd (cc)))
  | else-visible-number w ↦
      subst (AreMetTo (wiring c.args.network.now) c.args.visible.now c.args.was_visible.now c.args.before.now c.args.now.now (c.loop-number.number + 1))
      (sym w.agenda-is)
      (met_passed (wiring c.args.network.now) c.args.visible.now c.args.was_visible.now c.args.before.now c.args.now.now c.loop-number.number c.loop-number.agenda
      c.loop-number.invariant (λ shown. elim w.else-visible-number.branch [
        | else-visible-number-via-then-visible-number+else-not-stays_met w' ↦ w'.stays_met.ensures.0 w'.if-not-stays_met.false
        | else-visible-number-via-else-visible-number w' ↦ let hidden = w'.if-visible-number.false in absurd (cc)
      ]))
]

pub returns : goal.returns
returns g c =
    all_met (wiring c.args.network.now) c.args.visible.now c.args.was_visible.now c.args.before.now c.args.now.now c.loop-number.number c.loop-number.agenda
    c.loop-number.invariant (omega (arith, c.loop-number-test.false))
