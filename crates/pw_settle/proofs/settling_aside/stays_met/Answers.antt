use Rattle.std.proofs.Common.{◌≡◌, ◌<◌, length, sym, ap, ◌∙◌, arith}
use Rattle.pw_info.specs.Information.{kind_of}
use Rattle.pw_network.specs.Wiring.{wiring}
use Rattle.pw_network.specs.inside.Held.{attachment}
use Rattle.pw_network.specs.Network.{Attached}
use Rattle.pw_settle.specs.Settled.{info_at}
use Rattle.pw_settle.specs.Values.{attached_no}
use Rattle.pw_settle.proofs.AsideAgendas.{met_implies, stays_met}
use Rattle.pw_settle.proofs.AsideNews.{output_kinds}
use Rattle.pw_settle.proofs.NewsLemmas.{kept_instance, output_read, output_there}
use Rattle.pw_settle.proofs.settling_aside.stays_met.Given as given
use Rattle.pw_settle.proofs.settling_aside.stays_met.Goals as goal

pub bounds-now-instance : goal.bounds-now-instance
bounds-now-instance g c =
    output_there (wiring c.args.network.now) c.args.network.now.well c.args.now.now (wiring c.args.network.now).declared.procedures c.args.number
    (attachment c.index-instances-number.result) (λ i. (wiring c.args.network.now).declared.procedures) c.requires.now (omega (arith, c.requires.there, c.requires.all))
    (λ d. kept_instance (wiring c.args.network.now) c.instances.result.now c.args.number c.index-instances-number.result d c.instances.ensures.instances
    (omega (arith, c.requires.there, c.requires.all)) c.index-instances-number.is)

pub bounds-before-instance : goal.bounds-before-instance
bounds-before-instance g c =
    output_there (wiring c.args.network.now) c.args.network.now.well c.args.before.now (wiring c.args.network.now).declared.procedures c.args.number
    (attachment c.index-instances-number.result) (λ i. (wiring c.args.network.now).declared.procedures) c.requires.before (omega (arith, c.requires.there, c.requires.all))
    (λ d. kept_instance (wiring c.args.network.now) c.instances.result.now c.args.number c.index-instances-number.result d c.instances.ensures.instances
    (omega (arith, c.requires.there, c.requires.all)) c.index-instances-number.is)

-- what is known of the output now and was before
read_now : (g : given.Over) (c : goal.After-index-before-instance g) →
    c.index-now-instance.result ≡ info_at c.args.now.now (attachment c.index-instances-number.result).instance.output
read_now g c =
    c.index-now-instance.is ∙ output_read (wiring c.args.network.now) c.args.network.now.well c.args.now.now (wiring c.args.network.now).declared.procedures c.args.number
    (attachment c.index-instances-number.result) (λ i. (wiring c.args.network.now).declared.procedures) c.requires.now (omega (arith, c.requires.there, c.requires.all))
    (λ d. kept_instance (wiring c.args.network.now) c.instances.result.now c.args.number c.index-instances-number.result d c.instances.ensures.instances
    (omega (arith, c.requires.there, c.requires.all)) c.index-instances-number.is) c.index-now-instance.result

read_before : (g : given.Over) (c : goal.After-index-before-instance g) →
    c.index-before-instance.result ≡ info_at c.args.before.now (attachment c.index-instances-number.result).instance.output
read_before g c =
    c.index-before-instance.is ∙ output_read (wiring c.args.network.now) c.args.network.now.well c.args.before.now (wiring c.args.network.now).declared.procedures c.args.number
    (attachment c.index-instances-number.result) (λ i. (wiring c.args.network.now).declared.procedures) c.requires.before (omega (arith, c.requires.there, c.requires.all))
    (λ d. kept_instance (wiring c.args.network.now) c.instances.result.now c.args.number c.index-instances-number.result d c.instances.ensures.instances
    (omega (arith, c.requires.there, c.requires.all)) c.index-instances-number.is) c.index-before-instance.result

pub implies-requires : goal.implies-requires
implies-requires g c =
    ap kind_of (read_now g c)
    ∙ output_kinds (wiring c.args.network.now) c.args.now.now c.args.before.now c.requires.now c.requires.before (attachment c.index-instances-number.result).instance.output
    ∙ sym (ap kind_of (read_before g c))

pub returns-then-was_visible-number : goal.returns-then-was_visible-number
returns-then-was_visible-number g c =
    let network = wiring c.args.network.now in
    let item = attachment c.index-instances-number.result in
    let below : c.args.number < length network.attached = omega (arith, c.requires.there, c.requires.all) in
    let is : (d : Attached) → attached_no network c.args.number d ≡ item =
    λ d. kept_instance network c.instances.result.now c.args.number c.index-instances-number.result d c.instances.ensures.instances below c.index-instances-number.is in
    let now_is : c.index-now-instance.result ≡ info_at c.args.now.now item.instance.output =
    c.index-now-instance.is ∙ output_read network c.args.network.now.well c.args.now.now network.declared.procedures c.args.number item
    (λ i. network.declared.procedures) c.requires.now below is c.index-now-instance.result in
    let before_is : c.index-before-instance.result ≡ info_at c.args.before.now item.instance.output =
    c.index-before-instance.is ∙ output_read network c.args.network.now.well c.args.before.now network.declared.procedures c.args.number item
    (λ i. network.declared.procedures) c.requires.before below is c.index-before-instance.result in (
      λ holds. stays_met network c.args.was_visible.now c.args.before.now c.args.now.now c.args.number item is c.index-now-instance.result c.index-before-instance.result
          now_is before_is c.if-was_visible-number.true (c.implies.ensures.0 holds),
      λ met. c.implies.ensures.1 (met_implies network c.args.was_visible.now c.args.before.now c.args.now.now c.args.number item is c.index-now-instance.result
          c.index-before-instance.result now_is before_is met),
    )

pub returns-else-was_visible-number : goal.returns-else-was_visible-number
returns-else-was_visible-number g c = (λ holds. let wrong = holds in absurd (cc), λ met. let shown = met.visible in let hidden = c.if-was_visible-number.false in absurd (cc))
