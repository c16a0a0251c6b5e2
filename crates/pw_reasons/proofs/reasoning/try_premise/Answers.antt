use Rattle.std.proofs.Common.{sym, ap, ◌∙◌}
use Rattle.pw_info.specs.Information.{kind_of}
use Rattle.pw_network.specs.Wiring.{wiring}
use Rattle.pw_settle.specs.Settled.{info_at}
use Rattle.pw_reasons.proofs.EnoughLemmas.{enough_without, goes, remains}
use Rattle.pw_reasons.proofs.ValueGrows.{value_grows}
use Rattle.pw_reasons.proofs.reasoning.try_premise.Goals as goal

pub returns-then-not-contains-clause-enough : goal.returns-then-not-contains-clause-enough
returns-then-not-contains-clause-enough g c =
    enough_without (wiring c.args.network.now) c.args.store.now c.args.cell (info_at c.args.settled.now.infos c.args.cell) c.args.left.premises
    c.args.left.support c.args.premise c.requires.enough (sym c.if-not-contains.ensures.member) c.without-premises.result
    c.without-premises.ensures.removed

pub returns-then-not-contains-clause-left : goal.returns-then-not-contains-clause-left
returns-then-not-contains-clause-left g c =
    goes (wiring c.args.network.now) c.args.store.now c.args.cell
    (value_grows (wiring c.args.network.now) c.args.store.now c.args.network.now.well c.requires.sound.kinds c.args.cell) c.args.settled.now.worldview
    c.args.left.premises c.without-premises.result c.args.premise c.without-premises.ensures.removed c.requires.part
    (info_at c.args.settled.now.infos c.args.cell) (c.requires.settled.values c.args.cell c.requires.cell) c.args.left.support
    (enough_without (wiring c.args.network.now) c.args.store.now c.args.cell (info_at c.args.settled.now.infos c.args.cell) c.args.left.premises
    c.args.left.support c.args.premise c.requires.enough (sym c.if-not-contains.ensures.member) c.without-premises.result
    c.without-premises.ensures.removed)

pub support_within-requires-clause-kind : goal.support_within-requires-clause-kind
support_within-requires-clause-kind g c =
    let grows = value_grows (wiring c.args.network.now) c.args.store.now c.args.network.now.well c.requires.sound.kinds c.args.cell in
    grows.kinds c.without-premises.result c.args.settled.now.worldview
    ∙ sym (ap kind_of (c.value-info.ensures.info ∙ c.requires.settled.values c.args.cell c.requires.cell))

pub returns-in-Some-clause-left : goal.returns-in-Some-clause-left
returns-in-Some-clause-left g c =
    goes (wiring c.args.network.now) c.args.store.now c.args.cell
    (value_grows (wiring c.args.network.now) c.args.store.now c.args.network.now.well c.requires.sound.kinds c.args.cell) c.args.settled.now.worldview
    c.args.left.premises c.without-premises.result c.args.premise c.without-premises.ensures.removed c.requires.part c.value-info.result.info
    (c.value-info.ensures.info ∙ c.requires.settled.values c.args.cell c.requires.cell) c.in-Some.support
    (rw c.in-Some.is at c.in_ok-support.ensures.some)

pub returns-in-None-clause-left : goal.returns-in-None-clause-left
returns-in-None-clause-left g c =
    remains (wiring c.args.network.now) c.args.store.now c.args.cell c.args.settled.now.worldview c.args.left.premises
    c.without-premises.result c.args.premise c.without-premises.ensures.removed c.value-info.result.info
    (c.value-info.ensures.info ∙ c.requires.settled.values c.args.cell c.requires.cell) (rw c.in-None.is at c.in_ok-support.ensures.none)
