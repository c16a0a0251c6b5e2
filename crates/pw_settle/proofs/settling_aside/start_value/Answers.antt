use Rattle.std.proofs.Common.{sym, ap, subst, ◌∙◌}
use Rattle.std.specs.FinSet.{is_subset}
use Rattle.pw_info.specs.declared.info.Info.{Info}
use Rattle.pw_info.specs.Information.{kind_of}
use Rattle.pw_premises.specs.Premises.{Premises}
use Rattle.pw_network.specs.Wiring.{wiring}
use Rattle.pw_settle.specs.Settled.{info_at, support_at}
use Rattle.pw_settle.specs.inside.Aside.{IsFound}
use Rattle.pw_settle.proofs.AsideStarts.{cell_there, earlier_found, earlier_kind, kept_found, merged_found}
use Rattle.pw_settle.proofs.KeptFacts.{kind_there}
use Rattle.pw_settle.proofs.settling_aside.start_value.Goals as goal

pub returns-then-not-rests_within-clause-found : goal.returns-then-not-rests_within-clause-found
returns-then-not-rests_within-clause-found g c =
    kept_found (wiring c.args.network.now) c.args.store.now c.requires.start.sound.kinds c.args.worldview.now c.args.cell
    c.kept.result.info c.kept.result.support c.kept.ensures.info c.kept.ensures.within c.kept.ensures.larger c.kept.ensures.told

pub returns-then-is_subset-clause-found : goal.returns-then-is_subset-clause-found
returns-then-is_subset-clause-found g c =
    let network = wiring c.args.network.now in
    let earlier : IsFound network c.args.store.now c.args.worldview.now c.args.cell (info_at c.args.before.now.infos c.args.cell) (support_at c.args.before.now.supports c.args.cell) =
    earlier_found network c.args.store.now c.requires.start.sound.kinds c.args.worldview.now c.args.cell c.args.network.now.well c.args.before.now c.requires.start.settled
    (cell_there network c.args.store.now c.args.cell c.requires.start.sound.kinds c.requires.cell)
    (sym c.rests_within.ensures ∙ c.if-not-rests_within.false)
    (ap (λ (s : Premises). is_subset c.args.worldview.now s) (sym c.worldview.ensures) ∙ sym c.is_subset.ensures.subset ∙ c.if-is_subset.true) in
    subst (λ (i : Info). IsFound network c.args.store.now c.args.worldview.now c.args.cell i c.value-earlier.result.support) (sym c.value-earlier.ensures.info)
    (subst (λ (s : Premises). IsFound network c.args.store.now c.args.worldview.now c.args.cell (info_at c.args.before.now.infos c.args.cell) s) (sym c.value-earlier.ensures.support) earlier)

pub merge_facts-requires : goal.merge_facts-requires
merge_facts-requires g c =
    ap kind_of c.value-earlier.ensures.info
    ∙ earlier_kind (wiring c.args.network.now) c.args.store.now c.requires.start.sound.kinds c.args.worldview.now c.args.cell c.args.network.now.well c.args.before.now c.requires.start.settled
    (cell_there (wiring c.args.network.now) c.args.store.now c.args.cell c.requires.start.sound.kinds c.requires.cell)
    ∙ sym (kind_there (wiring c.args.network.now) c.args.store.now c.requires.start.sound.kinds c.args.cell) ∙ sym c.kept-2.ensures.kind

pub returns-clause-found : goal.returns-clause-found
returns-clause-found g c =
    let network = wiring c.args.network.now in
    merged_found network c.args.store.now c.requires.start.sound.kinds c.args.worldview.now c.args.cell c.args.network.now.well c.args.before.now c.requires.start.settled
    (cell_there network c.args.store.now c.args.cell c.requires.start.sound.kinds c.requires.cell)
    c.value-earlier.result.info c.value-earlier.result.support c.value-earlier.ensures.info c.value-earlier.ensures.support
    (ap (λ (s : Premises). is_subset s c.args.worldview.now) c.value-earlier.ensures.support ∙ sym c.rests_within.ensures ∙ c.if-not-rests_within.false)
    c.kept-2.result c.merge_facts.result
    (kept_found network c.args.store.now c.requires.start.sound.kinds c.args.worldview.now c.args.cell
    c.kept-2.result.info c.kept-2.result.support c.kept-2.ensures.info c.kept-2.ensures.within c.kept-2.ensures.larger c.kept-2.ensures.told)
    c.merge_facts.ensures.rule c.merge_facts.ensures.shows c.merge_facts.ensures.rests
