use Rattle.std.proofs.Common.{◌≡◌, sym, ap, ◌∙◌}
use Rattle.std.proofs.lemmas.Option.{IfSome_then}
use Rattle.pw_info.specs.Information.{kind_of}
use Rattle.pw_facts.specs.declared.fact.Fact.{Fact}
use Rattle.pw_facts.proofs.Merges.{merge_rests, merge_shows}
use Rattle.pw_cells.specs.Cells.{fact_on}
use Rattle.pw_network.specs.Wiring.{wiring}
use Rattle.pw_settle.proofs.AsideStarts.{cell_there, earlier_kind, kept_found, merged_found}
use Rattle.pw_settle.proofs.KeptFacts.{kind_there}
use Rattle.pw_settle.proofs.settling_aside.start_narrow.Goals as goal

pub returns-then-not-is_within-clause-found : goal.returns-then-not-is_within-clause-found
returns-then-not-is_within-clause-found g c =
    IfSome_then c.kept_narrow.result c.kept_narrow.ensures.kept
    (λ fact is. kept_found (wiring c.args.network.now) c.args.store.now c.requires.start.sound.kinds c.args.worldview.now c.args.cell
    fact.info fact.support is.info is.within is.larger is.told)

pub merged_narrow-requires : goal.merged_narrow-requires
merged_narrow-requires g c =
    let network = wiring c.args.network.now in
    ap kind_of c.in_ok-earlier.ensures.info
    ∙ earlier_kind network c.args.store.now c.requires.start.sound.kinds c.args.worldview.now c.args.cell c.args.network.now.well c.args.before.now c.requires.start.settled
    (cell_there network c.args.store.now c.args.cell c.requires.start.sound.kinds c.requires.cell)
    ∙ sym (kind_there network c.args.store.now c.requires.start.sound.kinds c.args.cell) ∙ sym c.in_ok-kept.ensures.kept.kind

pub returns-clause-found : goal.returns-clause-found
returns-clause-found g c =
    let network = wiring c.args.network.now in
    let earlier : Fact = fact_on c.in_ok-earlier.earlier.info c.in_ok-earlier.earlier.support in
    let kept : Fact = fact_on c.in_ok-kept.kept.info c.in_ok-kept.kept.support in
    let merge : Fact = fact_on c.merged_narrow.result.info c.merged_narrow.result.support in
    let same_kind : kind_of earlier.info ≡ kind_of kept.info =
    ap kind_of c.in_ok-earlier.ensures.info
    ∙ earlier_kind network c.args.store.now c.requires.start.sound.kinds c.args.worldview.now c.args.cell c.args.network.now.well c.args.before.now c.requires.start.settled
    (cell_there network c.args.store.now c.args.cell c.requires.start.sound.kinds c.requires.cell)
    ∙ sym (kind_there network c.args.store.now c.requires.start.sound.kinds c.args.cell) ∙ sym c.in_ok-kept.ensures.kept.kind in
    merged_found network c.args.store.now c.requires.start.sound.kinds c.args.worldview.now c.args.cell c.args.network.now.well c.args.before.now c.requires.start.settled
    (cell_there network c.args.store.now c.args.cell c.requires.start.sound.kinds c.requires.cell)
    earlier.info earlier.support c.in_ok-earlier.ensures.info c.in_ok-earlier.ensures.support
    (sym c.is_within.ensures.subset ∙ c.if-not-is_within.false)
    kept merge
    (kept_found network c.args.store.now c.requires.start.sound.kinds c.args.worldview.now c.args.cell
    kept.info kept.support c.in_ok-kept.ensures.kept.info c.in_ok-kept.ensures.kept.within c.in_ok-kept.ensures.kept.larger c.in_ok-kept.ensures.kept.told)
    c.merged_narrow.ensures (λ v inside. merge_shows earlier kept merge v same_kind c.merged_narrow.ensures inside)
    (merge_rests earlier kept merge c.merged_narrow.ensures)
