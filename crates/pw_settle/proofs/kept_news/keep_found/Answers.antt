use Rattle.std.proofs.Common.{◌≡◌, ◌<◌, ℕ, length, refl, sym, ap, ◌∙◌, subst, arith}
use Rattle.std.proofs.lemmas.List.{get_or_default, length-map}
use Rattle.pw_info.specs.declared.kind.Kind.TheVariants as kinds
use Rattle.pw_info.specs.declared.info.Info.{Info}
use Rattle.pw_info.specs.Information.{kind_of, nothing}
use Rattle.pw_cells.specs.Cells.{Cell, Store, kept_in}
use Rattle.pw_network.specs.Wiring.{wiring}
use Rattle.pw_settle.specs.Settled.{info_at, support_at}
use Rattle.pw_settle.specs.Sound.{RestsUpstream}
use Rattle.pw_settle.proofs.KeptFacts.{also_implies, implies_also, kind-kept, kind_there}
use Rattle.pw_settle.proofs.KeptFound.{AreKeptTo, all_kept, kept_one, kept_passed, unsaid_found}
use Rattle.pw_settle.proofs.kept_news.keep_found.Given as given
use Rattle.pw_settle.proofs.kept_news.keep_found.Goals as goal
use Rattle.pw_settle.proofs.kept_news.keep_found.Goals.{After-index-in-loop-cell, After-index-then-not-implies, then-not-implies+in_ok-keep_on, else-not-implies}

-- the cell is one of the store's
there : (g : given.Over) (c : After-index-in-loop-cell g) → c.loop-cell.cell < length c.args.store.now.cells
there g c = omega (arith, c.loop-cell-test.true, c.loop-cell.auto.cell-end, c.cells-cell-end.ensures)

-- what is known of it, and what was found
known_is : (g : given.Over) (c : After-index-in-loop-cell g) → c.index.result.now ≡ info_at c.args.known.now.infos.items c.loop-cell.cell
known_is g c =
    c.index.ensures ∙ get_or_default c.args.known.now.infos.items c.loop-cell.cell c.index.result.now (nothing kinds.Interval)
    (omega (arith, there g c, c.requires.kept.many))

found_many : (g : given.Over) (c : After-index-in-loop-cell g) → c.loop-cell.cell < length c.args.found.now.infos.items
found_many g c =
    omega (arith, there g c, c.requires.found.many, ap length c.requires.kinds, length-map c.args.store.now.cells (λ (x : Cell). x.kind))

found_is : (g : given.Over) (c : After-index-in-loop-cell g) → c.index-in-loop-cell.result.now ≡ info_at c.args.found.now.infos.items c.loop-cell.cell
found_is g c =
    c.index-in-loop-cell.ensures ∙ get_or_default c.args.found.now.infos.items c.loop-cell.cell c.index-in-loop-cell.result.now (nothing kinds.Interval) (found_many g c)

pub loop-cell-preserved : goal.loop-cell-preserved
loop-cell-preserved g c =
    let d = (goal.at.loop-cell-preserved g c).After-index-in-loop-cell in
    let network = wiring c.args.network.now in
    let cell : ℕ = c.loop-cell.cell in
    elim c.if-not-implies.branch [
      | then-not-implies+in_ok-keep_on b ↦ rw (b.store-is) (
          record {
            kept = kept_one network c.args.store.now c.requires.kinds c.args.worldview.now c.args.known.now.infos.items c.args.known.now.supports c.requires.kept
                c.args.found.now.infos.items c.args.found.now.supports c.requires.found c.requires.more c.loop-cell.store cell (there g d) c.loop-cell.invariant.kept
                b.keep_on.new.store (record { info = b.index-then-not-implies.result.now; support = support_at c.args.found.now.supports cell })
                (b.index-then-not-implies.ensures ∙ get_or_default c.args.found.now.infos.items cell b.index-then-not-implies.result.now (nothing kinds.Interval) (found_many g d))
                refl b.in_ok-keep_on.ensures.kept;
          })
      | else-not-implies b ↦ rw (b.store-is) (
          record {
            kept = kept_passed network c.args.store.now c.requires.kinds c.args.worldview.now c.args.known.now.infos.items c.args.known.now.supports c.requires.kept
                c.args.found.now.infos.items c.args.found.now.supports c.requires.found c.requires.more c.loop-cell.store cell (there g d) c.loop-cell.invariant.kept
                (also_implies (info_at c.args.found.now.infos.items cell) c.index.result.now (info_at c.args.known.now.infos.items cell) (known_is g d)
                (implies_also c.index.result.now c.index-in-loop-cell.result.now (info_at c.args.found.now.infos.items cell) (found_is g d)
                (c.implies.ensures.0 b.if-not-implies.false)));
          })
    ]

pub implies-requires : goal.implies-requires
implies-requires g c =
    let network = wiring c.args.network.now in
    let cell : ℕ = c.loop-cell.cell in
    ap kind_of (known_is g c ∙ c.requires.kept.infos_are cell) ∙ kind-kept c.args.store.now cell c.args.worldview.now
    ∙ kind_there network c.args.store.now c.requires.kinds cell ∙ sym (c.requires.found.each cell).kind ∙ sym (ap kind_of (found_is g c))

pub returns-in_err-keep_on-clause-upstream : goal.returns-in_err-keep_on-clause-upstream
returns-in_err-keep_on-clause-upstream g c given rests lie =
    subst (RestsUpstream (wiring c.args.network.now) given) (sym {A = Store} c.in_err-keep_on.ensures.refused) (c.loop-cell.invariant.kept.upstream given rests lie)

pub returns-clause-kept : goal.returns-clause-kept
returns-clause-kept g c =
    let last : c.loop-cell.cell ≡ length c.args.store.now.cells =
    omega (arith, c.loop-cell-test.false, c.loop-cell.auto.cell-end, c.cells-cell-end.ensures) in
    all_kept (wiring c.args.network.now) c.args.store.now c.requires.kinds c.args.worldview.now c.args.known.now.infos.items c.args.known.now.supports c.requires.kept
    c.args.found.now.infos.items c.args.found.now.supports c.requires.found c.requires.more c.loop-cell.store
    (subst (λ (n : ℕ). AreKeptTo (wiring c.args.network.now) c.args.store.now c.args.worldview.now c.args.found.now.infos.items c.args.found.now.supports n c.loop-cell.store) last
    c.loop-cell.invariant.kept)

-- what was found, as it is kept
kept_is : (g : given.Over) (c : After-index-then-not-implies g) → c.index-then-not-implies.result.now ≡ info_at c.args.found.now.infos.items c.loop-cell.cell
kept_is g c =
    c.index-then-not-implies.ensures ∙ get_or_default c.args.found.now.infos.items c.loop-cell.cell c.index-then-not-implies.result.now (nothing kinds.Interval)
    (found_many g (goal.at.keep_on-requires-clause-kind g c).After-index-in-loop-cell)

pub keep_on-requires-clause-kind : goal.keep_on-requires-clause-kind
keep_on-requires-clause-kind g c =
    ap kind_of (kept_is g c) ∙ (c.requires.found.each c.loop-cell.cell).kind
    ∙ sym (kind_there (wiring c.args.network.now) c.loop-cell.store (c.loop-cell.invariant.kept.grows.kinds ∙ c.requires.kinds) c.loop-cell.cell)

pub keep_on-requires-clause-unsaid : goal.keep_on-requires-clause-unsaid
keep_on-requires-clause-unsaid g c said =
    let d = (goal.at.keep_on-requires-clause-unsaid g c).After-index-in-loop-cell in
    let cell : ℕ = c.loop-cell.cell in
    let now : Info = info_at c.args.found.now.infos.items cell in
    unsaid_found (wiring c.args.network.now) c.args.store.now c.requires.kinds c.args.worldview.now c.args.known.now.infos.items c.args.known.now.supports
    c.requires.kept c.args.found.now.infos.items c.args.found.now.supports c.requires.found c.requires.more c.loop-cell.store cell (there g d)
    c.loop-cell.invariant.kept
    (λ known.
    let yes = c.implies.ensures.1 (also_implies c.index-in-loop-cell.result.now (info_at c.args.known.now.infos.items cell) c.index.result.now (sym (known_is g d))
    (implies_also (info_at c.args.known.now.infos.items cell) now c.index-in-loop-cell.result.now (sym (found_is g d)) known)) in
    absurd (cc))
    (implies_also (kept_in c.loop-cell.store cell (support_at c.args.found.now.supports cell)) c.index-then-not-implies.result.now now (kept_is g c) said)
