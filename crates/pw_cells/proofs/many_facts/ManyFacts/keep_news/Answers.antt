use Rattle.std.proofs.Common.{◌≡◌, refl, sym, ◌∙◌, ap}
use Rattle.pw_cells.specs.Cells.{Cell, fact_on}
use Rattle.pw_cells.specs.inside.Widths.{cell_in}
use Rattle.pw_cells.proofs.CellChanges.{is_news_so, keeps_then, still_then}
use Rattle.pw_cells.proofs.many_facts.ManyFacts.keep_news.Goals as goal

pub held-requires : goal.held-requires
held-requires g c =
    let cell : c.in-Intervals.lists ≡ c.args.self.now = ap cell_in (sym c.in-Intervals.is) ∙ c.self.view_is in
    c.requires.kind ∙ sym (ap (λ (x : Cell). x.kind) cell)

pub keep_news-requires : goal.keep_news-requires
keep_news-requires g c =
    let fact = fact_on c.args.info.now c.args.support in
    let cell : c.in-Intervals.lists ≡ c.args.self.now = ap cell_in (sym c.in-Intervals.is) ∙ c.self.view_is in
    is_news_so fact c.held.result _ _ cell c.held.ensures c.requires

pub returns-in-Intervals-clause-kept : goal.returns-in-Intervals-clause-kept
returns-in-Intervals-clause-kept g c =
    let fact = fact_on c.args.info.now c.args.support in
    let cell : c.in-Intervals.lists ≡ c.args.self.now = ap cell_in (sym c.in-Intervals.is) ∙ c.self.view_is in
    keeps_then c.keep_news.result fact c.held.result _ _ c.keep_news.new.self cell c.held.ensures c.keep_news.ensures.kept

pub returns-in-Intervals-clause-err : goal.returns-in-Intervals-clause-err
returns-in-Intervals-clause-err g c =
    let cell : c.in-Intervals.lists ≡ c.args.self.now = ap cell_in (sym c.in-Intervals.is) ∙ c.self.view_is in
    still_then c.keep_news.result _ _ c.keep_news.new.self cell c.keep_news.ensures.err

pub held-requires-in-Narrow : goal.held-requires-in-Narrow
held-requires-in-Narrow g c =
    let cell : c.in-Narrow.lists ≡ c.args.self.now = ap cell_in (sym c.in-Narrow.is) ∙ c.self.view_is in
    c.requires.kind ∙ sym (ap (λ (x : Cell). x.kind) cell)

pub keep_news-requires-in-Narrow : goal.keep_news-requires-in-Narrow
keep_news-requires-in-Narrow g c =
    let fact = fact_on c.args.info.now c.args.support in
    let cell : c.in-Narrow.lists ≡ c.args.self.now = ap cell_in (sym c.in-Narrow.is) ∙ c.self.view_is in
    is_news_so fact c.held-in-Narrow.result _ _ cell c.held-in-Narrow.ensures c.requires

pub returns-in-Narrow-clause-kept : goal.returns-in-Narrow-clause-kept
returns-in-Narrow-clause-kept g c =
    let fact = fact_on c.args.info.now c.args.support in
    let cell : c.in-Narrow.lists ≡ c.args.self.now = ap cell_in (sym c.in-Narrow.is) ∙ c.self.view_is in
    keeps_then c.keep_news-in-Narrow.result fact c.held-in-Narrow.result _ _ c.keep_news-in-Narrow.new.self cell c.held-in-Narrow.ensures c.keep_news-in-Narrow.ensures.kept

pub returns-in-Narrow-clause-err : goal.returns-in-Narrow-clause-err
returns-in-Narrow-clause-err g c =
    let cell : c.in-Narrow.lists ≡ c.args.self.now = ap cell_in (sym c.in-Narrow.is) ∙ c.self.view_is in
    still_then c.keep_news-in-Narrow.result _ _ c.keep_news-in-Narrow.new.self cell c.keep_news-in-Narrow.ensures.err

pub keep_wide_copy-requires : goal.keep_wide_copy-requires
keep_wide_copy-requires g c =
    let fact = fact_on c.args.info.now c.args.support in
    is_news_so fact fact _ _ c.self.view_is refl c.requires

pub returns-in-Wide-clause-kept : goal.returns-in-Wide-clause-kept
returns-in-Wide-clause-kept g c =
    let fact = fact_on c.args.info.now c.args.support in
    keeps_then c.keep_wide_copy.result fact fact _ _ c.keep_wide_copy.new.self c.self.view_is refl c.keep_wide_copy.ensures.kept

pub returns-in-Wide-clause-err : goal.returns-in-Wide-clause-err
returns-in-Wide-clause-err g c = still_then c.keep_wide_copy.result _ _ c.keep_wide_copy.new.self c.self.view_is c.keep_wide_copy.ensures.err
