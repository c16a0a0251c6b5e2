use Rattle.std.proofs.Common.{◌≡◌, refl, sym, ◌∙◌, ap}
use Rattle.pw_cells.specs.Cells.{fact_on}
use Rattle.pw_cells.specs.inside.Widths.{cell_of}
use Rattle.pw_cells.proofs.CellChanges.{is_news_so, keeps_then, still_then}
use Rattle.pw_cells.proofs.cell_facts.CellFacts.keep_news.Goals as goal

pub keep_news-requires : goal.keep_news-requires
keep_news-requires g c =
    let same : c.deref_mut.result.now ≡ c.args.self.now = c.deref_mut.ensures.value ∙ ap cell_of (sym c.in-Many.is) ∙ c.self.view_is in
    let fact = fact_on c.args.info.now c.args.support in
    is_news_so fact fact _ _ same refl c.requires

pub returns-in-Many-clause-kept : goal.returns-in-Many-clause-kept
returns-in-Many-clause-kept g c =
    let same : c.deref_mut.result.now ≡ c.args.self.now = c.deref_mut.ensures.value ∙ ap cell_of (sym c.in-Many.is) ∙ c.self.view_is in
    let fact = fact_on c.args.info.now c.args.support in
    keeps_then c.keep_news.result fact fact _ _ c.keep_news.new.self same refl c.keep_news.ensures.kept

pub returns-in-Many-clause-err : goal.returns-in-Many-clause-err
returns-in-Many-clause-err g c =
    let same : c.deref_mut.result.now ≡ c.args.self.now = c.deref_mut.ensures.value ∙ ap cell_of (sym c.in-Many.is) ∙ c.self.view_is in
    still_then c.keep_news.result _ _ c.keep_news.new.self same c.keep_news.ensures.err

pub keep_copied_news-requires : goal.keep_copied_news-requires
keep_copied_news-requires g c =
    let fact = fact_on c.args.info.now c.args.support in
    is_news_so fact fact _ _ c.self.view_is refl c.requires

pub returns-clause-kept : goal.returns-clause-kept
returns-clause-kept g c =
    let fact = fact_on c.args.info.now c.args.support in
    keeps_then c.keep_copied_news.result fact fact _ _ c.keep_copied_news.new.self c.self.view_is refl c.keep_copied_news.ensures.kept

pub returns-clause-err : goal.returns-clause-err
returns-clause-err g c = still_then c.keep_copied_news.result _ _ c.keep_copied_news.new.self c.self.view_is c.keep_copied_news.ensures.err
