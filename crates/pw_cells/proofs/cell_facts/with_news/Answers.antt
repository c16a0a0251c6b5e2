use Rattle.std.proofs.Common.{refl}
use Rattle.pw_cells.specs.Cells.{fact_on}
use Rattle.pw_cells.proofs.CellChanges.{is_news_so, keeps_so}
use Rattle.pw_cells.proofs.cell_facts.with_news.Goals as goal

pub keep_news-requires : goal.keep_news-requires
keep_news-requires g c =
    let fact = fact_on c.args.info.now c.args.support in
    is_news_so fact fact c.args.many.value c.deref_mut.result.now c.deref_mut.ensures.value refl c.requires

pub returns : goal.returns
returns g c =
    let fact = fact_on c.args.info.now c.args.support in
    keeps_so fact fact c.args.many.value c.deref_mut.result.now c.keep_news.new.self c.deref_mut.ensures.value refl c.in_ok-keep_news.ensures.kept
