use Rattle.std.proofs.Common.{refl}
use Rattle.pw_cells.proofs.CellChanges.{is_news_so, keeps_so}
use Rattle.pw_cells.proofs.cell_facts.listed_with.Goals as goal

pub keep_news-requires : goal.keep_news-requires
keep_news-requires g c = is_news_so c.args.fact.now c.args.fact.now c.args.one.now c.in_ok-few.few c.in_ok-few.ensures refl c.requires

pub returns : goal.returns
returns g c = keeps_so c.args.fact.now c.args.fact.now c.args.one.now c.in_ok-few.few c.keep_news.new.self c.in_ok-few.ensures refl c.in_ok-keep_news.ensures.kept
