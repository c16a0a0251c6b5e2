use Rattle.std.proofs.Common.{◌≡◌, List, get_or, ap, ◌∙◌, subst}
use Rattle.std.specs.FinSet.{empty}
use Rattle.std.proofs.lemmas.List.{get_or_default}
use Rattle.pw_info.specs.Information.{Implies}
use Rattle.pw_premises.specs.Premises.{Premises}
use Rattle.pw_cells.specs.Cells.{fact_on, kept_in}
use Rattle.pw_settle.specs.Settled.{support_at}
use Rattle.pw_settle.specs.inside.Known.{Keeps}
use Rattle.pw_settle.proofs.kept_news.keep_on.Given as given
use Rattle.pw_settle.proofs.kept_news.keep_on.Goals as goal
use Rattle.pw_settle.proofs.kept_news.keep_on.Goals.{After-index-narrow-place}

-- the premises are those that are listed
listed : (g : given.Over) (c : After-index-narrow-place g) → c.index-narrow-place.result ≡ support_at c.args.supports.now c.args.cell
listed g c =
    c.index-narrow-place.is ∙ ap (λ (l : List Premises). get_or l c.args.cell c.index-narrow-place.result) c.in-Some.ensures
    ∙ get_or_default c.args.supports.now c.args.cell c.index-narrow-place.result empty c.requires.listed

pub keep_news-requires-clause-news : goal.keep_news-requires-clause-news
keep_news-requires-clause-news g c said =
    c.requires.unsaid (subst (λ (p : Premises). Implies (kept_in c.args.store.now c.args.cell p) c.args.info.now) (listed g c) said)

pub returns-in-Some-clause-kept : goal.returns-in-Some-clause-kept
returns-in-Some-clause-kept g c =
    subst (λ (p : Premises). Keeps c.args.cell (fact_on c.args.info.now p) c.args.store.now c.keep_news.new.self)
    (listed g (goal.at.returns-in-Some-clause-kept g c).After-index-narrow-place)
    (record {
      told = c.keep_news.ensures.told;
      kept = c.in_ok-keep_news.ensures.kept;
      assimilates = c.in_ok-keep_news.ensures.assimilates;
      others = c.keep_news.ensures.others;
      kinds = c.keep_news.ensures.kinds;
      remembers = c.keep_news.ensures.remembers;
      continues = c.keep_news.ensures.continues;
    })

pub returns-clause-kept : goal.returns-clause-kept
returns-clause-kept g c =
    subst (λ (p : Premises). Keeps c.args.cell (fact_on c.args.info.now p) c.args.store.now c.keep.new.self) c.get.ensures
    (record {
      told = c.keep.ensures.told;
      kept = c.in_ok-keep.ensures.kept;
      assimilates = c.in_ok-keep.ensures.assimilates;
      others = c.keep.ensures.others;
      kinds = c.keep.ensures.kinds;
      remembers = c.keep.ensures.remembers;
      continues = c.keep.ensures.continues;
    })
