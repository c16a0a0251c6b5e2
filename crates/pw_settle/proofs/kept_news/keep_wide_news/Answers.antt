use Rattle.std.proofs.Common.{inr, subst}
use Rattle.pw_premises.specs.Premises.{Premises}
use Rattle.pw_network.specs.inside.Held.{attachment}
use Rattle.pw_cells.specs.Cells.{fact_on}
use Rattle.pw_settle.specs.inside.Known.{Keeps, TakesIn, news_on}
use Rattle.pw_settle.proofs.TakenIn.{OnErr_more, OnOk_more}
use Rattle.pw_settle.proofs.kept_news.keep_wide_news.Given as given
use Rattle.pw_settle.proofs.kept_news.keep_wide_news.Goals as goal
use Rattle.pw_settle.proofs.kept_news.keep_wide_news.Goals.{After-take_in}

-- the store has kept the news
keeps : (g : given.Over) (c : After-take_in g) →
    Keeps c.args.cell (news_on c.args.supports.now (attachment c.args.instance.now) c.args.info.now) c.args.store.now c.keep.new.self
keeps g c =
    subst (λ (p : Premises). Keeps c.args.cell (fact_on c.args.info.now p) c.args.store.now c.keep.new.self) c.joined_support-support.ensures
    (record {
      told = c.keep.ensures.told;
      kept = c.in_ok-keep.ensures.kept;
      assimilates = c.in_ok-keep.ensures.assimilates;
      others = c.keep.ensures.others;
      kinds = c.keep.ensures.kinds;
      remembers = c.keep.ensures.remembers;
      continues = c.keep.ensures.continues;
    })

-- and where they are taken in, they are so on the same premises
pub returns : goal.returns
returns g c =
    let kept = keeps g (goal.at.returns g c).After-take_in in
    record {
      kept =
          OnOk_more c.take_in.result (λ taken. record {
            keeps = kept;
            takes_in = subst (λ (p : Premises). TakesIn c.args.cell (fact_on c.args.info.now p) c.args.infos.now c.take_in.new.infos
                c.args.supports.now c.take_in.new.supports) c.joined_support-support.ensures taken;
          }) c.take_in.ensures.taken;
      refused = OnErr_more c.take_in.result (λ stays. record { store = inr kept; stays = stays }) c.take_in.ensures.refused;
    }
