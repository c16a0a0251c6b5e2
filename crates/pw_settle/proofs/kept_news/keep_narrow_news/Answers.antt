use Rattle.pw_settle.proofs.kept_news.keep_narrow_news.Goals as goal

pub returns : goal.returns
returns g c =
    record {
      kept = record {
        keeps = record {
          told = c.keep_news.ensures.told;
          kept = c.in_ok-keep_news.ensures.kept;
          assimilates = c.in_ok-keep_news.ensures.assimilates;
          others = c.keep_news.ensures.others;
          kinds = c.keep_news.ensures.kinds;
          remembers = c.keep_news.ensures.remembers;
          continues = c.keep_news.ensures.continues;
        };
        takes_in = c.take_in_narrow.ensures;
      };
      refused = tt;
    }
