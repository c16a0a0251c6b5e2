use Rattle.pw_procs.specs.Registry.{procedures_in}
use Rattle.pw_network.specs.inside.Held.{attachment}
use Rattle.pw_settle.proofs.NewsLemmas.{news_given, none_given}
use Rattle.pw_settle.proofs.propagating.news_on_given.Goals as goal

pub returns : goal.returns
returns g c = record {
  counted = c.procedure_value-info.ensures.counted;
  news = news_given (procedures_in c.args.registry.now) c.args.known.now (attachment c.args.instance.now) c.procedure_value-info.result
      c.procedure_value-info.ensures.says c.procedure_value-info.ensures.kind c.unless_known.result c.unless_known.ensures.some c.unless_known.ensures.news;
  none = none_given (procedures_in c.args.registry.now) c.args.known.now (attachment c.args.instance.now) c.procedure_value-info.result
      c.procedure_value-info.ensures.says c.unless_known.result c.unless_known.ensures.none;
}
