use Rattle.pw_cells.specs.Cells.{fact_on}
use Rattle.pw_settle.proofs.settling_aside.push_start.Goals as goal

pub returns-in-Some-clause-found : goal.returns-in-Some-clause-found
returns-in-Some-clause-found g c = record {
  fact = fact_on c.in-Some.fact.info c.in-Some.fact.support;
  is = c.in-Some.ensures.found;
  infos_are = c.in_ok-push.ensures.items;
  supports_are = c.in_ok-push_narrow.ensures.ok;
}
