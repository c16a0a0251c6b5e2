use Rattle.pw_decl.proofs.ExpansionLemmas.{inner_counted}
use Rattle.pw_decl.proofs.ExpansionFits.{expansion_fits, expansion_counted}
use Rattle.pw_decl.proofs.laws.expansion_fits.Goals as goal

pub returns-clause-fits : goal.returns-clause-fits
returns-clause-fits g c d kind = expansion_fits d.procedures kind d.compounds

pub returns-clause-size : goal.returns-clause-size
returns-clause-size g c d kind callable cells inner are takes =
    record {
      instances_are = expansion_counted d.procedures kind d.compounds callable cells inner are takes;
      inner_are = inner_counted d.compounds callable;
    }
