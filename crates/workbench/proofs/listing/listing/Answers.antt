use Rattle.workbench.proofs.Listings.{listed, on_ok, told_memory}
use Rattle.workbench.proofs.listing.listing.Goals as goal

pub returns-in-None-clause-ok : goal.returns-in-None-clause-ok
returns-in-None-clause-ok g c = on_ok c.list_text.result (listed _ _ c.in-None.ensures.none)

pub returns-in-None-clause-err : goal.returns-in-None-clause-err
returns-in-None-clause-err g c = told_memory _ _ c.list_text.result c.in-None.ensures.none c.list_text.ensures.err
