use Rattle.pw_standard.proofs.Readings.{standard_in, over_declaration, reported}
use Rattle.pw_standard.proofs.declaration.ReadingOverRegistry.over.Goals as goal

pub over-requires-clause-standard : goal.over-requires-clause-standard
over-requires-clause-standard g c = standard_in _ _ _ c.requires c.in-Ok.ensures.ok

pub returns : goal.returns
returns g c = over_declaration _ _ _ c.requires c.in-Ok.ensures.ok _ _ c.in-Ok.ensures.prelude c.over.ensures

pub returns-in-Err : goal.returns-in-Err
returns-in-Err g c = reported _ _ _ c.requires c.in-Err.ensures.err
