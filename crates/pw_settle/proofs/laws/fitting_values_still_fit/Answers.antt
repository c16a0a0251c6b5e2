use Rattle.pw_settle.proofs.FittingLaws.{fits_added, fits_more, fits_wider}
use Rattle.pw_settle.proofs.laws.fitting_values_still_fit.Goals as goal

pub returns-clause-attached : goal.returns-clause-attached
returns-clause-attached g = fits_wider

pub returns-clause-added : goal.returns-clause-added
returns-clause-added g = fits_added

pub returns-clause-kept : goal.returns-clause-kept
returns-clause-kept g = fits_more
