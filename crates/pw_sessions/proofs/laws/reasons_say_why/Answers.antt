use Rattle.pw_reasons.proofs.ReasonLemmas.{reason_needed, reason_same}
use Rattle.pw_sessions.specs.Values.{cell_value_under}
use Rattle.pw_sessions.specs.Entries.{entries_before}
use Rattle.pw_sessions.proofs.GrowingValues.{values_grow}
use Rattle.pw_sessions.proofs.laws.reasons_say_why.Goals as goal

pub returns-clause-grows : goal.returns-clause-grows
returns-clause-grows c = values_grow

pub returns-clause-same : goal.returns-clause-same
returns-clause-same c = λ d entries beliefs cell. reason_same (cell_value_under d entries cell) beliefs

pub returns-clause-needed : goal.returns-clause-needed
returns-clause-needed c = λ d before beliefs cell premise well named here few has.
    reason_needed (cell_value_under d (entries_before before) cell) beliefs (values_grow d before cell well named here) premise few has
