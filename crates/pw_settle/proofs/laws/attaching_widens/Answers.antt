use Rattle.pw_settle.proofs.WiderNetworks.{wide_attached}
use Rattle.pw_settle.proofs.laws.attaching_widens.Goals as goal

pub returns : goal.returns
returns g = wide_attached
