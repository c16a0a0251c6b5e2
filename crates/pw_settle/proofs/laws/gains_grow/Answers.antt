use Rattle.pw_settle.proofs.GrowingGains.{gains_more}
use Rattle.pw_settle.proofs.laws.gains_grow.Goals as goal

pub returns : goal.returns
returns g = gains_more
