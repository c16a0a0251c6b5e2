use Rattle.pw_info.proofs.NameTests.{exact}
use Rattle.pw_info.proofs.laws.name_test_is_exact.Goals as goal

pub returns : goal.returns
returns c = exact
