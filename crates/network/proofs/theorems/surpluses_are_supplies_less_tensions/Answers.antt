-- `surpluses_are_supplies_less_tensions` asserts `identity`.
use Rattle.network.proofs.Balance.{identity}
use Rattle.network.proofs.theorems.surpluses_are_supplies_less_tensions.Goals as goal

pub returns : goal.returns
returns c = identity
