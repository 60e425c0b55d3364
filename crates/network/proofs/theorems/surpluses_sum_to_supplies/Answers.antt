-- `surpluses_sum_to_supplies` asserts `conservation`.
use Rattle.network.proofs.Cuts.{conservation}
use Rattle.network.proofs.theorems.surpluses_sum_to_supplies.Goals as goal

pub returns : goal.returns
returns c = conservation
