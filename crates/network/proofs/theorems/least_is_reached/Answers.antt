-- The lemma of the same name.
use Rattle.network.proofs.Least.{least_is_reached}
use Rattle.network.proofs.theorems.least_is_reached.Goals as goal

pub returns : goal.returns
returns c = least_is_reached
