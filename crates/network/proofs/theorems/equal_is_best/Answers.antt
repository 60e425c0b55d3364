-- The lemma of the same name.
use Rattle.network.proofs.Duality.{equal_is_best}
use Rattle.network.proofs.theorems.equal_is_best.Goals as goal

pub returns : goal.returns
returns c = equal_is_best
