-- The lemma of the same name.
use Rattle.network.proofs.Duality.{equal_exactly_when_best}
use Rattle.network.proofs.theorems.equal_exactly_when_best.Goals as goal

pub returns : goal.returns
returns c = equal_exactly_when_best
