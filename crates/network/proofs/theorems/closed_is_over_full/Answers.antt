-- The lemma of the same name.
use Rattle.network.proofs.Cuts.{closed_is_over_full}
use Rattle.network.proofs.theorems.closed_is_over_full.Goals as goal

pub returns : goal.returns
returns c = closed_is_over_full
