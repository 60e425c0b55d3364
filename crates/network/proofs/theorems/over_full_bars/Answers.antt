-- The lemma of the same name.
use Rattle.network.proofs.Cuts.{over_full_bars}
use Rattle.network.proofs.theorems.over_full_bars.Goals as goal

pub returns : goal.returns
returns c = over_full_bars
