-- `floor_never_passes_charge` asserts `weak_duality`.
use Rattle.network.proofs.Duality.{weak_duality}
use Rattle.network.proofs.theorems.floor_never_passes_charge.Goals as goal

pub returns : goal.returns
returns c = weak_duality
