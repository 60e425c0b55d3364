use Rattle.cost.proofs.FirstPlace.{first_place_is_first}
use Rattle.cost.proofs.laws.first_place_is_first.Goals as goal

pub returns : goal.returns
returns c = first_place_is_first
