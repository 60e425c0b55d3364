-- No place of the array is set.
use Rattle.std.proofs.Common.{◌≡◌, ℕ, zero, suc, false, get_or, replicate, refl}
use Rattle.flow.proofs.sets.NodeSet.empty.Goals as goal

none_of : (n v : ℕ) → get_or (replicate n false) v false ≡ false
none_of zero v = refl
none_of (suc n) zero = refl
none_of (suc n) (suc v) = none_of n v

pub returns : goal.returns
returns c = λ v. none_of 64 v
