-- The charge so far is the sum of the amounts before.
use Rattle.std.proofs.Common.{◌≡◌, map, length}
use Rattle.network.specs.Sums.{sum}
use Rattle.network.specs.Records.{amount_of}
use Rattle.network.proofs.charge.charge_of.Given as goal

abbrev pub invariant-loop-cost : goal.invariant-loop-cost
invariant-loop-cost g l =
    (goal.iterator-loop-cost g).can_next l.cost-iterator × (goal.iterator-loop-cost g).is_finite l.cost-iterator × (l.charge ≡ sum (length l.yielded) (amount_of (map g.C.Cost.meaning l.costs) l.loads))
