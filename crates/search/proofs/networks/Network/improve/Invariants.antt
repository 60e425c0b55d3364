-- No price is higher than the floor has risen; each turn brings the floor nearer to the charge at the start, or halves the step.
use Rattle.std.proofs.Common.{◌≡◌, ◌+◌, ◌-ℤ◌, nat_abs}
use Rattle.cost.specs.Meaning.{natural}
use Rattle.network.specs.Network.{charge, floor}
use Rattle.network.specs.Records.{numbers}
use Rattle.search.specs.Networks.{network_of}
use Rattle.search.specs.Searches.{IsNarrow}
use Rattle.search.proofs.Climb.{Climbed}
use Rattle.search.proofs.networks.Network.improve.Given as goal

abbrev pub invariant-loop-set : goal.invariant-loop-set
invariant-loop-set g l =
    (l.search.network.now ≡ l.fn.self) × IsNarrow g.C.Cost.meaning l.search × Climbed (network_of g.C.Cost.meaning l.fn.self) (numbers l.search.prices)

abbrev pub decreases-loop-set : goal.decreases-loop-set
decreases-loop-set g l =
    natural (charge (network_of g.C.Cost.meaning l.fn.self) (numbers l.initial.loads) -ℤ floor (network_of g.C.Cost.meaning l.fn.self) (numbers l.search.prices))
    + nat_abs l.search.step
