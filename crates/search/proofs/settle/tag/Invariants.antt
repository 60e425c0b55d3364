-- The nodes before have their prices and marks, and the supplies of all are as they were.
use Rattle.std.proofs.Common.{◌≡◌, ℕ, ◌<◌}
use Rattle.network.specs.Records.{numbers}
use Rattle.flow.specs.Sets.{member}
use Rattle.search.specs.Settled.{node_at, SameNodes}
use Rattle.search.proofs.settle.tag.Given as goal

abbrev pub invariant-loop-v : goal.invariant-loop-v
invariant-loop-v l =
    SameNodes l.initial.nodes l.nodes
    × ((k : ℕ) → k < l.v → (node_at l.nodes k).price ≡ numbers l.prices k)
    × ((k : ℕ) → k < l.v → (node_at l.nodes k).marked ≡ member l.set k)
