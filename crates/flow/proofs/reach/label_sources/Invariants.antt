-- The nodes before have their labels.
use Rattle.std.proofs.Common.{◌≡◌, ℕ, ◌<◌, length}
use Rattle.network.specs.Records.{numbers}
use Rattle.flow.specs.Labels.{label_of, source}
use Rattle.flow.proofs.reach.label_sources.Given as goal

abbrev pub invariant-loop-v : goal.invariant-loop-v
invariant-loop-v l =
    (length l.label-items ≡ length l.graph.nodes.now)
    × ((k : ℕ) → k < l.v → label_of l.label-items k ≡ source (numbers l.surpluses k))
