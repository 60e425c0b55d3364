-- The arcs before have their spans.
use Rattle.std.proofs.Common.{◌≡◌, ℕ, ◌<◌, map, pos}
use Rattle.cost.specs.Meaning.{last}
use Rattle.network.specs.Records.{cost_of}
use Rattle.flow.specs.Spans.{low_of, high_of}
use Rattle.search.proofs.networks.Network.widen.Given as goal

abbrev pub invariant-loop-a : goal.invariant-loop-a
invariant-loop-a g l =
    (k : ℕ) → k < l.a
    → (low_of l.spans k ≡ pos (cost_of (map g.C.Cost.meaning l.self.costs.now) k).first) × (high_of l.spans k ≡ pos (last (cost_of (map g.C.Cost.meaning l.self.costs.now) k)))
