-- The spans of the arcs before are narrow, and so are those of the arcs that are not due.
use Rattle.std.proofs.Common.{ℕ, ◌<◌, ◌⊎◌, false, map, length}
use Rattle.std.specs.Fn.{FnReturnsAt}
use Rattle.network.specs.Network.{tension}
use Rattle.network.specs.Graphs.{net_in}
use Rattle.network.specs.Records.{numbers, cost_of}
use Rattle.flow.specs.Spans.{low_of, high_of}
use Rattle.search.specs.Settled.{arc_at}
use Rattle.search.specs.Turns.{Narrow}
use Rattle.search.proofs.networks.Network.narrow.Given as goal

abbrev pub invariant-loop-a : goal.invariant-loop-a
invariant-loop-a g l =
    (goal.iterator-loop-a g).can_next l.a-iterator
    × (goal.iterator-loop-a g).is_finite l.a-iterator
    × ((k : ℕ) → k < length l.self.graph.arcs.now
    → (k < length l.yielded) ⊎ FnReturnsAt g.F.Fn l.due (arc_at l.self.graph.arcs.now k) false
    → Narrow (cost_of (map g.C.Cost.meaning l.self.costs.now) k) (tension (net_in l.self.graph (map g.C.Cost.meaning l.self.costs.now)) (numbers l.prices) k) l.step (low_of l.spans k) (high_of l.spans k))
