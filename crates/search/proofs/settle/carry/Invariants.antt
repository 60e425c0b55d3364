-- The arcs before carry their loads, and the ends of all are as they were.
use Rattle.std.proofs.Common.{◌≡◌, ℕ, ◌<◌}
use Rattle.network.specs.Records.{numbers}
use Rattle.search.specs.Settled.{arc_at, SameArcs}
use Rattle.search.proofs.settle.carry.Given as goal

abbrev pub invariant-loop-a : goal.invariant-loop-a
invariant-loop-a l = SameArcs l.initial.arcs l.arcs × ((k : ℕ) → k < l.a → (arc_at l.arcs k).load ≡ numbers l.loads k)
