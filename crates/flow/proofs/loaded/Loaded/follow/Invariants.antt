-- The labels stay sound, and the walk comes to arcs of the graph alone.
use Rattle.std.proofs.Common.{◌≤◌, length}
use Rattle.flow.specs.Labels.{LabelledOn}
use Rattle.flow.specs.Near.{past}
use Rattle.flow.specs.Queues.{Queued}
use Rattle.flow.proofs.loaded.Loaded.follow.Given as goal

abbrev pub invariant-loop-arc : goal.invariant-loop-arc
invariant-loop-arc l =
    (goal.iterator-loop-arc).can_next l.arc-iterator
    × (goal.iterator-loop-arc).is_finite l.arc-iterator
    × (past l.arc-iterator.ahead ≤ length l.self.graph.arcs.now)
    × LabelledOn l.self l.labels
    × Queued (length l.self.graph.nodes.now) l.labels l.queue.items
