-- The labels and the queue stay sound.
use Rattle.std.proofs.Common.{length}
use Rattle.flow.specs.Labels.{LabelledOn}
use Rattle.flow.specs.Queues.{Queued}
use Rattle.flow.proofs.loaded.Loaded.explore.Given as goal

abbrev pub invariant-loop-turn : goal.invariant-loop-turn
invariant-loop-turn l =
    LabelledOn l.self l.labels
    × Queued (length l.self.graph.nodes.now) l.labels l.queue.items
