-- The labels stay sound, and each pass leaves fewer nodes unreached.
use Rattle.std.proofs.Common.{length}
use Rattle.flow.specs.Labels.{LabelledOn, unreached}
use Rattle.flow.proofs.loaded.Loaded.reach.Given as goal

abbrev pub invariant-loop-node : goal.invariant-loop-node
invariant-loop-node l = LabelledOn l.self l.labels

abbrev pub decreases-loop-node : goal.decreases-loop-node
decreases-loop-node l = unreached (length l.self.graph.nodes.now) l.labels
