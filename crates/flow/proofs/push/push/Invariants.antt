-- The amount is still to be brought from the node at hand to the target; each step back comes to a node that was reached earlier.
use Rattle.flow.specs.Labels.{label_of}
use Rattle.flow.proofs.Pushes.{Pushing, order_of}
use Rattle.flow.proofs.push.push.Given as goal

abbrev pub invariant-loop-step : goal.invariant-loop-step
invariant-loop-step l = Pushing l.graph l.spans l.initial.loads l.labels l.target l.by l.loads l.node

abbrev pub decreases-loop-step : goal.decreases-loop-step
decreases-loop-step l = order_of (label_of l.labels l.node)
