-- The list tells the surpluses, and each round takes something off the positive ones.
use Rattle.std.proofs.Common.{◌≡◌, length}
use Rattle.flow.specs.Within.{Ready}
use Rattle.flow.specs.Surpluses.{Tells, excess}
use Rattle.flow.proofs.meet.meet.Given as goal

abbrev pub invariant-loop-over : goal.invariant-loop-over
invariant-loop-over l = Ready l.graph l.spans l.loads × Tells l.graph l.loads l.surpluses × (length l.surpluses ≡ 64)

abbrev pub decreases-loop-over : goal.decreases-loop-over
decreases-loop-over l = excess (length l.graph.nodes.now) l.surpluses
