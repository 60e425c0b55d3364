-- The pieces before keep their laws.
use Rattle.std.proofs.Common.{length}
use Rattle.stepped_cost.proofs.Fitting.{Walked}
use Rattle.stepped_cost.proofs.stepped.Steps.fit.Given as goal

abbrev pub invariant-loop-width : goal.invariant-loop-width
invariant-loop-width l =
    (goal.iterator-loop-width).can_next l.width-iterator
    × (goal.iterator-loop-width).is_finite l.width-iterator
    × Walked l.first l.self.widths.now l.self.slopes.now (length l.yielded) l.last l.least
