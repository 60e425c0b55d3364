-- The increments pass the bar between the low and the high.
use Rattle.std.proofs.Common.{◌-ℤ◌, nat_abs}
use Rattle.search.proofs.Turning.{Halving}
use Rattle.search.proofs.narrow.turn.Given as goal

abbrev pub invariant-loop-low : goal.invariant-loop-low
invariant-loop-low g l = Halving (g.C.Cost.meaning l.cost) l.bar l.low l.high

abbrev pub decreases-loop-low : goal.decreases-loop-low
decreases-loop-low g l = nat_abs (l.high -ℤ l.low)
