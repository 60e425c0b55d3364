-- The set has the nodes before that were reached.
use Rattle.std.proofs.Common.{◌≡◌, ℕ, ◌<◌, ◌≤◌, false}
use Rattle.flow.specs.Sets.{member}
use Rattle.flow.specs.Labels.{reached_in}
use Rattle.flow.proofs.meet.reached_of.Given as goal

abbrev pub invariant-loop-v : goal.invariant-loop-v
invariant-loop-v l = ((k : ℕ) → k < l.v → member l.reached k ≡ reached_in l.labels k) × ((k : ℕ) → l.v ≤ k → member l.reached k ≡ false)
