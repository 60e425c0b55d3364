-- The loads before are held.
use Rattle.std.proofs.Common.{ℕ, ◌<◌, ◌≤ℤ◌}
use Rattle.cost.specs.Meaning.{Between}
use Rattle.network.specs.Records.{numbers}
use Rattle.flow.specs.Spans.{low_of, high_of}
use Rattle.search.proofs.narrow.hold.Given as goal

abbrev pub invariant-loop-a : goal.invariant-loop-a
invariant-loop-a l = (k : ℕ) → k < l.a → low_of l.spans k ≤ℤ high_of l.spans k → Between (low_of l.spans k) (high_of l.spans k) (numbers l.loads k)
