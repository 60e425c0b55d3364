-- The prices before are raised, and the others are as they were.
use Rattle.std.proofs.Common.{◌≡◌, ℕ, ◌<◌, ◌≤◌}
use Rattle.network.specs.Records.{numbers}
use Rattle.flow.specs.Sets.{member}
use Rattle.search.specs.Prices.{raised}
use Rattle.search.proofs.improve.raise_in.Given as goal

abbrev pub invariant-loop-v : goal.invariant-loop-v
invariant-loop-v l =
    ((k : ℕ) → k < l.v → numbers l.prices k ≡ raised (numbers l.initial.prices) (member l.set) l.step k)
    × ((k : ℕ) → l.v ≤ k → numbers l.prices k ≡ numbers l.initial.prices k)
