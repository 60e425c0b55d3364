-- The nodes before have their levels, and the others are as they were.
use Rattle.std.proofs.Common.{◌≡◌, ℕ, ◌<◌, ◌≤◌}
use Rattle.network.specs.Records.{numbers}
use Rattle.search.proofs.draw.level_at.Given as goal

abbrev pub invariant-loop-v : goal.invariant-loop-v
invariant-loop-v l =
    ((k : ℕ) → k < l.v → numbers l.prices k ≡ l.price → numbers l.levels k ≡ l.level)
    × ((k : ℕ) → k < l.v → (numbers l.prices k ≡ l.price → ⊥) → numbers l.levels k ≡ numbers l.initial.levels k)
    × ((k : ℕ) → l.v ≤ k → numbers l.levels k ≡ numbers l.initial.levels k)
