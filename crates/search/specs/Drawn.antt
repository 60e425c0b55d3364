-- Prices that are drawn together: differences up to the largest increment stay, and greater ones stay at least so large.
use Rattle.std.specs.Prelude.{ℕ, ◌<◌, List, ℤ, pos, ◌-ℤ◌, ◌≤ℤ◌, ◌<ℤ◌}
use Rattle.std.specs.List.{All, Contains}
use Rattle.std.specs.Int.{int_min}

-- From one price to a price that is not lower, the drawn prices differ by no more, and by no less than that difference or 1000000.
pub record Near (x y x' y' : ℤ) : Type 0 where
  pub no_more : (y' -ℤ y) ≤ℤ (x' -ℤ x)
  pub no_less : int_min (x' -ℤ x) (pos 1000000) ≤ℤ (y' -ℤ y)

-- The second prices are the first n of the first ones, drawn together.
abbrev pub Drawn : ℕ → (ℕ → ℤ) → (ℕ → ℤ) → Type 0
Drawn n price drawn = (u v : ℕ) → u < n → v < n → price u ≤ℤ price v → Near (price u) (drawn u) (price v) (drawn v)

-- The lowest of the prices above a bar.
pub record NextAbove (prices : List ℤ) (bar next : ℤ) : Type 0 where
  pub above : bar <ℤ next
  pub listed : Contains prices next
  pub lowest : All (λ price. bar <ℤ price → next ≤ℤ price) prices
