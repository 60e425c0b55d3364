-- Prices, and how a set of them rises.
use Rattle.std.specs.Prelude.{ℕ, ◌<◌, Bool, List, ℤ, pos, ◌+ℤ◌}
use Rattle.cost.specs.Meaning.{Between}
use Rattle.network.specs.Sums.{counted}
use Rattle.network.specs.Network.{Net, Slack, tension}
use Rattle.network.specs.Records.{numbers}

-- The prices of a set of nodes rise by a step.
abbrev pub raised : (ℕ → ℤ) → (ℕ → Bool) → ℤ → ℕ → ℤ
raised price marked step v = price v +ℤ counted (marked v) step

-- Prices from 0 to a limit that no search passes.
abbrev pub Modest : ℕ → List ℤ → Type 0
Modest n prices = (v : ℕ) → v < n → Between (pos 0) (pos 1000000000000000) (numbers prices v)

-- The load of every arc is slack at its tension.
abbrev pub AllSlack : Net → (ℕ → ℤ) → (ℕ → ℤ) → Type 0
AllSlack net price load = (a : ℕ) → a < net.arcs → Slack (net.cost a) (tension net price a) (load a)
