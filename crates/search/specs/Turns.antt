-- Where the increments of a cost pass a bar, and the loads of the arcs that are slack near a tension.
use Rattle.std.specs.Prelude.{◌≡◌, ℕ, ◌<◌, Bool, true, ◌||◌, ℤ, pos, ◌+ℤ◌, ◌-ℤ◌, ◌≤ℤ◌, ◌<ℤ◌, is_some, Some, Option}
use Rattle.cost.specs.Meaning.{Meaning, InRange, increment_at}
use Rattle.network.specs.Network.{Net, tension}

-- A load of the range that an increment below the bar leads to, if any does, and that no increment below the bar leads on from.
pub record Turns (m : Meaning) (bar x : ℤ) : Type 0 where
  pub within : InRange m x
  pub before : (i : ℤ) → increment_at m (x -ℤ pos 1) ≡ Some i → i <ℤ bar
  pub after : (i : ℤ) → increment_at m x ≡ Some i → bar ≤ℤ i

-- Two increments one after the other, of which one may be absent, the first below the bar and the second not.
pub record PassingBetween (before after : Option ℤ) (bar : ℤ) : Type 0 where
  pub some : (is_some before || is_some after) ≡ true
  pub under : (i : ℤ) → before ≡ Some i → i <ℤ bar
  pub over : (i : ℤ) → after ≡ Some i → bar ≤ℤ i

-- The low of an arc is its highest load that is slack at the tension less the step, and the high its lowest load that is slack at the tension and the step.
pub record Narrow (m : Meaning) (tense step low high : ℤ) : Type 0 where
  pub low_turns : Turns m (tense -ℤ step +ℤ pos 1) low
  pub high_turns : Turns m (tense +ℤ step) high

-- Each arc of a kind is so narrowed.
abbrev pub NarrowedWhere : (ℕ → Type 0) → Net → (ℕ → ℤ) → ℤ → (ℕ → ℤ) → (ℕ → ℤ) → Type 0
NarrowedWhere Kind net price step low high = (a : ℕ) → a < net.arcs → Kind a → Narrow (net.cost a) (tension net price a) step (low a) (high a)

-- Each arc is so narrowed.
abbrev pub Narrowed : Net → (ℕ → ℤ) → ℤ → (ℕ → ℤ) → (ℕ → ℤ) → Type 0
Narrowed net price step low high = (a : ℕ) → a < net.arcs → Narrow (net.cost a) (tension net price a) step (low a) (high a)

-- Both ends of an arc are in a set of nodes, or none.
abbrev pub Beside : Net → (ℕ → Bool) → ℕ → Type 0
Beside net marked a = marked (net.tail a) ≡ marked (net.head a)
