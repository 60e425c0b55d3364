-- Routings that keep within a low and a high load of each arc.
use Rattle.std.specs.Prelude.{◌≡◌, ℕ, ◌<◌, ◌≤◌, Bool, List, length, ℤ, pos, ◌-ℤ◌, ◌≤ℤ◌, ◌<ℤ◌}
use Rattle.cost.specs.Meaning.{Between}
use Rattle.network.specs.Sums.{sum, counted}
use Rattle.network.specs.Network.{Net, surplus, leaves, enters, sum_marked}
use Rattle.network.specs.Records.{numbers}
use Rattle.network.specs.declared.graph.Graph.{Graph}
use Rattle.flow.specs.declared.spans.Span.{Span}
use Rattle.flow.specs.Spans.{low_of, high_of}

-- Each load lies from the low to the high of its arc.
abbrev pub Held : ℕ → (ℕ → ℤ) → (ℕ → ℤ) → (ℕ → ℤ) → Type 0
Held arcs low high load = (a : ℕ) → a < arcs → Between (low a) (high a) (load a)

-- Loads within lows and highs that leave no surplus at any node.
pub record Met (net : Net) (low high load : ℕ → ℤ) : Type 0 where
  pub held : Held net.arcs low high load
  pub balanced : (v : ℕ) → v < net.nodes → surplus net load v ≡ pos 0

-- What may leave a set of nodes at most: the highs of the arcs that leave it, less the lows of the arcs that enter it.
abbrev pub room_within : Net → (ℕ → ℤ) → (ℕ → ℤ) → (ℕ → Bool) → ℤ
room_within net low high marked =
    sum net.arcs (λ a. counted (leaves net marked a) (high a))
    -ℤ sum net.arcs (λ a. counted (enters net marked a) (low a))

-- The supplies of a set of nodes sum to more than may leave it.
abbrev pub OverFullWithin : Net → (ℕ → ℤ) → (ℕ → ℤ) → (ℕ → Bool) → Type 0
OverFullWithin net low high marked = room_within net low high marked <ℤ sum_marked net marked net.supply

-- For each arc a span that lies from 0 to 10000, and a load within it.
pub record Ready (graph : Graph) (spans : List Span) (loads : List ℤ) : Type 0 where
  pub spans_long : length graph.arcs.now ≤ length spans
  pub loads_long : length graph.arcs.now ≤ length loads
  pub low_limit : (a : ℕ) → a < length graph.arcs.now → pos 0 ≤ℤ low_of spans a
  pub high_limit : (a : ℕ) → a < length graph.arcs.now → high_of spans a ≤ℤ pos 10000
  pub held : Held (length graph.arcs.now) (low_of spans) (high_of spans) (numbers loads)
