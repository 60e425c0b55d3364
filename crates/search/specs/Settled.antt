-- What a search leaves behind.
use Rattle.std.specs.Prelude.{◌≡◌, ℕ, ◌<◌, Bool, false, List, length, ℤ, pos, neg_ℤ, slice_index_or}
use Rattle.cost.specs.Meaning.{Between}
use Rattle.network.specs.Network.{Net, Meets, charge, floor, OverFull}
use Rattle.network.specs.declared.records.Node.{Node}
use Rattle.network.specs.declared.records.Arc.{Arc}

-- A node by its place.
abbrev pub node_at : List Node → ℕ → Node
node_at nodes v = slice_index_or nodes v (record { supply = pos 0; price = pos 0; marked = false })

-- An arc by its place.
abbrev pub arc_at : List Arc → ℕ → Arc
arc_at arcs a = slice_index_or arcs a (record { tail = 0; head = 0; load = pos 0 })

-- The load of each arc.
abbrev pub loads_of : List Arc → ℕ → ℤ
loads_of arcs a = (arc_at arcs a).load

-- The price of each node.
abbrev pub prices_of : List Node → ℕ → ℤ
prices_of nodes v = (node_at nodes v).price

-- The nodes that are marked.
abbrev pub marks_of : List Node → ℕ → Bool
marks_of nodes v = (node_at nodes v).marked

-- The supplies of the nodes are as they were.
pub record SameNodes (before after : List Node) : Type 0 where
  pub many : length after ≡ length before
  pub supplies : (v : ℕ) → v < length before → (node_at after v).supply ≡ (node_at before v).supply

-- The ends of the arcs are as they were.
pub record SameArcs (before after : List Arc) : Type 0 where
  pub many : length after ≡ length before
  pub tails : (a : ℕ) → a < length before → (arc_at after a).tail ≡ (arc_at before a).tail
  pub heads : (a : ℕ) → a < length before → (arc_at after a).head ≡ (arc_at before a).head

-- The arcs carry a routing that meets the network, the charge of which equals the floor of the prices, and no node is marked.
pub record Settled (net : Net) (nodes : List Node) (arcs : List Arc) : Type 0 where
  pub meets : Meets net (loads_of arcs)
  pub equal : charge net (loads_of arcs) ≡ floor net (prices_of nodes)
  pub price_limit : (v : ℕ) → v < net.nodes → Between (neg_ℤ (pos 100000000)) (pos 100000000) (prices_of nodes v)
  pub unmarked : (v : ℕ) → v < net.nodes → marks_of nodes v ≡ false

-- The marked nodes are over full, and all loads and prices are 0.
pub record Barred (net : Net) (nodes : List Node) (arcs : List Arc) : Type 0 where
  pub over_full : OverFull net (marks_of nodes)
  pub no_loads : (a : ℕ) → a < net.arcs → loads_of arcs a ≡ pos 0
  pub no_prices : (v : ℕ) → v < net.nodes → prices_of nodes v ≡ pos 0
