-- The surpluses of the nodes, kept in a list.
use Rattle.std.specs.Prelude.{◌≡◌, ℕ, ◌<◌, ◌≤◌, List, [], length, ℤ, pos}
use Rattle.cost.specs.Meaning.{natural}
use Rattle.network.specs.Sums.{sum}
use Rattle.network.specs.Network.{surplus}
use Rattle.network.specs.Graphs.{net_in}
use Rattle.network.specs.Records.{numbers}
use Rattle.network.specs.declared.graph.Graph.{Graph}

-- The list tells the surplus of each node.
pub record Tells (graph : Graph) (loads surpluses : List ℤ) : Type 0 where
  pub long : length graph.nodes.now ≤ length surpluses
  pub told : (v : ℕ) → v < length graph.nodes.now → numbers surpluses v ≡ surplus (net_in graph []) (numbers loads) v

-- The sum of the positive surpluses.
abbrev pub excess : ℕ → List ℤ → ℕ
excess n surpluses = natural (sum n (λ v. pos (natural (numbers surpluses v))))
