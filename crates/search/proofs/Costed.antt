-- What holds of the network of a graph with costs.
use Rattle.std.proofs.Common.{ℕ, ◌<◌, length, map, arith}
use Rattle.cost.specs.Meaning.{Meaning, Lawful}
use Rattle.network.specs.Network.{Ends}
use Rattle.network.specs.Records.{cost_of}
use Rattle.network.proofs.Costs.{each_cost}
use Rattle.network.proofs.Graphs.{graph_sound}
use Rattle.network.proofs.Nets.{sound_ends}
use Rattle.search.specs.Networks.{network_of}
use Rattle.search.specs.declared.networks.Network.{Network}

module _ {C : Type 0} (meaning : C → Meaning) (network : Network C) where
  pub network_ends : Ends (network_of meaning network)
  network_ends = sound_ends network.graph.nodes.now network.graph.arcs.now (map meaning network.costs.now) (graph_sound network.graph)

  pub network_lawful : ((cost : C) → Lawful (meaning cost)) → (a : ℕ) → a < length network.graph.arcs.now → Lawful (cost_of (map meaning network.costs.now) a)
  network_lawful lawful a h = each_cost meaning Lawful lawful network.costs.now a (omega (arith, network.costed))
