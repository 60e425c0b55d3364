-- The network that a search works on.
use Rattle.std.specs.Prelude.{map}
use Rattle.cost.specs.Meaning.{Meaning}
use Rattle.network.specs.Network.{Net}
use Rattle.network.specs.Graphs.{net_in}
use Rattle.search.specs.declared.networks.Network.{Network}

-- The graph of a network, with the meaning of each cost.
abbrev pub network_of : {C : Type 0} → (C → Meaning) → Network C → Net
network_of meaning network = net_in network.graph (map meaning network.costs.now)
