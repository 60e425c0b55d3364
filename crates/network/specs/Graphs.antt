-- The network that a graph stands for.
use Rattle.std.specs.Prelude.{List}
use Rattle.cost.specs.Meaning.{Meaning}
use Rattle.network.specs.Network.{Net}
use Rattle.network.specs.Records.{net_of}
use Rattle.network.specs.declared.graph.Graph.{Graph}

-- The network of a graph's nodes and arcs, with a cost for each arc.
abbrev pub net_in : Graph → List Meaning → Net
net_in graph costs = net_of graph.nodes.now graph.arcs.now costs
