-- A graph keeps the limits that every network keeps.
use Rattle.network.specs.Records.{Sound}
use Rattle.network.specs.declared.graph.Graph.{Graph}

pub graph_sound : (graph : Graph) → Sound graph.nodes.now graph.arcs.now
graph_sound graph = record {
  node_limit = graph.few_nodes;
  arc_limit = graph.few_arcs;
  tails = graph.tails;
  heads = graph.heads;
  supply_limit = graph.supplies;
}
