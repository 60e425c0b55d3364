-- The floor so far is that of the nodes before, and then that of all nodes and the arcs before.
use Rattle.std.proofs.Common.{◌≡◌, map, length}
use Rattle.network.specs.Graphs.{net_in}
use Rattle.network.specs.Records.{numbers}
use Rattle.network.proofs.Floors.{floor_by_nodes, floor_by_arcs}
use Rattle.network.proofs.graph.Graph.floor_of.Given as goal

abbrev pub invariant-loop-node : goal.invariant-loop-node
invariant-loop-node g l =
    (goal.iterator-loop-node g).can_next l.node-iterator
    × (goal.iterator-loop-node g).is_finite l.node-iterator
    × (l.floor ≡ floor_by_nodes (net_in l.self (map g.C.Cost.meaning l.costs)) (numbers l.prices) (length l.yielded))

abbrev pub invariant-loop-arc : goal.invariant-loop-arc
invariant-loop-arc g l =
    (goal.iterator-loop-arc g).can_next l.arc-iterator
    × (goal.iterator-loop-arc g).is_finite l.arc-iterator
    × (l.floor ≡ floor_by_arcs (net_in l.self (map g.C.Cost.meaning l.costs)) (numbers l.prices) (length l.yielded))
