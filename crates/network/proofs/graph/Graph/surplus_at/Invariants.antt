-- The surplus so far is what the arcs before make.
use Rattle.std.proofs.Common.{◌≡◌, [], length}
use Rattle.network.specs.Graphs.{net_in}
use Rattle.network.specs.Records.{numbers}
use Rattle.network.proofs.Gains.{surplus_by}
use Rattle.network.proofs.graph.Graph.surplus_at.Given as goal

abbrev pub invariant-loop-arc : goal.invariant-loop-arc
invariant-loop-arc l =
    (goal.iterator-loop-arc).can_next l.arc-iterator
    × (goal.iterator-loop-arc).is_finite l.arc-iterator
    × (l.surplus ≡ surplus_by (net_in l.self []) (numbers l.loads) l.node (length l.yielded))
