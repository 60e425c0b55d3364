-- Each surplus so far is what the arcs before make.
use Rattle.std.proofs.Common.{◌≡◌, ℕ, ◌<◌, [], length}
use Rattle.network.specs.declared.records.TheConstants.{MOST_NODES}
use Rattle.network.specs.Graphs.{net_in}
use Rattle.network.specs.Records.{numbers}
use Rattle.network.proofs.Gains.{surplus_by}
use Rattle.flow.proofs.surpluses.surpluses_of.Given as goal

abbrev pub invariant-loop-arc : goal.invariant-loop-arc
invariant-loop-arc l =
    (goal.iterator-loop-arc).can_next l.arc-iterator
    × (goal.iterator-loop-arc).is_finite l.arc-iterator
    × (length l.surpluses ≡ MOST_NODES)
    × ((v : ℕ) → v < length l.graph.nodes.now → numbers l.surpluses v ≡ surplus_by (net_in l.graph []) (numbers l.loads) v (length l.yielded))
