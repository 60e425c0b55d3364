use Rattle.std.proofs.Common.{◌≡◌, get_or}
use Rattle.network.specs.Sums.{sum}
use Rattle.network.specs.Records.{no_node}
use Rattle.ledger.proofs.settling.sum_of_supplies.Given as goal

abbrev pub invariant-loop-node : goal.invariant-loop-node
invariant-loop-node l = l.sum ≡ sum l.node-index (λ v. (get_or l.graph.nodes.now v no_node).supply)
