-- Each surplus before is 0.
use Rattle.std.proofs.Common.{◌≡◌, ℕ, ◌<◌, true, []}
use Rattle.network.specs.Network.{surplus}
use Rattle.network.specs.Records.{numbers, is_zero}
use Rattle.network.specs.Graphs.{net_in}
use Rattle.network.proofs.graph.Graph.first_unmet.Given as goal

abbrev pub invariant-loop-node : goal.invariant-loop-node
invariant-loop-node l = (k : ℕ) → k < l.node → is_zero (surplus (net_in l.self []) (numbers l.loads) k) ≡ true
