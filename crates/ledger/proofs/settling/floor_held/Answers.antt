-- The prices that are listed are those that the nodes have.
use Rattle.std.proofs.Common.{◌≡◌, ℕ, ◌<◌, map, length, arith, rules}
use Rattle.network.specs.Graphs.{net_in}
use Rattle.network.specs.Records.{numbers}
use Rattle.network.proofs.Graphs.{graph_sound}
use Rattle.network.proofs.Nets.{sound_ends}
use Rattle.network.proofs.Changes.{floor_same}
use Rattle.search.specs.Settled.{prices_of}
use Rattle.ledger.proofs.settling.floor_held.Goals as goal

pub floor_of-requires-clause-limits : goal.floor_of-requires-clause-limits
floor_of-requires-clause-limits g c k h =
    let nodes = c.args.graph.now.nodes.now in
    let prices = c.as_slice.result.now in
    let listed : length prices ≡ length nodes = search rules in
    let each : (k : ℕ) → k < length nodes → numbers prices k ≡ prices_of nodes k = search rules in
    rw (each k (omega arith)) (c.requires.limits k (omega arith))

pub returns : goal.returns
returns g c =
    let graph = c.args.graph.now in
    let costs = map g.C.Cost.meaning c.args.costs.now in
    let prices = c.as_slice.result.now in
    let each : (k : ℕ) → k < length graph.nodes.now → numbers prices k ≡ prices_of graph.nodes.now k = search rules in
    let same = floor_same (net_in graph costs) (numbers prices) (prices_of graph.nodes.now) (sound_ends graph.nodes.now graph.arcs.now costs (graph_sound graph)) each in
    search rules
