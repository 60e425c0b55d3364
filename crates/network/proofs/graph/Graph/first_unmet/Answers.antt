-- The surpluses before are 0, so the first that is not is the answer.
use Rattle.std.proofs.Common.{◌≡◌, false, not, [], length, sym, ap, arith, rules}
use Rattle.cost.proofs.FirstPlace.{first_place_none, first_place_found}
use Rattle.network.specs.Network.{surplus}
use Rattle.network.specs.Records.{numbers, is_zero}
use Rattle.network.specs.Graphs.{net_in}
use Rattle.network.proofs.graph.Graph.first_unmet.Goals as goal

pub returns-then-surplus_at-ne0 : goal.returns-then-surplus_at-ne0
returns-then-surplus_at-ne0 c =
    let net = net_in c.args.self.now [] in
    let load = numbers c.args.loads.now in
    let node = c.loop-node.node in
    let here : is_zero (surplus net load node) ≡ false = search rules in
    sym (first_place_found (λ k. not (is_zero (surplus net load k))) (length c.args.self.now.nodes.now) node (omega arith) (λ k h. ap not (c.loop-node.invariant k h)) (ap not here))

pub returns : goal.returns
returns c =
    let net = net_in c.args.self.now [] in
    let load = numbers c.args.loads.now in
    sym (first_place_none (λ k. not (is_zero (surplus net load k))) (length c.args.self.now.nodes.now) (λ k h. ap not (c.loop-node.invariant k (omega arith))))
