-- The loads stay slack when the prices are drawn together, so the charge equals the floor.
use Rattle.std.proofs.Common.{arith}
use Rattle.network.specs.Records.{numbers}
use Rattle.network.proofs.Duality.{slackness}
use Rattle.search.specs.Networks.{network_of}
use Rattle.search.proofs.Costed.{network_ends, network_lawful}
use Rattle.search.proofs.Drawing.{drawn_slack, drawn_front}
use Rattle.search.proofs.networks.Network.solve.Goals as goal

pub returns-clause-equal : goal.returns-clause-equal
returns-clause-equal g c =
    let network = c.args.self.now in
    let net = network_of g.C.Cost.meaning network in
    let ends = network_ends g.C.Cost.meaning network in
    let lawful = network_lawful g.C.Cost.meaning network g.met.C.Cost.lawful in
    let apart = c.improve-apart.result in
    let price = numbers c.draw_in.result in
    let load = numbers c.improve-apart.new.loads in
    slackness net load price ends (λ a h. (lawful a h).convex) c.improve-apart.ensures.meets
    (drawn_slack net (numbers apart) price load ends lawful (drawn_front net.nodes apart price (omega (arith, network.graph.few_nodes)) c.draw_in.ensures.drawn) c.improve-apart.ensures.slack)
