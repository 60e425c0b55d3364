-- Each turn adds what a supply is worth, and then the least reduced amount of an arc.
use Rattle.std.proofs.Common.{◌≡◌, map, [], ◌∷◌, length, length-append, pos, arith, rules}
use Rattle.std.proofs.lemmas.Slice.Zip.{zip_turn}
use Rattle.cost.specs.Meaning.{Lawful}
use Rattle.network.specs.Network.{worth, least_on}
use Rattle.network.specs.Graphs.{net_in}
use Rattle.network.specs.Records.{numbers, no_node, no_arc}
use Rattle.network.proofs.Gathers.{Gathers}
use Rattle.network.proofs.Graphs.{graph_sound}
use Rattle.network.proofs.Costs.{cost_read, each_cost}
use Rattle.network.proofs.Floors.{floor_by_nodes, floor_by_arcs, nodes_gather, arcs_gather}
use Rattle.network.proofs.graph.Graph.floor_of.Given as given
use Rattle.network.proofs.graph.Graph.floor_of.Goals as goal

step_node : (g : given.Over) (c : goal.After-worth-floor g)
    → Gathers (floor_by_nodes (net_in c.args.self.now (map g.C.Cost.meaning c.args.costs.now)) (numbers c.args.prices.now)) (length c.loop-node.yielded) c.worth-floor.result
step_node g c =
    let graph = c.args.self.now in
    let costs = map g.C.Cost.meaning c.args.costs.now in
    let prices = c.args.prices.now in
    let v = length c.loop-node.yielded in
    let turn = zip_turn graph.nodes.now prices c.loop-node.yielded c.into_iter-node-iterator.result c.loop-node.node-iterator c.next.new.self _ (cc) (cc) c.loop-node.yielded_by _ c.in-Some.is c.next.ensures.steps in
    let node = turn.2 no_node in
    let price = turn.3 (pos 0) in
    let here : c.worth-floor.result ≡ worth (net_in graph costs) (numbers prices) v = search rules in
    rw here (nodes_gather graph.nodes.now graph.arcs.now costs prices (graph_sound graph) c.requires.priced c.requires.limits v turn.0)

pub overflow_add-floor : goal.overflow_add-floor
overflow_add-floor g c = let on = step_node g c in search rules

pub loop-node-preserved : goal.loop-node-preserved
loop-node-preserved g c = let on = step_node g c in ((tt, tt), tt, rw (length-append c.loop-node.yielded ((c.in-Some.node, c.in-Some.price) ∷ [])) (search rules))

step_arc : (g : given.Over) (c : goal.After-least_of-floor g)
    → Gathers (floor_by_arcs (net_in c.args.self.now (map g.C.Cost.meaning c.args.costs.now)) (numbers c.args.prices.now)) (length c.loop-arc.yielded) c.least_of-floor.result
step_arc g c =
    let graph = c.args.self.now in
    let costs = map g.C.Cost.meaning c.args.costs.now in
    let prices = c.args.prices.now in
    let a = length c.loop-arc.yielded in
    let turn = zip_turn graph.arcs.now c.args.costs.now c.loop-arc.yielded c.into_iter-arc-iterator.result c.loop-arc.arc-iterator c.next-in-loop-arc.new.self _ (cc) (cc) c.loop-arc.yielded_by _ c.in-Some-2.is c.next-in-loop-arc.ensures.steps in
    let arc = turn.2 no_arc in
    let read = cost_read g.C.Cost.meaning c.args.costs.now a c.in-Some-2.cost.now turn.1 (turn.3 c.in-Some-2.cost.now) in
    let here : c.least_of-floor.result ≡ least_on (net_in graph costs) (numbers prices) a = search rules in
    rw here (arcs_gather graph.nodes.now graph.arcs.now costs prices (graph_sound graph) c.requires.priced c.requires.limits
    (λ k h. each_cost g.C.Cost.meaning Lawful g.met.C.Cost.lawful c.args.costs.now k (omega arith)) a turn.0)

pub overflow_add-floor-in-loop-arc : goal.overflow_add-floor-in-loop-arc
overflow_add-floor-in-loop-arc g c = let on = step_arc g c in search rules

pub loop-arc-preserved : goal.loop-arc-preserved
loop-arc-preserved g c = let on = step_arc g c in ((tt, tt), tt, rw (length-append c.loop-arc.yielded ((c.in-Some-2.arc, c.in-Some-2.cost) ∷ [])) (search rules))
