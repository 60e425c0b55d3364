-- Each turn adds what the arc brings.
use Rattle.std.proofs.Common.{◌≡◌, [], ◌∷◌, length, length-append, pos, arith, rules}
use Rattle.std.proofs.lemmas.Slice.Zip.{zip_turn, zip_end}
use Rattle.network.specs.Graphs.{net_in}
use Rattle.network.specs.Records.{numbers, no_arc}
use Rattle.network.proofs.Gathers.{Gathers}
use Rattle.network.proofs.Graphs.{graph_sound}
use Rattle.network.proofs.Gains.{gain_of, surplus_by, surplus_by_all, surplus_gathers}
use Rattle.network.proofs.graph.Graph.surplus_at.Goals as goal

step : (c : goal.After-gain-surplus) → Gathers (surplus_by (net_in c.args.self.now []) (numbers c.args.loads.now) c.args.node) (length c.loop-arc.yielded) c.gain-surplus.result
step c =
    let graph = c.args.self.now in
    let loads = c.args.loads.now in
    let turn = zip_turn graph.arcs.now loads c.loop-arc.yielded c.into_iter-arc-iterator.result c.loop-arc.arc-iterator c.next.new.self _ (cc) (cc) c.loop-arc.yielded_by _ c.in-Some.is c.next.ensures.steps in
    let arc = turn.2 no_arc in
    let load = turn.3 (pos 0) in
    let here : c.gain-surplus.result ≡ gain_of (net_in graph []) (numbers loads) c.args.node (length c.loop-arc.yielded) = search rules in
    rw here (surplus_gathers graph.nodes.now graph.arcs.now loads (graph_sound graph) c.requires.loaded c.requires.limits c.args.node c.requires.place (length c.loop-arc.yielded) turn.0)

pub overflow_add-surplus : goal.overflow_add-surplus
overflow_add-surplus c = let on = step c in search rules

pub loop-arc-preserved : goal.loop-arc-preserved
loop-arc-preserved c = let on = step c in ((tt, tt), tt, rw (length-append c.loop-arc.yielded ((c.in-Some.arc, c.in-Some.load) ∷ [])) (search rules))

pub returns : goal.returns
returns c =
    let end = zip_end c.args.self.now.arcs.now c.args.loads.now c.loop-arc.yielded c.into_iter-arc-iterator.result c.loop-arc.arc-iterator c.next.new.self _ (cc) (cc) c.loop-arc.yielded_by c.in-None.is c.next.ensures.steps in
    let all : length c.loop-arc.yielded ≡ length c.args.self.now.arcs.now = omega (arith, end, c.requires.loaded) in
    let e = surplus_by_all (net_in c.args.self.now []) (numbers c.args.loads.now) c.args.node in
    search rules
