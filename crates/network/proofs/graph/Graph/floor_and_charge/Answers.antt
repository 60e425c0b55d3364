-- The two answers are the floor and the charge of one network, so no floor passes the charge.
use Rattle.std.proofs.Common.{map, arith, rules}
use Rattle.std.proofs.lemmas.Int.{ints}
use Rattle.network.specs.Records.{numbers}
use Rattle.network.specs.Graphs.{net_in}
use Rattle.network.proofs.Graphs.{graph_sound}
use Rattle.network.proofs.Nets.{sound_ends, charge_is}
use Rattle.network.proofs.Duality.{weak_duality}
use Rattle.network.proofs.graph.Graph.floor_and_charge.Goals as goal

pub returns : goal.returns
returns g c =
    let costs = map g.C.Cost.meaning c.args.costs.now in
    let net = net_in c.args.self.now costs in
    let e = charge_is c.args.self.now.nodes.now c.args.self.now.arcs.now costs c.args.loads.now c.requires.loaded in
    record {
      promised = search rules;
      charged = search rules;
      duality = λ meets. omega (
        arith,
        ints,
        c.floor_of-floor.ensures,
        c.charge_of-charge.ensures,
        weak_duality net (numbers c.args.loads.now) (numbers c.args.prices.now) (sound_ends c.args.self.now.nodes.now c.args.self.now.arcs.now costs (graph_sound c.args.self.now)) meets,
      );
    }
