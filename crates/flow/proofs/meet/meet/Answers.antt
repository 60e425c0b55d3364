-- Where no surplus is positive, all are 0, since they sum to 0.
use Rattle.std.proofs.Common.{[], arith}
use Rattle.std.proofs.lemmas.Int.{ints}
use Rattle.network.specs.Graphs.{net_in}
use Rattle.network.specs.Records.{numbers}
use Rattle.network.proofs.Nets.{sound_ends}
use Rattle.network.proofs.Graphs.{graph_sound}
use Rattle.flow.proofs.Relief.{none_over}
use Rattle.flow.proofs.meet.meet.Goals as goal

pub returns-clause-met : goal.returns-clause-met
returns-clause-met c = record {
  held = c.loop-over.invariant.0.held;
  balanced = none_over (net_in c.args.graph.now []) (numbers c.loop-over.loads) (sound_ends c.args.graph.now.nodes.now c.args.graph.now.arcs.now [] (graph_sound c.args.graph.now)) c.requires.balanced
      (λ v h. omega (arith, ints, c.in_default.ensures v h, c.loop-over.invariant.1.told v h));
}
