-- Each turn adds what the arc brings.
use Rattle.std.proofs.Common.{◌≡◌, [], ◌∷◌, length, length-append, pos, arith, w64, SFits, rules}
use Rattle.std.proofs.lemmas.Int.{ints, to_z-of_z}
use Rattle.std.proofs.lemmas.Slice.Zip.{zip_turn, zip_end}
use Rattle.network.specs.Graphs.{net_in}
use Rattle.network.specs.Records.{numbers, no_arc}
use Rattle.network.proofs.Gains.{surplus_by_all}
use Rattle.network.proofs.Graphs.{graph_sound}
use Rattle.flow.proofs.Gathered.{gathered, limits_here}
use Rattle.flow.proofs.surpluses.surpluses_of.Goals as goal

pub transfer-requires-clause-limits : goal.transfer-requires-clause-limits
transfer-requires-clause-limits c =
    let a = length c.loop-arc.yielded in
    let turn = zip_turn c.args.graph.now.arcs.now c.args.loads.now c.loop-arc.yielded c.into_iter-arc-iterator.result c.loop-arc.arc-iterator c.next.new.self _ (cc) (cc) c.loop-arc.yielded_by _ c.in-Some.is c.next.ensures.steps in
    let arc = turn.2 no_arc in
    let given = turn.3 (pos 0) in
    let load = c.requires.limits a turn.0 in
    let tail = (graph_sound c.args.graph.now).tails a turn.0 in
    let head = (graph_sound c.args.graph.now).heads a turn.0 in
    let here = limits_here c.args.graph.now c.args.loads.now c.requires.limits c.loop-arc.surpluses a turn.0 c.loop-arc.invariant.3 in
    rw (arc) (omega (arith, ints))

pub loop-arc-preserved : goal.loop-arc-preserved
loop-arc-preserved c =
    let a = length c.loop-arc.yielded in
    let turn = zip_turn c.args.graph.now.arcs.now c.args.loads.now c.loop-arc.yielded c.into_iter-arc-iterator.result c.loop-arc.arc-iterator c.next.new.self _ (cc) (cc) c.loop-arc.yielded_by _ c.in-Some.is c.next.ensures.steps in
    let arc = turn.2 no_arc in
    let given = turn.3 (pos 0) in
    let load = c.requires.limits a turn.0 in
    let fits : SFits w64 (numbers c.args.loads.now a) = omega (arith, ints) in (
      (tt, tt),
      tt,
      omega (arith, c.loop-arc.invariant.2),
      rw (length-append c.loop-arc.yielded ((c.in-Some.arc, c.in-Some.load) ∷ [])) (gathered c.args.graph.now c.args.loads.now c.requires.limits c.loop-arc.surpluses a turn.0 c.loop-arc.invariant.3 c.transfer.new.numbers
          (simp to_z-of_z at (rw (arc, given) at c.transfer.ensures))),
    )

pub returns : goal.returns
returns c =
    let end = zip_end c.args.graph.now.arcs.now c.args.loads.now c.loop-arc.yielded c.into_iter-arc-iterator.result c.loop-arc.arc-iterator c.next.new.self _ (cc) (cc) c.loop-arc.yielded_by c.in-None.is c.next.ensures.steps in
    let all : length c.loop-arc.yielded ≡ length c.args.graph.now.arcs.now = omega (arith, end, c.requires.loaded) in
    record {
      long = omega (arith, c.loop-arc.invariant.2, c.args.graph.now.few_nodes);
      told = λ v h.
          let sum = surplus_by_all (net_in c.args.graph.now []) (numbers c.args.loads.now) v in
          let here = c.loop-arc.invariant.3 v h in
          search rules;
    }
