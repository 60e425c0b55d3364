-- A way is found, along which an amount is pushed and noted; or no way is found.
use Rattle.std.proofs.Common.{◌≡◌, [], Some, IsSomeAnd, subst, sym, to_z, of_z, ◌≤ℤ◌, pos, ◌-ℤ◌, arith, w64, SFits, rules}
use Rattle.std.proofs.lemmas.Int.{ints, to_z-of_z}
use Rattle.network.specs.Graphs.{net_in}
use Rattle.network.proofs.Nets.{sound_ends}
use Rattle.network.proofs.Graphs.{graph_sound}
use Rattle.flow.specs.Sets.{member}
use Rattle.network.specs.Records.{numbers}
use Rattle.flow.specs.Labels.{label_of, reached_in}
use Rattle.flow.proofs.Marks.{taken}
use Rattle.flow.proofs.Relief.{over_full_alike, labelled_sources, bars, amount, surplus_limit, relieved}
use Rattle.flow.proofs.meet.relieve.Goals as goal

pub invariant_of-loaded : goal.invariant_of-loaded
invariant_of-loaded c =
    let ready = c.requires.ready in
    record {
      spans_long = ready.spans_long;
      loads_long = ready.loads_long;
      low_limit = ready.low_limit;
      high_limit = ready.high_limit;
      above_low = λ a h. (ready.held a h).0;
      under_high = λ a h. (ready.held a h).1;
    }

pub explore-requires : goal.explore-requires
explore-requires c = record {
  told = c.requires.tells.long;
  near = c.requires.near;
  labels = labelled_sources c.args.graph.now c.args.spans.now c.args.loads.now c.args.surpluses.now c.requires.ready c.requires.tells
      c.label_sources.new.labels (omega (arith, c.args.graph.now.few_nodes)) c.label_sources.ensures;
}

pub reach-requires : goal.reach-requires
reach-requires c = record { told = c.requires.tells.long; labels = c.explore.ensures }

pub returns-in_default : goal.returns-in_default
returns-in_default c = record {
  ready = c.requires.ready;
  tells = c.requires.tells;
  less = tt;
  barred =
      let none = c.in_default.ensures.found in
      over_full_alike (net_in c.args.graph.now []) _ _ (reached_in c.reach.new.labels) (member c.reached_of.result)
      (sound_ends c.args.graph.now.nodes.now c.args.graph.now.arcs.now [] (graph_sound c.args.graph.now)) (λ v h. c.reached_of.ensures v) (bars c.args.graph.now c.args.spans.now c.args.loads.now c.args.surpluses.now c.requires.ready c.requires.tells c.reach.new.labels c.reach.ensures.labelled c.args.over c.requires.place c.requires.above none.0 none.1);
}

pub overflow_sub-surpluses : goal.overflow_sub-surpluses
overflow_sub-surpluses c =
    let limit = surplus_limit c.args.graph.now c.args.spans.now c.args.loads.now c.args.surpluses.now c.requires.ready c.requires.tells c.in-Some.target c.in-Some.ensures.found.0 in
    omega (arith, ints)

pub push-start-requires : goal.push-start-requires
push-start-requires c =
    let found = c.in-Some.ensures.found in
    let limit = surplus_limit c.args.graph.now c.args.spans.now c.args.loads.now c.args.surpluses.now c.requires.ready c.requires.tells c.in-Some.target found.0 in
    let label = c.unwrap.result in
    let at : label_of c.reach.new.labels c.in-Some.target ≡ Some label = search rules in
    let width : SFits w64 label.width = search rules in
    let here : SFits w64 (numbers c.args.surpluses.now c.in-Some.target) = omega (arith, ints) in
    let turned : SFits w64 (pos 0 -ℤ numbers c.args.surpluses.now c.in-Some.target) = omega (arith, ints) in
    let enough = amount c.args.graph.now c.args.spans.now c.args.loads.now c.args.surpluses.now c.requires.ready c.requires.tells c.reach.new.labels c.reach.ensures.labelled c.in-Some.target found.0 label at found.2 c.min-by.result (simp to_z-of_z at c.min-by.ensures.value) in
    let fits : SFits w64 c.min-by.result = omega (arith, ints, enough.sign, enough.limit) in
    record {
      ready = c.requires.ready;
      labels = c.reach.ensures.labelled;
      place = found.0;
      sign = omega (arith, ints, enough.sign);
      amount = subst (λ o. IsSomeAnd o (λ l. to_z w64 (of_z w64 c.min-by.result) ≤ℤ l.width)) (sym at) (omega (arith, ints, enough.fits));
    }

pub transfer-requires : goal.transfer-requires
transfer-requires c =
    let found = c.in-Some.ensures.found in
    let limit = surplus_limit c.args.graph.now c.args.spans.now c.args.loads.now c.args.surpluses.now c.requires.ready c.requires.tells c.in-Some.target found.0 in
    let label = c.unwrap.result in
    let at : label_of c.reach.new.labels c.in-Some.target ≡ Some label = search rules in
    let width : SFits w64 label.width = search rules in
    let here : SFits w64 (numbers c.args.surpluses.now c.in-Some.target) = omega (arith, ints) in
    let turned : SFits w64 (pos 0 -ℤ numbers c.args.surpluses.now c.in-Some.target) = omega (arith, ints) in
    let enough = amount c.args.graph.now c.args.spans.now c.args.loads.now c.args.surpluses.now c.requires.ready c.requires.tells c.reach.new.labels c.reach.ensures.labelled c.in-Some.target found.0 label at found.2 c.min-by.result (simp to_z-of_z at c.min-by.ensures.value) in
    let fits : SFits w64 c.min-by.result = omega (arith, ints, enough.sign, enough.limit) in
    let start = surplus_limit c.args.graph.now c.args.spans.now c.args.loads.now c.args.surpluses.now c.requires.ready c.requires.tells c.push-start.result c.push-start.ensures.place in
    record {
      from = omega (arith, c.push-start.ensures.place, c.requires.tells.long);
      to = omega (arith, found.0, c.requires.tells.long);
      limits = omega (arith, ints);
      amount = omega (arith, ints, enough.sign, enough.limit);
    }

pub returns : goal.returns
returns c =
    let found = c.in-Some.ensures.found in
    let limit = surplus_limit c.args.graph.now c.args.spans.now c.args.loads.now c.args.surpluses.now c.requires.ready c.requires.tells c.in-Some.target found.0 in
    let label = c.unwrap.result in
    let at : label_of c.reach.new.labels c.in-Some.target ≡ Some label = search rules in
    let width : SFits w64 label.width = search rules in
    let here : SFits w64 (numbers c.args.surpluses.now c.in-Some.target) = omega (arith, ints) in
    let turned : SFits w64 (pos 0 -ℤ numbers c.args.surpluses.now c.in-Some.target) = omega (arith, ints) in
    let enough = amount c.args.graph.now c.args.spans.now c.args.loads.now c.args.surpluses.now c.requires.ready c.requires.tells c.reach.new.labels c.reach.ensures.labelled c.in-Some.target found.0 label at found.2 c.min-by.result (simp to_z-of_z at c.min-by.ensures.value) in
    let fits : SFits w64 c.min-by.result = omega (arith, ints, enough.sign, enough.limit) in
    let first = taken _ (label_of c.reach.new.labels c.push-start.result) c.push-start.ensures.first in
    let done = relieved c.args.graph.now c.args.spans.now c.args.loads.now c.args.surpluses.now c.requires.ready c.requires.tells c.reach.new.labels c.reach.ensures.labelled c.in-Some.target found.0 label at found.2
    c.min-by.result enough c.push-start.new.loads c.transfer.new.numbers c.push-start.result first.0 c.push-start.ensures.place first.1 first.2.0
    (omega (arith, ints, first.2.1)) (simp to_z-of_z at c.push-start.ensures.moved) (omega arith) (simp to_z-of_z at c.transfer.ensures) in
    record { ready = c.push-start.ensures.ready; tells = done.telling; less = done.less; barred = tt }
