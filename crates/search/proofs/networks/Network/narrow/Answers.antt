-- Each turn narrows one arc more, or finds it narrowed.
use Rattle.std.proofs.Common.{ℕ, ◌<◌, ◌∷◌, [], length, length-append, get_or, map, ◌-ℤ◌, subst, ◌⊎◌, inl, false, arith, rules, w64, SFits}
use Rattle.std.specs.Fn.{FnReturnsAt}
use Rattle.std.proofs.lemmas.Int.{ints, to_z-of_z}
use Rattle.network.specs.Network.{tension}
use Rattle.network.specs.Graphs.{net_in}
use Rattle.network.specs.Records.{numbers, cost_of, no_arc}
use Rattle.network.proofs.Costs.{cost_read}
use Rattle.flow.specs.Spans.{no_span}
use Rattle.flow.specs.declared.spans.Span.{Span}
use Rattle.network.specs.declared.records.Arc.{Arc}
use Rattle.search.specs.Settled.{arc_at}
use Rattle.search.specs.Turns.{Narrow}
use Rattle.search.proofs.Paired.{paired_turn, paired_end}
use Rattle.search.proofs.Narrowing.{tail_in, head_in, price_limits, tension_limits}
use Rattle.search.proofs.Written.{one_renewed, one_kept}
use Rattle.search.proofs.networks.Network.narrow.Goals as goal

pub tension-requires : goal.tension-requires
tension-requires g c =
    let graph = c.args.self.now.graph in
    let turn = paired_turn graph.arcs.now c.args.self.now.costs.now c.loop-a.yielded c.into_iter-a-iterator.result c.loop-a.a-iterator c.next.new.self (cc) (cc) (cc) c.loop-a.yielded_by _ _ c.in-Some.is c.next.ensures.steps in
    record { tail = tail_in graph c.args.prices.now c.requires.priced c.requires.modest (length c.loop-a.yielded) turn.1 c.in-Some.arc.now (turn.3 no_arc); head = head_in graph c.args.prices.now c.requires.priced c.requires.modest (length c.loop-a.yielded) turn.1 c.in-Some.arc.now (turn.3 no_arc); limits = price_limits graph c.args.prices.now c.requires.priced c.requires.modest (length c.loop-a.yielded) turn.1 c.in-Some.arc.now (turn.3 no_arc) }

pub narrowed-requires-clause-tension : goal.narrowed-requires-clause-tension
narrowed-requires-clause-tension g c =
    let graph = c.args.self.now.graph in
    let turn = paired_turn graph.arcs.now c.args.self.now.costs.now c.loop-a.yielded c.into_iter-a-iterator.result c.loop-a.a-iterator c.next.new.self (cc) (cc) (cc) c.loop-a.yielded_by _ _ c.in-Some.is c.next.ensures.steps in
    let limits = tension_limits graph c.args.prices.now c.requires.priced c.requires.modest (length c.loop-a.yielded) turn.1 c.in-Some.arc.now (turn.3 no_arc) in
    let fits : SFits w64 c.tension.result = omega (arith, ints, c.tension.ensures) in
    simp to_z-of_z (omega (arith, ints, c.tension.ensures))

pub offset_bounds-spans-a-then-due : goal.offset_bounds-spans-a-then-due
offset_bounds-spans-a-then-due g c =
    let graph = c.args.self.now.graph in
    let turn = paired_turn graph.arcs.now c.args.self.now.costs.now c.loop-a.yielded c.into_iter-a-iterator.result c.loop-a.a-iterator c.next.new.self (cc) (cc) (cc) c.loop-a.yielded_by _ _ c.in-Some.is c.next.ensures.steps in
    omega (arith, c.requires.long, graph.few_arcs)

pub bounds-spans-a : goal.bounds-spans-a
bounds-spans-a g c =
    let graph = c.args.self.now.graph in
    let turn = paired_turn graph.arcs.now c.args.self.now.costs.now c.loop-a.yielded c.into_iter-a-iterator.result c.loop-a.a-iterator c.next.new.self (cc) (cc) (cc) c.loop-a.yielded_by _ _ c.in-Some.is c.next.ensures.steps in
    omega (arith, c.requires.long)

pub loop-a-preserved-then-due : goal.loop-a-preserved-then-due
loop-a-preserved-then-due g c =
    let graph = c.args.self.now.graph in
    let turn = paired_turn graph.arcs.now c.args.self.now.costs.now c.loop-a.yielded c.into_iter-a-iterator.result c.loop-a.a-iterator c.next.new.self (cc) (cc) (cc) c.loop-a.yielded_by _ _ c.in-Some.is c.next.ensures.steps in
    let costs = map g.C.Cost.meaning c.args.self.now.costs.now in
    let price = numbers c.args.prices.now in
    let given_step = c.ranges.step in
    let R : ℕ → Span → Type 0 = λ k x. Narrow (cost_of costs k) (tension (net_in graph costs) price k) c.args.step x.low x.high in
    let Q : ℕ → Type 0 = λ k. FnReturnsAt g.F.Fn c.args.due (arc_at graph.arcs.now k) false in
    let before : (k : ℕ) → k < length graph.arcs.now → (k < length c.loop-a.yielded) ⊎ Q k → R k (get_or c.loop-a.spans k no_span) = simp to_z-of_z at c.loop-a.invariant.2 in
    let read = cost_read g.C.Cost.meaning c.args.self.now.costs.now (length c.loop-a.yielded) c.in-Some.cost.now turn.2 (turn.4 c.in-Some.cost.now) in
    let fits : SFits w64 c.tension.result = search rules in
    let narrow : Narrow (g.C.Cost.meaning c.in-Some.cost.now) (price c.in-Some.arc.now.tail -ℤ price c.in-Some.arc.now.head) c.args.step c.narrowed.result.low c.narrowed.result.high = rw (← c.tension.ensures) (simp to_z-of_z at c.narrowed.ensures) in
    let here : R (length c.loop-a.yielded) c.narrowed.result = rw read (subst (λ (x : Arc). Narrow (g.C.Cost.meaning c.in-Some.cost.now) (price x.tail -ℤ price x.head) c.args.step c.narrowed.result.low c.narrowed.result.high) (turn.3 no_arc) narrow) in
    (search rules, tt, rw (length-append c.loop-a.yielded ((c.in-Some.a, (c.in-Some.arc, c.in-Some.cost)) ∷ []), turn.0) (simp to_z-of_z (one_renewed R c.loop-a.spans (length c.loop-a.yielded) no_span Q (length graph.arcs.now) before c.narrowed.result (omega (arith, c.requires.long)) here)))

pub loop-a-preserved : goal.loop-a-preserved
loop-a-preserved g c =
    let graph = c.args.self.now.graph in
    let turn = paired_turn graph.arcs.now c.args.self.now.costs.now c.loop-a.yielded c.into_iter-a-iterator.result c.loop-a.a-iterator c.next.new.self (cc) (cc) (cc) c.loop-a.yielded_by _ _ c.in-Some.is c.next.ensures.steps in
    let costs = map g.C.Cost.meaning c.args.self.now.costs.now in
    let price = numbers c.args.prices.now in
    let given_step = c.ranges.step in
    let R : ℕ → Span → Type 0 = λ k x. Narrow (cost_of costs k) (tension (net_in graph costs) price k) c.args.step x.low x.high in
    let Q : ℕ → Type 0 = λ k. FnReturnsAt g.F.Fn c.args.due (arc_at graph.arcs.now k) false in
    let before : (k : ℕ) → k < length graph.arcs.now → (k < length c.loop-a.yielded) ⊎ Q k → R k (get_or c.loop-a.spans k no_span) = simp to_z-of_z at c.loop-a.invariant.2 in
    let kept : Q (length c.loop-a.yielded) = record { shown = c.in-Some.arc; shows = turn.3 no_arc; says = record { met = c.if-due.ensures } } in
    (search rules, tt, rw (length-append c.loop-a.yielded ((c.in-Some.a, (c.in-Some.arc, c.in-Some.cost)) ∷ [])) (simp to_z-of_z (one_kept R c.loop-a.spans (length c.loop-a.yielded) no_span Q (length graph.arcs.now) before kept)))

pub returns : goal.returns
returns g c a h =
    let graph = c.args.self.now.graph in
    let end = paired_end graph.arcs.now c.args.self.now.costs.now c.loop-a.yielded c.into_iter-a-iterator.result c.loop-a.a-iterator c.next.new.self (cc) (cc) (cc) c.loop-a.yielded_by _ c.in-None.is c.next.ensures.steps in
    let given_step = c.ranges.step in
    simp to_z-of_z at (c.loop-a.invariant.2 a h (inl (omega (arith, end, c.args.self.now.costed))))
