-- The charge at the start bounds how far the floor and the prices can rise.
use Rattle.std.proofs.Common.{◌≡◌, ℕ, ◌<◌, pos, ◌+ℤ◌, ◌≤ℤ◌, nat_abs, refl, ap, ◌∙◌, arith}
use Rattle.std.proofs.lemmas.Int.{ints}
use Rattle.network.specs.Network.{floor}
use Rattle.network.specs.Records.{numbers}
use Rattle.search.specs.Networks.{network_of}
use Rattle.flow.specs.Sets.{member}
use Rattle.search.specs.Prices.{raised}
use Rattle.search.proofs.Costed.{network_ends, network_lawful}
use Rattle.search.proofs.Climb.{climb_starts, climb_on, climb_limit, gap_less}
use Rattle.search.proofs.networks.Network.improve.Goals as goal

pub loop-set-init : goal.loop-set-init
loop-set-init g c =
    let network = c.args.self.now in
    let net = network_of g.C.Cost.meaning network in
    let ends = network_ends g.C.Cost.meaning network in
    (c.begin-search.ensures.network, c.begin-search.ensures.narrow, climb_starts net ends (numbers c.begin-search.result.prices) c.begin-search.ensures.prices)

pub raise-requires-clause-limits : goal.raise-requires-clause-limits
raise-requires-clause-limits g c =
    let network = c.args.self.now in
    let net = network_of g.C.Cost.meaning network in
    let ends = network_ends g.C.Cost.meaning network in
    let state = c.loop-set.search in
    let same = c.loop-set.invariant.0 in
    let price = numbers state.prices in
    let marked = member c.in-Err.set in
    let above : pos 1 ≤ℤ state.step = state.step_from in
    let rises : (floor net price +ℤ state.step) ≤ℤ floor net (raised price marked state.step) = rw (← same) c.in-Err.ensures.rises in
    let lawful = network_lawful g.C.Cost.meaning network g.met.C.Cost.lawful in
    let climbed = climb_on net ends price (raised price marked state.step) marked state.step (omega (arith, ints)) c.loop-set.invariant.2 (λ v h. refl) rises in
    rw same (climb_limit net ends (numbers c.args.loads.now) c.requires.meets network.graph.few_arcs lawful (raised price marked state.step) climbed)

pub loop-set-smaller-in-Err : goal.loop-set-smaller-in-Err
loop-set-smaller-in-Err g c =
    let network = c.args.self.now in
    let net = network_of g.C.Cost.meaning network in
    let ends = network_ends g.C.Cost.meaning network in
    let state = c.loop-set.search in
    let same = c.loop-set.invariant.0 in
    let price = numbers state.prices in
    let marked = member c.in-Err.set in
    let above : pos 1 ≤ℤ state.step = state.step_from in
    let rises : (floor net price +ℤ state.step) ≤ℤ floor net (raised price marked state.step) = rw (← same) c.in-Err.ensures.rises in
    let up : (v : ℕ) → v < net.nodes → numbers c.raise.new.self.prices v ≡ raised price marked state.step v = rw (← same) c.raise.ensures.prices in
    omega (arith, gap_less net ends (numbers c.args.loads.now) c.requires.meets price (numbers c.raise.new.self.prices) marked state.step above up rises, ap nat_abs c.raise.ensures.step)

pub loop-set-preserved-in-Err : goal.loop-set-preserved-in-Err
loop-set-preserved-in-Err g c =
    let network = c.args.self.now in
    let net = network_of g.C.Cost.meaning network in
    let ends = network_ends g.C.Cost.meaning network in
    let state = c.loop-set.search in
    let same = c.loop-set.invariant.0 in
    let price = numbers state.prices in
    let marked = member c.in-Err.set in
    let above : pos 1 ≤ℤ state.step = state.step_from in
    let rises : (floor net price +ℤ state.step) ≤ℤ floor net (raised price marked state.step) = rw (← same) c.in-Err.ensures.rises in
    let up : (v : ℕ) → v < net.nodes → numbers c.raise.new.self.prices v ≡ raised price marked state.step v = rw (← same) c.raise.ensures.prices in
    (c.raise.ensures.network ∙ same, c.raise.ensures.narrow, climb_on net ends price (numbers c.raise.new.self.prices) marked state.step (omega (arith, ints)) c.loop-set.invariant.2 up rises)
