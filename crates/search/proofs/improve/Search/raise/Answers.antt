-- The spans of the arcs that do not cross the set stay as they are.
use Rattle.std.proofs.Common.{◌≡◌, ℕ, ◌<◌, ◌-◌, length, take, drop, subst, arith, rules, tests, w64, SFits}
use Rattle.std.proofs.lemmas.Int.{ints, to_z-of_z}
use Rattle.network.specs.Records.{numbers}
use Rattle.network.specs.declared.records.Arc.{Arc}
use Rattle.flow.specs.Spans.{low_of, high_of}
use Rattle.flow.specs.Sets.{member}
use Rattle.search.specs.Networks.{network_of}
use Rattle.search.proofs.Costed.{network_ends}
use Rattle.search.specs.Prices.{raised}
use Rattle.search.proofs.Attempts.{kept_beside, raised_front}
use Rattle.search.proofs.improve.Search.raise.Goals as goal

pub narrow-requires-clause-others : goal.narrow-requires-clause-others
narrow-requires-clause-others g c a h stays =
    let here = c.args.self.now in
    let graph = here.network.now.graph in
    let fits : SFits w64 here.step = omega (arith, ints, here.step_from, here.step_to) in
    let says = stays.says.met in
    let shown : member c.args.set.now stays.shown.now.tail ≡ member c.args.set.now stays.shown.now.head = search (rules, tests) in
    let alike = subst (λ (x : Arc). member c.args.set.now x.tail ≡ member c.args.set.now x.head) stays.shows shown in
    let nodes = length graph.nodes.now in
    let up : (v : ℕ) → v < length (take (nodes - 0) here.prices) → numbers c.raise_in.new.prices v ≡ raised (numbers (take (nodes - 0) here.prices)) (member c.args.set.now) here.step v = simp to_z-of_z at c.raise_in.ensures in
    let raised_all = raised_front nodes here.prices c.raise_in.new.prices (drop (nodes - 0) here.prices) (member c.args.set.now) here.step (omega (arith, here.priced, graph.few_nodes)) (omega arith) up in
    simp to_z-of_z (kept_beside (network_of g.C.Cost.meaning here.network.now) (network_ends g.C.Cost.meaning here.network.now) (numbers here.prices) _ (member c.args.set.now) here.step here.step (low_of here.spans) (high_of here.spans)
    raised_all c.requires.narrow a h alike)

pub returns-clause-prices : goal.returns-clause-prices
returns-clause-prices g c =
    let here = c.args.self.now in
    let nodes = length here.network.now.graph.nodes.now in
    let fits : SFits w64 here.step = omega (arith, ints, here.step_from, here.step_to) in
    let up : (v : ℕ) → v < length (take (nodes - 0) here.prices) → numbers c.raise_in.new.prices v ≡ raised (numbers (take (nodes - 0) here.prices)) (member c.args.set.now) here.step v = simp to_z-of_z at c.raise_in.ensures in
    raised_front nodes here.prices c.raise_in.new.prices _ (member c.args.set.now) here.step (omega (arith, here.priced, here.network.now.graph.few_nodes)) (omega arith) up

pub returns-clause-narrow : goal.returns-clause-narrow
returns-clause-narrow g c =
    let here = c.args.self.now in
    let fits : SFits w64 here.step = omega (arith, ints, here.step_from, here.step_to) in
    simp to_z-of_z at c.narrow.ensures
