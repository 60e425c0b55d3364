-- The spans are the ranges.
use Rattle.std.proofs.Common.{arith}
use Rattle.std.proofs.lemmas.Result.{IfErr-weaker}
use Rattle.flow.specs.Sets.{member}
use Rattle.search.proofs.Whole.{whole_ready, whole_barred}
use Rattle.search.proofs.networks.Network.route.Goals as goal

pub meet-requires-clause-ready : goal.meet-requires-clause-ready
meet-requires-clause-ready g c =
    let network = c.args.self.now in
    whole_ready g.C.Cost.meaning g.met.C.Cost.lawful network c.widen.new.spans (omega (arith, network.graph.few_arcs)) c.widen.ensures.lows c.widen.ensures.highs c.hold.new.loads (omega (arith, c.requires)) c.hold.ensures

pub returns-clause-barred : goal.returns-clause-barred
returns-clause-barred g c =
    let network = c.args.self.now in
    IfErr-weaker c.meet.result _ _
    (λ set full. whole_barred g.C.Cost.meaning g.met.C.Cost.lawful network c.widen.new.spans (omega (arith, network.graph.few_arcs)) c.widen.ensures.lows c.widen.ensures.highs (member set) full) c.meet.ensures.barred
