-- The spans hold the loads slack near the tensions, so what holds within them holds of the network.
use Rattle.std.proofs.Common.{arith}
use Rattle.std.proofs.lemmas.Result.{on_ok_weaker, IfErr-weaker}
use Rattle.network.specs.Records.{numbers}
use Rattle.flow.specs.Sets.{member}
use Rattle.search.proofs.Attempts.{ready_within, slack_within, rises_beyond}
use Rattle.search.proofs.improve.Search.attempt.Goals as goal

pub meet-requires-clause-ready : goal.meet-requires-clause-ready
meet-requires-clause-ready g c = ready_within g.C.Cost.meaning g.met.C.Cost.lawful c.args.self.now c.requires.narrow c.hold.new.loads (omega (arith, c.requires.loaded)) c.hold.ensures

pub returns-clause-slack : goal.returns-clause-slack
returns-clause-slack g c = on_ok_weaker c.meet.result (slack_within g.C.Cost.meaning g.met.C.Cost.lawful c.args.self.now c.requires.narrow (numbers c.meet.new.loads)) c.meet.ensures.met

pub returns-clause-rises : goal.returns-clause-rises
returns-clause-rises g c =
    IfErr-weaker c.meet.result _ _ (λ set full. rises_beyond g.C.Cost.meaning g.met.C.Cost.lawful c.args.self.now c.requires.narrow (member set) full) c.meet.ensures.barred
