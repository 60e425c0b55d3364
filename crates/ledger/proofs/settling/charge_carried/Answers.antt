-- The loads that are listed are those that the arcs carry.
use Rattle.std.proofs.Common.{◌≡◌, ℕ, ◌<◌, [], map, length, ◌∙◌, rules}
use Rattle.network.specs.Records.{net_of, numbers}
use Rattle.network.proofs.Nets.{charge_is}
use Rattle.network.proofs.Changes.{charge_same}
use Rattle.search.specs.Settled.{loads_of}
use Rattle.ledger.proofs.settling.charge_carried.Goals as goal

pub returns : goal.returns
returns g c =
    let arcs = c.args.arcs.now in
    let costs = map g.C.Cost.meaning c.args.costs.now in
    let loads = c.as_slice.result.now in
    let listed : length loads ≡ length arcs = search rules in
    let each : (k : ℕ) → k < length arcs → numbers loads k ≡ loads_of arcs k = search rules in
    let sum = charge_is [] arcs costs loads listed ∙ charge_same (net_of [] arcs costs) (numbers loads) (loads_of arcs) each in
    search rules
