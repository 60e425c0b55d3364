use Rattle.std.proofs.Common.{List, ℕ, subst}
use Rattle.text.specs.Writing.{Appends}
use Rattle.record.proofs.Lining.{lines_all, room_more, appends_more}
use Rattle.record.proofs.writing.write_rows.Goals as goal

pub write_row-requires : goal.write_row-requires
write_row-requires g c =
    room_more g.W.Written.row c.args.costs.now c.loop-cost.cost-index c.cost-item.result c.loop-cost-test.true c.cost-item.is c.requires c.loop-cost.invariant

pub loop-cost-preserved : goal.loop-cost-preserved
loop-cost-preserved g c =
    appends_more g.W.Written.row c.args.costs.now c.loop-cost.cost-index c.cost-item.result c.loop-cost-test.true c.cost-item.is c.requires c.loop-cost.invariant c.write_row.ensures

pub returns : goal.returns
returns g c =
    subst (λ (text : List ℕ). Appends text c.args.writer.now c.loop-cost.writer) (lines_all g.W.Written.row c.args.costs.now c.loop-cost.cost-index c.loop-cost-test.false)
    c.loop-cost.invariant
