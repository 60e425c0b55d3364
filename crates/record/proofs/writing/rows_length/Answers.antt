use Rattle.std.proofs.Common.{List, length, ℤ, codes, ap, ◌∙◌, arith}
use Rattle.record_form.specs.Lines.{line}
use Rattle.record.proofs.Lining.{length_more, lines_all}
use Rattle.record.proofs.writing.rows_length.Goals as goal

pub line_length-total-requires : goal.line_length-total-requires
line_length-total-requires g c =
    let few = (g.met.W.Recorded.few _ _ (g.met.W.Written.told c.cost-item.result)).1 in
    record { few = omega (arith, few, ap length (c.as_slice.ensures ∙ c.row-row.ensures.row)); short = omega arith }

pub overflow_add-total : goal.overflow_add-total
overflow_add-total g c =
    let few = (g.met.W.Recorded.few _ _ (g.met.W.Written.told c.cost-item.result)).1 in
    omega (arith, few, ap length (c.as_slice.ensures ∙ c.row-row.ensures.row), c.line_length-total.ensures.short, c.loop-cost.invariant.1, c.requires)

pub loop-cost-preserved : goal.loop-cost-preserved
loop-cost-preserved g c =
    let few = (g.met.W.Recorded.few _ _ (g.met.W.Written.told c.cost-item.result)).1 in
    let row = c.as_slice.ensures ∙ c.row-row.ensures.row in
    let more = length_more g.W.Written.row c.args.costs.now c.loop-cost.cost-index c.cost-item.result c.loop-cost-test.true c.cost-item.is in
    let long = c.line_length-total.ensures.length ∙ ap (λ (xs : List ℤ). length (line (codes "c") xs)) row in (
      omega (arith, more, long, c.loop-cost.invariant.0),
      omega (arith, few, ap length row, c.line_length-total.ensures.short, c.loop-cost.invariant.1),
    )

pub returns : goal.returns
returns g c =
    let all = lines_all g.W.Written.row c.args.costs.now c.loop-cost.cost-index c.loop-cost-test.false in
    record { length = c.loop-cost.invariant.0 ∙ ap length all; short = omega (arith, c.loop-cost.invariant.1) }
