use Rattle.std.proofs.Common.{◌≡◌, ◌*◌, ◌≤◌, map, length, take}
use Rattle.record_form.specs.Lines.{row_lines}
use Rattle.record.proofs.writing.rows_length.Given as goal

abbrev pub invariant-loop-cost : goal.invariant-loop-cost
invariant-loop-cost g l = (l.total ≡ length (row_lines (map g.W.Written.row (take l.cost-index l.costs)))) × (l.total ≤ 420 * l.cost-index)
