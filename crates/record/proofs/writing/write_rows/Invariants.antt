use Rattle.std.proofs.Common.{map, take}
use Rattle.text.specs.Writing.{Appends}
use Rattle.record_form.specs.Lines.{row_lines}
use Rattle.record.proofs.writing.write_rows.Given as goal

abbrev pub invariant-loop-cost : goal.invariant-loop-cost
invariant-loop-cost g l = Appends (row_lines (map g.W.Written.row (take l.cost-index l.costs))) l.fn.writer l.writer
