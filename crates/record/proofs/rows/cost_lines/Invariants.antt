use Rattle.std.proofs.Common.{◌≡◌, ◌+◌, ◌-◌, map, length, take, drop}
use Rattle.text.specs.Walks.{text_of}
use Rattle.record.specs.Readings.{Kind, rows_from}
use Rattle.record.proofs.Rowing.{onto}
use Rattle.record.proofs.rows.cost_lines.Given as goal

abbrev pub invariant-loop-i : goal.invariant-loop-i
invariant-loop-i g l =
    let kind : Kind = record { letter = g.W.Written.LETTER; long = g.W.Written.long; refuses = g.W.Written.refuses } in
    (rows_from kind (text_of l.fn.cursor) l.fn.cursor.at 5 (length l.initial.places)
    ≡ onto (map g.W.Written.row (take l.i l.places)) (rows_from kind (text_of l.fn.cursor) l.cursor.at (l.i + 5) (length l.initial.places - l.i)))
    × (drop l.i l.places ≡ drop l.i l.initial.places)
    × (text_of l.cursor ≡ text_of l.fn.cursor)
