-- The book that a sheet holds.
use Rattle.std.specs.Prelude.{take}
use Rattle.ledger.specs.Books.{Book}
use Rattle.sheet.specs.declared.sheets.Sheet.{Sheet}

-- The book of a sheet: of its tables as many records as it has nodes and arcs.
abbrev pub book_of : Sheet → Book
book_of s = record { nodes = take s.node_count s.table.nodes; arcs = take s.arc_count s.table.arcs; standing = s.standing }
