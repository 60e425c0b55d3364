use Rattle.std.proofs.Common.{◌≡◌, ◌++◌, map, take, drop}
use Rattle.ledger.specs.Books.{reset_arc}
use Rattle.sheet.proofs.sheets.edits.reset_arcs.Given as goal

abbrev pub invariant-loop-arc : goal.invariant-loop-arc
invariant-loop-arc l = l.arcs ≡ map reset_arc (take l.arc-index l.initial.arcs) ++ drop l.arc-index l.initial.arcs
