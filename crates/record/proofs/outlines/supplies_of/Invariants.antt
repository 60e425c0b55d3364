use Rattle.std.proofs.Common.{◌≡◌, take}
use Rattle.sheet.specs.Sheets.{book_of}
use Rattle.record.specs.Texts.{supplies_of}
use Rattle.record.proofs.outlines.supplies_of.Given as goal

abbrev pub invariant-loop-place : goal.invariant-loop-place
invariant-loop-place l = l.supplies.items ≡ take l.place (supplies_of (book_of l.sheet).nodes)
