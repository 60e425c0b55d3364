use Rattle.std.proofs.Common.{◌≡◌, take}
use Rattle.sheet.specs.Sheets.{book_of}
use Rattle.record.specs.Texts.{heads_of, tails_of}
use Rattle.record.proofs.outlines.ends_of.Given as goal

abbrev pub invariant-loop-place : goal.invariant-loop-place
invariant-loop-place l = (l.tails.items ≡ take l.place (tails_of (book_of l.sheet).arcs)) × (l.heads.items ≡ take l.place (heads_of (book_of l.sheet).arcs))
