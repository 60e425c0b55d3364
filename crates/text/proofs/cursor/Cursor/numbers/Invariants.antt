-- All numbers that were asked for are those that the list holds and those still to come.
use Rattle.std.proofs.Common.{◌≡◌, length}
use Rattle.text.specs.Walks.{text_of}
use Rattle.text.proofs.Listing.{Holds}
use Rattle.text.proofs.cursor.Cursor.numbers.Given as goal

abbrev pub invariant-loop-number : goal.invariant-loop-number
invariant-loop-number l =
    (text_of l.ahead ≡ text_of l.self)
    × Holds (text_of l.self) l.self.at l.ahead.at (length l.initial.into) l.into l.number-index
