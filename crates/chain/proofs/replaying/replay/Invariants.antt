use Rattle.std.proofs.Common.{take}
use Rattle.sheet.specs.Sheets.{book_of}
use Rattle.chain.proofs.Whole.{Reached}
use Rattle.chain.proofs.replaying.replay.Given as goal

abbrev pub invariant-loop-call : goal.invariant-loop-call
invariant-loop-call g l =
    Reached g.C.Cost.meaning (record { book = book_of l.initial.sheet; costs = l.initial.costs }) (take l.call-index l.calls) (book_of l.sheet) l.costs l.so_far
