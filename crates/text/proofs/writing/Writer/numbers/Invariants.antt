use Rattle.std.proofs.Common.{take}
use Rattle.text.specs.Writing.{Appends, spaced}
use Rattle.text.proofs.writing.Writer.numbers.Given as goal

abbrev pub invariant-loop-number : goal.invariant-loop-number
invariant-loop-number l = Appends (spaced (take l.number-index l.numbers)) l.fn.self l.self
