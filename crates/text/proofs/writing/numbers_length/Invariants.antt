use Rattle.std.proofs.Common.{◌≡◌, ◌*◌, ◌≤◌, length, take}
use Rattle.text.specs.Writing.{spaced}
use Rattle.text.proofs.writing.numbers_length.Given as goal

abbrev pub invariant-loop-number : goal.invariant-loop-number
invariant-loop-number l = (l.count ≡ length (spaced (take l.number-index l.numbers))) × (l.count ≤ 22 * l.number-index)
