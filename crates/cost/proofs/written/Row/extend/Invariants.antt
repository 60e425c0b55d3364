use Rattle.std.proofs.Common.{◌≡◌, ◌++◌, length, take}
use Rattle.cost.specs.Rows.{numbers_of}
use Rattle.cost.proofs.written.Row.extend.Given as goal

abbrev pub invariant-loop-number : goal.invariant-loop-number
invariant-loop-number l =
    (length l.self.numbers ≡ 19)
    × (numbers_of l.self ≡ take 19 (numbers_of l.initial.self ++ take l.number-index l.numbers))
