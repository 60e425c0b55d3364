-- The number so far is a natural number; what is left, read after it, gives the whole number.
use Rattle.std.proofs.Common.{◌≡◌, drop, pos}
use Rattle.std.specs.Prelude.{unsigned_abs}
use Rattle.text.specs.Fields.{value_after}
use Rattle.text.proofs.numerals.digits_value.Given as goal

abbrev pub invariant-loop-digit : goal.invariant-loop-digit
invariant-loop-digit l = (l.number ≡ pos (unsigned_abs l.number)) × (value_after (unsigned_abs l.number) (drop l.digit-index l.digits) ≡ value_after 0 l.digits)
