use Rattle.std.proofs.Common.{rules}
use Rattle.text.proofs.Digits.{natural_some, natural_few, natural_zero, natural_digits}
use Rattle.text.proofs.numerals.is_natural.Goals as goal

pub returns-in-None : goal.returns-in-None
returns-in-None c = search (rules, natural_some)

pub returns-in-Some-eq48 : goal.returns-in-Some-eq48
returns-in-Some-eq48 c = search (rules, natural_zero)

pub returns-then-digits-le-MOST_DIGITS : goal.returns-then-digits-le-MOST_DIGITS
returns-then-digits-le-MOST_DIGITS c = search (rules, natural_digits)

pub returns-else-digits-le-MOST_DIGITS : goal.returns-else-digits-le-MOST_DIGITS
returns-else-digits-le-MOST_DIGITS c = search (rules, natural_few)
