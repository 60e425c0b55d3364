-- The limits of the numbers that are handed over, and the refusal of a number outside them.
use Rattle.std.specs.Prelude.{ℕ, ◌+◌, Bool, cond, not, ◌&&◌, List, length, ℤ, pos, negsuc, Some, None, Option, int_le, slice_index_or}
use Rattle.std.specs.Option.{option_map}
use Rattle.cost.specs.Places.{first_place}
use Rattle.cost.specs.declared.numbers.Limits.{Limits}
use Rattle.cost.specs.declared.numbers.NumberFault.{NumberFault}
use Rattle.cost.specs.declared.numbers.NumberFault.TheVariants.{Outside}

-- The number lies within the limits, both ends included.
abbrev pub within : Limits → ℤ → Bool
within limits x = int_le limits.low x && int_le x limits.high

-- The refusal of a number by its limits; `position` is its position among the numbers of the call, from 1.
abbrev pub outside : Limits → ℕ → ℤ → Option NumberFault
outside limits position x = cond (within limits x) None (Some (Outside position))

-- The place, from 1, of the first number of a list that lies outside the limits.
abbrev pub first_outside : Limits → List ℤ → Option ℕ
first_outside limits xs = first_place (λ k. not (within limits (slice_index_or xs k (pos 0)))) (length xs)

-- The refusal of the first number of a list that lies outside the limits; `before` numbers of the call stand before the list.
abbrev pub outside_each : Limits → ℕ → List ℤ → Option NumberFault
outside_each limits before xs = option_map (λ place. Outside (before + place)) (first_outside limits xs)

-- Limits by their two ends.
abbrev from_to : ℤ → ℤ → Limits
from_to low high = record { low = low; high = high }

-- A load: a first load, a cap, the last load of a quadratic cost.
abbrev pub load_limits : Limits
load_limits = from_to (pos 0) (pos 10000)

-- An opening amount.
abbrev pub opening_limits : Limits
opening_limits = from_to (negsuc 999999999) (pos 1000000000)

-- The width of a piece.
abbrev pub width_limits : Limits
width_limits = from_to (pos 1) (pos 10000)

-- An increment: a slope, a ceiling, the number a of a quadratic cost.
abbrev pub increment_limits : Limits
increment_limits = from_to (negsuc 999999) (pos 1000000)

-- The number b of a quadratic cost.
abbrev pub square_limits : Limits
square_limits = from_to (pos 0) (pos 1000000)

-- The number of pieces of a stepped cost.
abbrev pub count_limits : Limits
count_limits = from_to (pos 0) (pos 8)
