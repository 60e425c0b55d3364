-- The two costs that stand over another cost.
use Rattle.std.specs.Prelude.{◌-◌, map, take, ℤ, negsuc}
use Rattle.std.specs.Int.{int_min, int_max}
use Rattle.cost.specs.Meaning.{Meaning, natural}

-- A cap cuts the range off: what lies above it is gone, and a cap below the first load leaves only that load.
abbrev pub capped : ℤ → Meaning → Meaning
capped k m = record { first = m.first; opening = m.opening; increments = take (natural k - m.first) m.increments }

-- Under a ceiling no request costs more than the ceiling; a ceiling below the lowest possible increment counts as that one.
abbrev pub ceiled : ℤ → Meaning → Meaning
ceiled g m = record { first = m.first; opening = m.opening; increments = map (int_min (int_max g (negsuc 999999))) m.increments }
