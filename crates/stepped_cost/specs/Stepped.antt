-- The stepped cost: a first load, an opening amount and up to eight pieces, each with a width and a slope.
use Rattle.std.specs.Prelude.{ℕ, ◌+◌, ◌-◌, Bool, cond, ◌&&◌, List, [], ◌∷◌, ◌++◌, length, take, replicate, ℤ, pos, negsuc, ◌+ℤ◌, ◌≤ℤ◌, Some, None, Option, ◌==◌, int_lt, nat_le, nat_lt, slice_index_or}
use Rattle.std.specs.Option.{option_map}
use Rattle.cost.specs.Meaning.{Meaning, empty_cost, total, natural, AllBetween, Rising}
use Rattle.cost.specs.Places.{first_place, or_else, kept_or}
use Rattle.cost.specs.Limits.{outside, outside_each, load_limits, opening_limits, width_limits, increment_limits}
use Rattle.cost.specs.declared.numbers.NumberFault.{NumberFault}
use Rattle.cost.specs.declared.refusals.CostFault.{CostFault}
use Rattle.cost.specs.declared.refusals.CostFault.TheVariants.{Pieces, Number, Long, Falls}
use Rattle.stepped_cost.specs.declared.stepped.Stepped.{Stepped}

-- One increment for each request: a piece gives its slope for every request that it is wide.
abbrev pub spread : List ℤ → List ℤ → List ℤ
spread [] ss = []
spread (w ∷ ws) [] = []
spread (w ∷ ws) (s ∷ ss) = replicate (natural w) s ++ spread ws ss

-- What a first load, an opening amount, widths and slopes mean together.
abbrev pub stepped_meaning : ℤ → ℤ → List ℤ → List ℤ → Meaning
stepped_meaning first opening ws ss = record { first = natural first; opening = opening; increments = spread ws ss }

-- As many widths as slopes, and at most eight.
abbrev pub paired : List ℤ → List ℤ → Bool
paired ws ss = length ws == length ss && nat_le (length ws) 8

-- The first load and the widths of the pieces up to the one at index k pass the limit of a load.
abbrev pub too_long : ℤ → List ℤ → ℕ → Bool
too_long first ws k = int_lt (pos 10000) (first +ℤ total (take (k + 1) ws))

-- The slope at index k lies below the one before it.
abbrev pub falling : List ℤ → ℕ → Bool
falling ss k = nat_lt 0 k && int_lt (slice_index_or ss k (pos 0)) (slice_index_or ss (k - 1) (pos 0))

-- The first number outside its limits; the call's numbers are the first load, the opening amount, the widths and the slopes.
abbrev pub stepped_outside : ℤ → ℤ → List ℤ → List ℤ → Option NumberFault
stepped_outside first opening ws ss =
    or_else (outside load_limits 1 first)
    (or_else (outside opening_limits 2 opening)
    (or_else (outside_each width_limits 2 ws) (outside_each increment_limits (2 + length ws) ss)))

-- Why a stepped cost is refused, the upper condition first.
abbrev pub stepped_refusal : ℤ → ℤ → List ℤ → List ℤ → Option CostFault
stepped_refusal first opening ws ss =
    or_else (cond (paired ws ss) None (Some Pieces))
    (or_else (option_map Number (stepped_outside first opening ws ss))
    (or_else (option_map Long (first_place (too_long first ws) (length ws))) (option_map Falls (first_place (falling ss) (length ss)))))

-- Pieces behind a first load that keep their laws: widths and slopes within their limits, no slope below the one before it, and no load past the limit.
pub record PiecesFit (first : ℤ) (ws ss : List ℤ) : Type 0 where
  pub widths_within : AllBetween (pos 1) (pos 10000) ws
  pub slopes_within : AllBetween (negsuc 999999) (pos 1000000) ss
  pub slopes_rise : Rising ss
  pub loads_within : (first +ℤ total ws) ≤ℤ pos 10000

-- The widths of the pieces of a content that count.
abbrev pub widths_of : Stepped → List ℤ
widths_of c = take c.count c.widths

-- The slopes of the pieces of a content that count.
abbrev pub slopes_of : Stepped → List ℤ
slopes_of c = take c.count c.slopes

-- What any content means.
abbrev pub stepped_content : Stepped → Meaning
stepped_content c =
    kept_or empty_cost (stepped_refusal c.first c.opening (widths_of c) (slopes_of c))
    (stepped_meaning c.first c.opening (widths_of c) (slopes_of c))

-- Numbers in an array of eight, with 0 behind them.
abbrev pub padded : List ℤ → List ℤ
padded xs = xs ++ replicate (8 - length xs) (pos 0)

-- The content that a constructor makes.
abbrev pub stepped_of : ℤ → ℤ → List ℤ → List ℤ → Stepped
stepped_of first opening ws ss = record { first = first; opening = opening; count = length ws; widths = padded ws; slopes = padded ss }
