-- The quadratic cost: three numbers a, b and c that stand for a·x + b·x² over the loads from 0 to c.
use Rattle.std.specs.Prelude.{ℕ, Bool, cond, ◌&&◌, List, [], ◌∷◌, map, ℤ, pos, ◌+ℤ◌, ◌-ℤ◌, ◌*ℤ◌, Some, None, Option, int_le, int_lt, slice_index_or}
use Rattle.std.specs.List.{range_with_len}
use Rattle.std.specs.Option.{option_map}
use Rattle.cost.specs.Meaning.{Meaning, empty_cost, natural}
use Rattle.cost.specs.Places.{or_else, kept_or}
use Rattle.cost.specs.Limits.{outside, load_limits, increment_limits, square_limits}
use Rattle.cost.specs.Rows.{whole_row}
use Rattle.cost.specs.declared.numbers.NumberFault.{NumberFault}
use Rattle.cost.specs.declared.refusals.CostFault.{CostFault}
use Rattle.cost.specs.declared.refusals.CostFault.TheVariants.{Pieces, Number, Steep}
use Rattle.quadratic_cost.specs.declared.quadratic.Quadratic.{Quadratic}

-- What going from x to x + 1 adds.
abbrev pub quadratic_increment : ℤ → ℤ → ℤ → ℤ
quadratic_increment a b x = a +ℤ pos 2 *ℤ b *ℤ x

-- The first load and the opening amount are 0, and the last load is c.
abbrev pub quadratic_meaning : ℤ → ℤ → ℤ → Meaning
quadratic_meaning a b c =
    record { first = 0; opening = pos 0; increments = map (λ x. quadratic_increment a b (pos x)) (range_with_len 0 (natural c)) }

-- The first of the three numbers outside its limits.
abbrev pub quadratic_outside : ℤ → ℤ → ℤ → Option NumberFault
quadratic_outside a b c = or_else (outside increment_limits 1 a) (or_else (outside square_limits 2 b) (outside load_limits 3 c))

-- The last increment passes the limit of an increment.
abbrev pub steep : ℤ → ℤ → ℤ → Bool
steep a b c = int_le (pos 1) c && int_lt (pos 1000000) (quadratic_increment a b (c -ℤ pos 1))

-- Why a quadratic cost is refused, the upper condition first.
abbrev pub quadratic_refusal : ℤ → ℤ → ℤ → Option CostFault
quadratic_refusal a b c = or_else (option_map Number (quadratic_outside a b c)) (cond (steep a b c) (Some Steep) None)

-- What any content means.
abbrev pub quadratic_content : Quadratic → Meaning
quadratic_content q = kept_or empty_cost (quadratic_refusal q.a q.b q.c) (quadratic_meaning q.a q.b q.c)

-- A row has three numbers: a, b and c.
abbrev pub quadratic_length : ℤ → Option ℕ
quadratic_length a = Some 3

-- Why a row makes no quadratic cost: a wrong length, and then as the constructor.
abbrev pub quadratic_row_refusal : List ℤ → Option CostFault
quadratic_row_refusal row =
    cond (whole_row quadratic_length row) (quadratic_refusal (slice_index_or row 0 (pos 0)) (slice_index_or row 1 (pos 0)) (slice_index_or row 2 (pos 0))) (Some Pieces)

-- What a row means that is not refused.
abbrev pub quadratic_row_meaning : List ℤ → Meaning
quadratic_row_meaning row = quadratic_meaning (slice_index_or row 0 (pos 0)) (slice_index_or row 1 (pos 0)) (slice_index_or row 2 (pos 0))

-- The row of a content; one that means the empty cost has the row of the empty cost.
abbrev pub quadratic_row : Quadratic → List ℤ
quadratic_row q = kept_or (pos 0 ∷ pos 0 ∷ pos 0 ∷ []) (quadratic_refusal q.a q.b q.c) (q.a ∷ q.b ∷ q.c ∷ [])
