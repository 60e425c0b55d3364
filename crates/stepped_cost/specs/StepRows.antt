-- The row of a stepped cost: how many pieces it has, where it starts and at what amount, then all widths, then all slopes.
use Rattle.std.specs.Prelude.{ℕ, ◌+◌, ◌*◌, cond, List, [], ◌∷◌, ◌++◌, length, take, drop, ℤ, pos, Some, None, Option, slice_index_or}
use Rattle.cost.specs.Meaning.{Meaning, natural}
use Rattle.cost.specs.Places.{kept_or}
use Rattle.cost.specs.Limits.{within, count_limits}
use Rattle.cost.specs.Rows.{whole_row}
use Rattle.cost.specs.declared.refusals.CostFault.{CostFault}
use Rattle.cost.specs.declared.refusals.CostFault.TheVariants.{Pieces}
use Rattle.stepped_cost.specs.Stepped.{stepped_refusal, stepped_meaning, widths_of, slopes_of}
use Rattle.stepped_cost.specs.declared.stepped.Stepped.{Stepped}

-- How many numbers a row has that begins with k; none where no row begins so.
abbrev pub stepped_length : ℤ → Option ℕ
stepped_length k = cond (within count_limits k) (Some (3 + 2 * natural k)) None

-- The widths of a row follow its first three numbers.
abbrev pub row_widths : List ℤ → List ℤ
row_widths row = take (natural (slice_index_or row 0 (pos 0))) (drop 3 row)

-- The slopes of a row follow its widths.
abbrev pub row_slopes : List ℤ → List ℤ
row_slopes row = drop (natural (slice_index_or row 0 (pos 0))) (drop 3 row)

-- Why a row makes no stepped cost: a wrong length or count, and then as the constructor.
abbrev pub stepped_row_refusal : List ℤ → Option CostFault
stepped_row_refusal row =
    cond (whole_row stepped_length row) (stepped_refusal (slice_index_or row 1 (pos 0)) (slice_index_or row 2 (pos 0)) (row_widths row) (row_slopes row)) (Some Pieces)

-- What a row means that is not refused.
abbrev pub stepped_row_meaning : List ℤ → Meaning
stepped_row_meaning row = stepped_meaning (slice_index_or row 1 (pos 0)) (slice_index_or row 2 (pos 0)) (row_widths row) (row_slopes row)

-- The row of a content; one that means the empty cost has the row of the empty cost.
abbrev pub stepped_row : Stepped → List ℤ
stepped_row c =
    kept_or (pos 0 ∷ pos 0 ∷ pos 0 ∷ []) (stepped_refusal c.first c.opening (widths_of c) (slopes_of c))
    (pos (length (widths_of c)) ∷ c.first ∷ c.opening ∷ (widths_of c ++ slopes_of c))
