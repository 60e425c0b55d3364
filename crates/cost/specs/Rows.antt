-- The row of numbers by which a written kind of cost stands in a text.
use Rattle.std.specs.Prelude.{ℕ, suc, Bool, false, List, [], ◌∷◌, length, take, ℤ, Some, None, Option, ◌==◌}
use Rattle.cost.specs.declared.written.Row.{Row}

-- The numbers of a row: those that count.
abbrev pub numbers_of : Row → List ℤ
numbers_of row = take row.count row.numbers

-- A length that was told is the one that is there.
abbrev pub is_told : Option ℕ → ℕ → Bool
is_told (Some told) n = told == n
is_told None n = false

-- A row is as long as its first number tells.
abbrev pub whole_row : (ℤ → Option ℕ) → List ℤ → Bool
whole_row told [] = false
whole_row told (x ∷ xs) = is_told (told x) (suc (length xs))
