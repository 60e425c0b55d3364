-- What a call that reads a row answers.
use Rattle.std.specs.Prelude.{List, ℤ, Ok, Err, Result}
use Rattle.cost.specs.Rows.{numbers_of}
use Rattle.cost.specs.declared.written.Row.{Row}
use Rattle.text.specs.declared.cursor.Malformed.{Malformed}

-- The answer by the numbers of its row.
abbrev pub as_numbers : Result Row Malformed → Result (List ℤ) Malformed
as_numbers (Ok row) = Ok (numbers_of row)
as_numbers (Err malformed) = Err malformed
