-- What a call on a cursor does.
use Rattle.std.specs.Prelude.{◌≡◌, ℕ, List, Ok, Err, Result}
use Rattle.text.specs.Steps.{Step, reached}
use Rattle.text.specs.declared.cursor.Cursor.{Cursor}
use Rattle.text.specs.declared.cursor.Malformed.{Malformed}

-- The text that a cursor walks through.
abbrev pub text_of : Cursor → List ℕ
text_of cursor = cursor.text.now

-- The answer of a call that makes a step: what it read, or the offending byte.
abbrev pub answer : {T : Type 0} → Step T → Result T Malformed
answer (Ok read) = Ok read.0
answer (Err offset) = Err (record { offset = offset })

-- A call makes a step: it answers what the step gives, and moves past what was read; a refused step leaves the cursor as it was.
pub record Makes {T : Type 0} (step : List ℕ → ℕ → Step T) (before after : Cursor) (r : Result T Malformed) : Type 0 where
  pub answers : r ≡ answer (step (text_of before) before.at)
  pub moves : after.at ≡ reached before.at (step (text_of before) before.at)
  pub keeps : text_of after ≡ text_of before

-- The answer of a call that leaves what it read in a list that was lent to it.
abbrev pub holding : {T : Type 0} → T → Result (Unit {0}) Malformed → Result T Malformed
holding held (Ok done) = Ok held
holding held (Err malformed) = Err malformed
