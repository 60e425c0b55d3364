-- What the calls of this crate answer and leave.
use Rattle.std.specs.Prelude.{◌≡◌, ℕ, List, map, length, take, drop, ℤ, Ok, Err, Result}
use Rattle.std.specs.Result.{result_err}
use Rattle.cost.specs.Meaning.{Meaning}
use Rattle.ledger.specs.Books.{Book}
use Rattle.cost.specs.Places.{kept_or, unless}
use Rattle.text.specs.Writing.{written}
use Rattle.text.specs.Walks.{text_of}
use Rattle.text.specs.declared.cursor.Cursor.{Cursor}
use Rattle.record.specs.Readings.{Reading, Stage}
use Rattle.record.specs.Texts.{unwritten}
use Rattle.record.specs.declared.faults.RecordFault.{RecordFault}
use Rattle.record.specs.declared.faults.WritingFault.{WritingFault}

-- An answer by what its value shows.
abbrev pub shown_by : {T U F : Type 0} → (T → U) → Result T F → Result U F
shown_by show (Ok value) = Ok (show value)
shown_by show (Err fault) = Err fault

-- A call takes lines: its answer shows what the lines give, and the cursor moves past them within its text.
pub record Takes {T U : Type 0} (show : T → U) (stage : List ℕ → ℕ → Stage U) (before after : Cursor) (r : Result T RecordFault) : Type 0 where
  pub answer : shown_by (λ value. (show value, after.at)) r ≡ stage (text_of before) before.at
  pub keeps : text_of after ≡ text_of before

-- The first cost places were filled from rows, and the others are as they were.
pub record Filled {C : Type 0} (row : C → List ℤ) (before after : List C) (rows : List (List ℤ)) : Type 0 where
  pub filled : map row (take (length rows) after) ≡ rows
  pub others : drop (length rows) after ≡ drop (length rows) before

-- What a reading answers and leaves: its refusal, the book of the sheet, and cost places that have the rows and what they mean.
pub record Reads {C : Type 0} (row : C → List ℤ) (meaning : C → Meaning) (means : List ℤ → Meaning) (read : Reading) (r : Result (Unit {0}) RecordFault) (sheet : Book) (before after : List C) : Type 0 where
  pub answer : result_err r ≡ read.refusal
  pub book : sheet ≡ read.book
  pub places : Filled row before after read.rows
  pub meanings : map meaning (take (length read.rows) after) ≡ map means read.rows

-- What writing a text answers and leaves: a refusal, and the bytes as they were; or the length of the text, which then stands at their start with the others behind it as they were.
pub record Writes (arcs costs : ℕ) (text : List ℕ) (r : Result ℕ WritingFault) (before after : List ℕ) : Type 0 where
  pub answer : r ≡ unless (unwritten arcs costs (length text) (length before)) (length text)
  pub bytes : after ≡ kept_or before (unwritten arcs costs (length text) (length before)) (written before 0 text)
