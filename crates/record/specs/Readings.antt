-- What a text reads as: its lines are taken in order, and each line's form is tested before its values.
use Rattle.std.specs.Prelude.{ℕ, zero, suc, ◌+◌, cond, List, [], ◌∷◌, length, ℤ, Some, None, Ok, Err, codes, Option, Result, nat_le}
use Rattle.std.specs.Option.{option_map}
use Rattle.cost.specs.Limits.{outside}
use Rattle.cost.specs.Meaning.{natural}
use Rattle.cost.specs.declared.refusals.CostFault.{CostFault}
use Rattle.ledger.specs.Books.{Book, blank_book}
use Rattle.sheet.specs.Drafts.{Sketch, begun, drafted, feed_refusal, lay_refusal, with_arc, with_fed}
use Rattle.ledger.specs.Limits.{size_limits}
use Rattle.ledger.specs.declared.faults.DraftFault.{DraftFault}
use Rattle.ledger.specs.declared.faults.DraftFault.TheVariants.{Number}
use Rattle.text.specs.Steps.{Step, text_end_at}
use Rattle.record_form.specs.Lines.{first_line_at, list_at, row_at}
use Rattle.record_form.specs.declared.lines.Counts.{Counts}
use Rattle.record.specs.Faults.{line_spot, spot}
use Rattle.record.specs.declared.faults.RecordFault.{RecordFault}
use Rattle.record.specs.declared.faults.RecordFault.TheVariants.{Form, Space, Draft, Cost}
use Rattle.record.specs.declared.faults.Spot.{Spot}

-- What reading knows of a written kind of cost: its letter, how long a row is by its first number, and which rows are refused.
pub record Kind : Type 0 where
  pub letter : ℕ
  pub long : ℤ → Option ℕ
  pub refuses : List ℤ → Option CostFault

-- What a part of the reading gives: a value and the offset just past the lines that it took, or the refusal.
abbrev pub Stage : Type 0 → Type 0
Stage T = Result (T × ℕ) RecordFault

-- A step of the form, whose offending byte is a refusal.
abbrev pub formed : {T : Type 0} → Step T → Stage T
formed (Ok read) = Ok read
formed (Err offset) = Err (Form offset)

-- A part of the reading, and then another from where it ended.
abbrev pub go_on : {S T : Type 0} → Stage S → (S → ℕ → Stage T) → Stage T
go_on (Ok read) next = next read.0 read.1
go_on (Err fault) next = Err fault

-- What the values of a line make, with the offset just past the line.
abbrev pub up_to : {T : Type 0} → ℕ → Result T RecordFault → Stage T
up_to next (Ok value) = Ok (value, next)
up_to next (Err fault) = Err fault

-- A step of the draft at a spot of the text, and what follows if it is not refused.
abbrev pub unless_refused : {T : Type 0} → Option DraftFault → Spot → Result T RecordFault → Result T RecordFault
unless_refused (Some fault) place rest = Err (Draft fault place)
unless_refused None place rest = rest

-- The answer of a part of the reading.
abbrev pub answered : {T : Type 0} → Stage T → Result T RecordFault
answered (Ok read) = Ok read.0
answered (Err fault) = Err fault

-- ---- the network

-- The supplies are fed in order; each stands in a field of the second line.
abbrev pub fed : Sketch → ℕ → List ℤ → Result Sketch RecordFault
fed k field [] = Ok k
fed k field (x ∷ xs) = unless_refused (feed_refusal k x) (spot 2 field) (fed (with_fed k x) (field + 1) xs)

-- The arcs are laid in order; the ends of each belong to a field of the fourth line.
abbrev pub laid : Sketch → ℕ → List ℤ → List ℤ → Result Sketch RecordFault
laid k field [] heads = Ok k
laid k field (t ∷ tails) [] = Ok k
laid k field (t ∷ tails) (h ∷ heads) = unless_refused (lay_refusal k t h) (spot 4 field) (laid (with_arc k t h) (field + 1) tails heads)

-- The counts of the first line begin a draft, if there are as many cost places as arcs.
abbrev pub begun_by : ℕ → Counts → Result (Sketch × ℕ) RecordFault
begun_by places counts =
    cond (nat_le (natural counts.arcs) places)
    (unless_refused (option_map Number (outside size_limits 1 counts.nodes)) (spot 1 3) (Ok (begun (natural counts.nodes), natural counts.arcs)))
    (Err (Space (natural counts.arcs)))

-- The first line gives a draft that has begun, and how many arcs are to come.
unfoldable pub net_stage : List ℕ → ℕ → ℕ → Stage (Sketch × ℕ)
net_stage text letter places = go_on (formed (first_line_at text 0 letter)) (λ counts next. up_to next (begun_by places counts))

-- The second line feeds a supply to each node.
unfoldable pub supply_stage : List ℕ → ℕ → Sketch → Stage Sketch
supply_stage text at k = go_on (formed (list_at text at (codes "sup") (length k.nodes))) (λ supplies next. up_to next (fed k 2 supplies))

-- The third and the fourth line lay the arcs.
unfoldable pub arc_stage : List ℕ → ℕ → Sketch → ℕ → Stage Sketch
arc_stage text at k arcs =
    go_on (formed (list_at text at (codes "from") arcs)) (λ tails then.
    go_on (formed (list_at text then (codes "to") arcs)) (λ heads next. up_to next (laid k 2 tails heads)))

-- The first four lines give a draft of the whole network, and how many rows are to come.
unfoldable pub network_stage : List ℕ → ℕ → ℕ → Stage (Sketch × ℕ)
network_stage text letter places =
    go_on (net_stage text letter places) (λ start a.
    go_on (supply_stage text a start.0) (λ fed_all b.
    go_on (arc_stage text b fed_all start.1) (λ whole c. Ok ((whole, start.1), c))))

-- ---- the costs

-- A row that is refused is refused in its line, with no field.
abbrev pub accepted_row : Option CostFault → ℕ → List ℤ → Result (List ℤ) RecordFault
accepted_row (Some fault) line row = Err (Cost fault (line_spot line))
accepted_row None line row = Ok row

-- A line of a cost gives its row.
unfoldable pub row_stage : Kind → List ℕ → ℕ → ℕ → Stage (List ℤ)
row_stage kind text at line = go_on (formed (row_at text at kind.long)) (λ row next. up_to next (accepted_row (kind.refuses row) line row))

-- The rows that were accepted, and how the reading of rows ended.
pub record Rows : Type 0 where
  pub rows : List (List ℤ)
  pub end : Result ℕ RecordFault

-- A row, and then the others.
abbrev pub row_then : Stage (List ℤ) → (ℕ → Rows) → Rows
row_then (Ok read) rest = record { rows = read.0 ∷ (rest read.1).rows; end = (rest read.1).end }
row_then (Err fault) rest = record { rows = []; end = Err fault }

-- So many lines of costs, from a line on.
unfoldable pub rows_from : Kind → List ℕ → ℕ → ℕ → ℕ → Rows
rows_from kind text at line zero = record { rows = []; end = Ok at }
rows_from kind text at line (suc more) = row_then (row_stage kind text at line) (λ next. rows_from kind text next (line + 1) more)

-- ---- the whole text

-- What a reading comes to: its refusal if there is one, the book that the sheet then is, and the rows of the costs that were filled.
pub record Reading : Type 0 where
  pub refusal : Option RecordFault
  pub book : Book
  pub rows : List (List ℤ)

-- A refused reading leaves the sheet blank, and the costs of earlier rows filled.
abbrev pub refused_after : List (List ℤ) → RecordFault → Reading
refused_after rows fault = record { refusal = Some fault; book = blank_book; rows = rows }

-- After the last row the text ends.
abbrev pub ended : List ℕ → Result ℕ RecordFault → Stage (Unit {0})
ended text (Ok at) = formed (text_end_at text at)
ended text (Err fault) = Err fault

-- The book is opened once the whole text was read.
abbrev pub closed : Sketch → List (List ℤ) → Stage (Unit {0}) → Reading
closed k rows (Ok end) = record { refusal = None; book = drafted k; rows = rows }
closed k rows (Err fault) = refused_after rows fault

-- The rows follow the network, each for a cost place of its own.
abbrev pub costed : Kind → List ℕ → Stage (Sketch × ℕ) → Reading
costed kind text (Ok net) =
    closed net.0.0 (rows_from kind text net.1 5 net.0.1).rows (ended text (rows_from kind text net.1 5 net.0.1).end)
costed kind text (Err fault) = refused_after [] fault

-- What a text reads as, given so many cost places.
unfoldable pub reading : Kind → List ℕ → ℕ → Reading
reading kind text places = costed kind text (network_stage text kind.letter places)
