-- How a reading ends: in its first four lines, in a row, before the end of the text, or with the book.
use Rattle.std.proofs.Common.{◌≡◌, ℕ, List, [], ◌∷◌, map, length, take, ℤ, None, Ok, Err, Result, sym, refl, ap, ◌∙◌, arith}
use Rattle.cost.specs.Meaning.{Meaning}
use Rattle.ledger.specs.Books.{Book, blank_book}
use Rattle.sheet.specs.Drafts.{Sketch, drafted}
use Rattle.text.specs.Steps.{text_end_at}
use Rattle.record.specs.Outcomes.{Filled, Reads}
use Rattle.record.specs.Readings.{Kind, Stage, Reading, answered, formed, refused_after, ended, closed, network_stage, rows_from, reading}
use Rattle.record.specs.declared.faults.RecordFault.{RecordFault}

module _ (kind : Kind) (text : List ℕ) (places : ℕ) where
  pub reading_refused : {f : RecordFault} → network_stage text kind.letter places ≡ Err f → reading kind text places ≡ refused_after [] f
  unfolding reading
  reading_refused e = rw e

  module _ {k : Sketch} {m at : ℕ} (net : network_stage text kind.letter places ≡ Ok ((k, m), at)) (n : ℕ) (many : n ≡ m) where
    costs_read : reading kind text places ≡ closed k (rows_from kind text at 5 n).rows (ended text (rows_from kind text at 5 n).end)
    unfolding reading
    costs_read = rw net (ap (λ (j : ℕ). closed k (rows_from kind text at 5 j).rows (ended text (rows_from kind text at 5 j).end)) (sym many))

    pub reading_stopped : {f : RecordFault} → Err f ≡ (rows_from kind text at 5 n).end → reading kind text places ≡ refused_after (rows_from kind text at 5 n).rows f
    reading_stopped stop = costs_read ∙ ap (λ (end : Result ℕ RecordFault). closed k (rows_from kind text at 5 n).rows (ended text end)) (sym stop)

    to_the_end : {end : ℕ} → Ok end ≡ (rows_from kind text at 5 n).end → reading kind text places ≡ closed k (rows_from kind text at 5 n).rows (formed (text_end_at text end))
    to_the_end done = costs_read ∙ ap (λ (end : Result ℕ RecordFault). closed k (rows_from kind text at 5 n).rows (ended text end)) (sym done)

    closed_refused : (rows : List (List ℤ)) (s : Stage (Unit {0})) {f : RecordFault} → Err f ≡ answered s → closed k rows s ≡ refused_after rows f
    closed_refused rows (Ok read) e = absurd (let z : ◌≡◌ {A = ℕ} 0 1 = cc in omega arith)
    closed_refused rows (Err fault) e = ap (refused_after rows) cc

    closed_made : (rows : List (List ℤ)) (s : Stage (Unit {0})) {u : Unit {0}} → Ok u ≡ answered s → closed k rows s ≡ record { refusal = None; book = drafted k; rows = rows }
    closed_made rows (Ok read) e = refl
    closed_made rows (Err fault) e = absurd (let z : ◌≡◌ {A = ℕ} 0 1 = cc in omega arith)

    pub reading_cut : {end : ℕ} {f : RecordFault} → Ok end ≡ (rows_from kind text at 5 n).end → Err f ≡ answered (formed (text_end_at text end))
        → reading kind text places ≡ refused_after (rows_from kind text at 5 n).rows f
    reading_cut {end} done cut = to_the_end done ∙ closed_refused (rows_from kind text at 5 n).rows (formed (text_end_at text end)) cut

    pub reading_made : {end : ℕ} {u : Unit {0}} → Ok end ≡ (rows_from kind text at 5 n).end → Ok u ≡ answered (formed (text_end_at text end))
        → reading kind text places ≡ record { refusal = None; book = drafted k; rows = (rows_from kind text at 5 n).rows }
    reading_made {end} done over = to_the_end done ∙ closed_made (rows_from kind text at 5 n).rows (formed (text_end_at text end)) over

-- what a reading leaves, by how it ended
module _ {C : Type 0} (row : C → List ℤ) (meaning : C → Meaning) (means : List ℤ → Meaning) (meant : (c : C) → meaning c ≡ means (row c)) where
  pub all_mean : (cs : List C) → map meaning cs ≡ map means (map row cs)
  all_mean [] = refl
  all_mean (c ∷ cs) = ap (λ (m : Meaning). m ∷ map meaning cs) (meant c) ∙ ap (λ (ms : List Meaning). means (row c) ∷ ms) (all_mean cs)

  module _ (before after : List C) (rows : List (List ℤ)) (told : Filled row before after rows) where
    filled_mean : map meaning (take (length rows) after) ≡ map means rows
    filled_mean = all_mean (take (length rows) after) ∙ ap (map means) told.filled

    pub reads_refused : {read : Reading} {f : RecordFault} (sheet : Book) → sheet ≡ blank_book → read ≡ refused_after rows f → Reads row meaning means read (Err f) sheet before after
    reads_refused sheet blank e = rw e (record { answer = refl; book = blank; places = told; meanings = filled_mean })

    pub reads_made : {read : Reading} {opened : Book} {u : Unit {0}} (sheet : Book) → sheet ≡ opened → read ≡ record { refusal = None; book = opened; rows = rows }
        → Reads row meaning means read (Ok u) sheet before after
    reads_made sheet opens e = rw e (record { answer = refl; book = opens; places = told; meanings = filled_mean })

  pub none_filled : (before : List C) → Filled row before before []
  none_filled before = record { filled = refl; others = refl }
