-- A text that is accepted is the text of the book and of the rows that were read.
use Rattle.std.proofs.Common.{◌≡◌, ℕ, true, leb, List, [], ◌∷◌, ◌++◌, map, length, take, ℤ, pos, None, Ok, Err, Result, sym, refl, ap, ◌∙◌, subst, arith}
use Rattle.cost.specs.Meaning.{Meaning}
use Rattle.ledger.specs.Books.{Book}
use Rattle.sheet.specs.Drafts.{Sketch}
use Rattle.text.specs.Steps.{text_end_at}
use Rattle.text.proofs.Returning.{ends_are_written}
use Rattle.text.proofs.Standing.{stands_then, stands_all}
use Rattle.record_form.specs.Lines.{net_start, row_lines}
use Rattle.record.specs.Outcomes.{Reads}
use Rattle.record.specs.Readings.{Kind, Stage, Reading, formed, ended, closed, costed, network_stage, rows_from, reading}
use Rattle.record.specs.Theorems.{LoopFree}
use Rattle.record.specs.Texts.{record_text, network_text, supplies_of, tails_of, heads_of}
use Rattle.record.specs.declared.faults.RecordFault.{RecordFault}
use Rattle.record.proofs.Accepted.{Rowed, rows_stand}
use Rattle.record.proofs.Inverting.{formed_made}
use Rattle.record.proofs.Networks.{Sketched, sketched}

-- what is known of an accepted text
pub record Only (letter : ℕ) (text : List ℕ) (places : ℕ) (read : Reading) : Type 0 where
  pub is_text : text ≡ record_text letter read.book read.rows
  pub each : length read.rows ≡ length read.book.arcs
  pub enough : leb (length read.rows) places ≡ true
  pub apart : LoopFree read.book.arcs

module _ (kind : Kind) (text : List ℕ) (places : ℕ) where
  at_end : (k : Sketch) (m at end : ℕ) (rows : List (List ℤ)) → Sketched text kind.letter places k m at → Rowed kind text at m end rows → (s : Stage (Unit {0})) → formed (text_end_at text end) ≡ s
      → (closed k rows s).refusal ≡ None → Only kind.letter text places (closed k rows s)
  unfolding record_text
  at_end k m at end rows net costs (Err fault) is none = absurd (let z : ◌≡◌ {A = ℕ} 0 1 = cc in omega arith)
  at_end k m at end rows net costs (Ok read) is none =
      let over = (ends_are_written text end read.1).2 (formed_made (text_end_at text end) read is) in
      let front = network_text (net_start kind.letter) (pos (length k.nodes) ∷ pos (length k.arcs) ∷ []) (supplies_of k.nodes) (tails_of k.arcs) (heads_of k.arcs) in
      let whole = stands_then text 0 front at (row_lines rows) end net.stands costs.stand in
      record {
        is_text = stands_all text (front ++ row_lines rows) end whole over.0;
        each = costs.each ∙ sym net.arc_count;
        enough = ap (λ (n : ℕ). leb n places) costs.each ∙ net.enough;
        apart = net.apart;
      }

  with_rows : (k : Sketch) (m at : ℕ) (rows : List (List ℤ)) (end : Result ℕ RecordFault) → Sketched text kind.letter places k m at → ((last : ℕ) → end ≡ Ok last → Rowed kind text at m last rows)
      → (closed k rows (ended text end)).refusal ≡ None → Only kind.letter text places (closed k rows (ended text end))
  with_rows k m at rows (Ok end) net costs none = at_end k m at end rows net (costs end refl) (formed (text_end_at text end)) refl none
  with_rows k m at rows (Err fault) net costs none = absurd (let z : ◌≡◌ {A = ℕ} 0 1 = cc in omega arith)

  with_network : (s : Stage (Sketch × ℕ)) → network_stage text kind.letter places ≡ s → (costed kind text s).refusal ≡ None → Only kind.letter text places (costed kind text s)
  with_network (Err fault) is none = absurd (let z : ◌≡◌ {A = ℕ} 0 1 = cc in omega arith)
  with_network (Ok net) is none =
      with_rows net.0.0 net.0.1 net.1 (rows_from kind text net.1 5 net.0.1).rows (rows_from kind text net.1 5 net.0.1).end
      (sketched text kind.letter places net.0.0 net.0.1 net.1 is) (λ last. rows_stand kind text net.0.1 net.1 5 last) none

  pub only_written : (reading kind text places).refusal ≡ None → Only kind.letter text places (reading kind text places)
  unfolding reading
  only_written none = with_network (network_stage text kind.letter places) refl none

-- the same of what a call leaves that accepted the text
pub read_only_written : {C : Type 0} (row : C → List ℤ) (meaning : C → Meaning) (means : List ℤ → Meaning) (kind : Kind) (text : List ℕ) (places : ℕ) {u : Unit {0}} (sheet : Book) (before after : List C)
    → Reads row meaning means (reading kind text places) (Ok u) sheet before after → text ≡ record_text kind.letter sheet (map row (take (length sheet.arcs) after))
read_only_written {C} row meaning means kind text places sheet before after reads =
    let only = only_written kind text places (sym reads.answer) in
    let rows = (reading kind text places).rows in
    let each : length rows ≡ length sheet.arcs = only.each ∙ ap (λ (b : Book). length b.arcs) (sym reads.book) in
    let filled : rows ≡ map row (take (length sheet.arcs) after) = sym reads.places.filled ∙ ap (λ (n : ℕ). map row (take n after)) each in
    only.is_text ∙ ap (λ (b : Book). record_text kind.letter b rows) (sym reads.book) ∙ ap (record_text kind.letter sheet) filled

pub read_loop_free : {C : Type 0} (row : C → List ℤ) (meaning : C → Meaning) (means : List ℤ → Meaning) (kind : Kind) (text : List ℕ) (places : ℕ) {u : Unit {0}} (sheet : Book) (before after : List C)
    → Reads row meaning means (reading kind text places) (Ok u) sheet before after → LoopFree sheet.arcs
read_loop_free row meaning means kind text places sheet before after reads =
    subst (λ (b : Book). LoopFree b.arcs) (sym reads.book) (only_written kind text places (sym reads.answer)).apart
