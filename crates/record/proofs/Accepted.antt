-- A text that is accepted is the text of the book and the rows that were read.
use Rattle.std.proofs.Common.{◌≡◌, ℕ, zero, suc, ◌+◌, List, length, ℤ, Ok, Err, codes, sym, refl, ap, arith}
use Rattle.text.specs.Theorems.{Stands}
use Rattle.text.proofs.Standing.{stands_none, stands_then}
use Rattle.record_form.specs.Lines.{line, row_lines, row_at}
use Rattle.record_form.proofs.Wording.{row_is_written}
use Rattle.record.specs.Readings.{Kind, Stage, formed, up_to, accepted_row, row_then, row_stage, rows_from}
use Rattle.record.proofs.Inverting.{both_stages, formed_made, up_to_made, row_accepted}

-- the line of a row
abbrev cost_line : List ℤ → List ℕ
cost_line row = line (codes "c") row

module _ (kind : Kind) (text : List ℕ) where
  -- a row is read only where its line stands
  pub row_stands : (at number : ℕ) (row : List ℤ) (next : ℕ) → row_stage kind text at number ≡ Ok (row, next) → Stands text at (cost_line row) next
  unfolding row_stage
  row_stands at number row next e =
      let one = both_stages (formed (row_at text at kind.long)) (λ (r : List ℤ) (n : ℕ). up_to n (accepted_row (kind.refuses r) number r)) (row, next) e in
      let other = one.0.0 in
      let two = up_to_made one.0.1 (accepted_row (kind.refuses other) number other) (row, next) one.2 in
      let three = row_accepted (kind.refuses other) number other row two.0 in
      let stands = row_is_written text at kind.long other one.0.1 (formed_made (row_at text at kind.long) (other, one.0.1) one.1) in
      placed other row one.0.1 next three.1 two.1 stands
    where
      placed : (r s : List ℤ) (m n : ℕ) → r ≡ s → m ≡ n → Stands text at (cost_line r) m → Stands text at (cost_line s) n
      placed r s m n is to known = rw (sym is, sym to) known

  -- what is known of rows that were all read
  pub record Rowed (at n end : ℕ) (rows : List (List ℤ)) : Type 0 where
    pub stand : Stands text at (row_lines rows) end
    pub each : length rows ≡ n

  one_row : (n at number end : ℕ) (s : Stage (List ℤ)) → ((next : ℕ) → (rows_from kind text next (number + 1) n).end ≡ Ok end → Rowed next n end (rows_from kind text next (number + 1) n).rows)
      → row_stage kind text at number ≡ s → (row_then s (λ next. rows_from kind text next (number + 1) n)).end ≡ Ok end
      → Rowed at (suc n) end (row_then s (λ next. rows_from kind text next (number + 1) n)).rows
  one_row n at number end (Err fault) others is ends = absurd (let z : ◌≡◌ {A = ℕ} 0 1 = cc in omega arith)
  one_row n at number end (Ok read) others is ends =
      let rest = others read.1 ends in
      let rows = (rows_from kind text read.1 (number + 1) n).rows in
      record {
        stand = stands_then text at (cost_line read.0) read.1 (row_lines rows) end (row_stands at number read.0 read.1 is) rest.stand;
        each = ap suc rest.each;
      }

  pub rows_stand : (n at number end : ℕ) → (rows_from kind text at number n).end ≡ Ok end → Rowed at n end (rows_from kind text at number n).rows
  unfolding rows_from
  rows_stand zero at number end e = let same : at ≡ end = cc in record { stand = rw (sym same) (stands_none text at); each = refl }
  rows_stand (suc n) at number end e = one_row n at number end (row_stage kind text at number) (λ next. rows_stand n next (number + 1) end) refl e
