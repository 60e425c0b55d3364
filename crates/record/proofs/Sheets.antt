-- The text that is written of a sheet reads back.
use Rattle.std.proofs.Common.{◌≡◌, ℕ, zero, suc, ◌+◌, ◌<◌, ◌≤◌, List, [], ◌∷◌, map, length, get_or, take, drop, ℤ, IfOk, Some, None, Ok, Err, Option, Result, refl, ap, arith}
use Rattle.std.proofs.lemmas.List.{get_or-take, length-take, take_at}
use Rattle.cost.specs.Places.{kept_or, unless}
use Rattle.network.specs.Records.{no_arc, no_node}
use Rattle.network.specs.declared.records.Arc.{Arc}
use Rattle.sheet.specs.Sheets.{book_of}
use Rattle.sheet.specs.declared.sheets.Sheet.{Sheet}
use Rattle.sheet.proofs.Tables.{sheet_loop_free}
use Rattle.text.specs.Writing.{written}
use Rattle.record.specs.Outcomes.{Writes}
use Rattle.record.specs.Readings.{Kind}
use Rattle.record.specs.Texts.{record_text, unwritten}
use Rattle.record.specs.Theorems.{ReadsBack}
use Rattle.record.specs.declared.faults.WritingFault.{WritingFault}
use Rattle.record.proofs.Returned.{Fit, Drawable}
use Rattle.record.proofs.Returning.{Good, reads_back}

-- ---- what every sheet keeps

module _ (s : Sheet) where
  few_nodes : length (book_of s).nodes ≤ 64
  few_nodes = omega (arith, length-take s.node_count s.table.nodes, s.few_nodes)

  few_arcs : length (book_of s).arcs ≤ 256
  few_arcs = omega (arith, length-take s.arc_count s.table.arcs, s.few_arcs)

  all_nodes : length (book_of s).nodes ≡ s.node_count
  all_nodes = omega (arith, length-take s.node_count s.table.nodes, s.few_nodes, s.node_places)

  fits : Fit (book_of s).nodes
  fits v h =
      let within : v < s.node_count = omega (arith, length-take s.node_count s.table.nodes) in
      rw (get_or-take s.node_count s.table.nodes v no_node within) (s.supplies v within)

  drawable : Drawable (length (book_of s).nodes) (book_of s).arcs
  drawable = record {
    tails = λ a h. let here = inside a h in omega (arith, all_nodes, ap (λ (x : Arc). x.tail) (get_or-take s.arc_count s.table.arcs a no_arc here), s.tails a here);
    heads = λ a h. let here = inside a h in omega (arith, all_nodes, ap (λ (x : Arc). x.head) (get_or-take s.arc_count s.table.arcs a no_arc here), s.heads a here);
    apart = sheet_loop_free s;
  }
    where
      inside : (a : ℕ) → a < length (book_of s).arcs → a < s.arc_count
      inside a h = omega (arith, length-take s.arc_count s.table.arcs)

-- ---- the rows of costs

pub good_rows : {C : Type 0} (kind : Kind) (row : C → List ℤ) → ((c : C) → Good kind (row c)) → (cs : List C) (k : ℕ) → k < length (map row cs) → Good kind (get_or (map row cs) k [])
good_rows kind row good [] k h = absurd (omega arith)
good_rows kind row good (c ∷ cs) zero h = good c
good_rows kind row good (c ∷ cs) (suc k) h = good_rows kind row good cs k (omega arith)

-- ---- what was written

pub written_text : (arcs costs : ℕ) (text : List ℕ) (r : Result ℕ WritingFault) (before after : List ℕ) → Writes arcs costs text r before after → IfOk r (λ n. take n after ≡ text)
written_text arcs costs text r before after writes = go (unwritten arcs costs (length text) (length before)) writes.answer writes.bytes
  where
    go : (o : Option WritingFault) → r ≡ unless o (length text) → after ≡ kept_or before o (written before 0 text) → IfOk r (λ n. take n after ≡ text)
    go (Some fault) answer bytes = rw answer tt
    go None answer bytes = rw (answer, bytes) (take_at text (drop (0 + length text) before) (length text) refl)

pub write_back : (kind : Kind) (s : Sheet) (rows : List (List ℤ)) (r : Result ℕ WritingFault) (after : List ℕ) → 32 < kind.letter → length rows ≡ length (book_of s).arcs
    → ((k : ℕ) → k < length rows → Good kind (get_or rows k [])) → IfOk r (λ n. take n after ≡ record_text kind.letter (book_of s) rows)
    → IfOk r (λ n. ReadsBack kind (book_of s) rows (take n after))
write_back kind s rows (Err fault) after visible each good is = tt
write_back kind s rows (Ok n) after visible each good is = λ places room.
    reads_back kind (take n after) (book_of s).nodes (book_of s).arcs (fits s) (drawable s) (few_nodes s) (few_arcs s) visible rows s.standing places each (omega arith) good is
