use Rattle.std.proofs.Common.{◌≡◌, ℕ, List, ◌++◌, map, length, get_or, pos, sym, ap, ◌∙◌, arith}
use Rattle.std.proofs.lemmas.List.{length-map}
use Rattle.sheet.specs.Sheets.{book_of}
use Rattle.record_form.specs.Lines.{row_lines}
use Rattle.record.specs.Outlines.{outline_text}
use Rattle.record.specs.Readings.{Kind}
use Rattle.record.specs.Texts.{book_text, record_text}
use Rattle.record.proofs.Closing.{all_mean}
use Rattle.record.proofs.Returning.{Good}
use Rattle.record.proofs.Sheets.{good_rows, write_back, written_text}
use Rattle.record.proofs.Wholes.{writes_by, writes_none}
use Rattle.record.proofs.writing.write.Goals as goal

pub returns-then-costs-arc_count : goal.returns-then-costs-arc_count
returns-then-costs-arc_count g c = record {
  outcome = writes_none _ c.args.bytes.now _ _ (λ same. c.if-costs-arc_count.true (same ∙ sym c.arc_count.ensures));
  back = tt;
  means = all_mean g.W.Written.row g.W.Cost.meaning g.W.Written.means g.met.W.Recorded.meant c.args.costs.now;
}

pub returns : goal.returns
unfolding record_text
returns g c =
    let sheet = c.args.sheet.now in
    let book = book_of sheet in
    let rows = map g.W.Written.row c.args.costs.now in
    let each : length c.args.costs.now ≡ length book.arcs = omega (arith, c.arc_count.ensures, c.if-costs-arc_count.false) in
    let front : outline_text c.of-outline.result ≡ book_text g.W.Written.LETTER book = c.of-outline.ensures ∙ ap (λ (letter : ℕ). book_text letter book) c.LETTER.ensures in
    let outcome = writes_by (record_text g.W.Written.LETTER book rows) c.args.bytes.now _ _ (ap (λ (text : List ℕ). text ++ row_lines rows) front) each c.write_whole.ensures.answer c.write_whole.ensures.bytes in
    let kind : Kind = record { letter = g.W.Written.LETTER; long = g.W.Written.long; refuses = g.W.Written.refuses } in
    let laws = g.met.W.Written in
    let fits = g.met.W.Recorded in
    let good : (x : g.row.W.Denot) → Good kind (g.W.Written.row x) = λ x. record {
      accepted = laws.accepted x;
      told = laws.told x;
      some = (fits.few (get_or (g.W.Written.row x) 0 (pos 0)) (length (g.W.Written.row x)) (laws.told x)).0;
      brief = fits.brief x;
    } in
    record {
      outcome = outcome;
      back =
          write_back kind sheet rows c.write_whole.result c.write_whole.new.bytes fits.legible.0 (length-map c.args.costs.now g.W.Written.row ∙ each)
          (good_rows kind g.W.Written.row good c.args.costs.now)
          (written_text _ _ _ c.write_whole.result c.args.bytes.now c.write_whole.new.bytes outcome);
      means = all_mean g.W.Written.row g.W.Cost.meaning g.W.Written.means fits.meant c.args.costs.now;
    }
