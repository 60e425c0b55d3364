use Rattle.std.proofs.Common.{◌≡◌, ℕ, ◌+◌, ◌≤◌, List, ◌++◌, map, length, ap, ◌∙◌, arith, rules}
use Rattle.std.proofs.lemmas.List.{length-append}
use Rattle.text.proofs.Overwriting.{appends_then}
use Rattle.text.specs.Writing.{HasRoom, written}
use Rattle.record_form.specs.Lines.{row_lines}
use Rattle.record.specs.Outlines.{outline_text}
use Rattle.record.proofs.Wholes.{refused_answer, refused_bytes, made_answer, made_bytes}
use Rattle.record.proofs.writing.write_whole.Goals as goal

pub returns-then-bytes-needed : goal.returns-then-bytes-needed
returns-then-bytes-needed g c =
    let front = outline_text c.args.outline.now in
    let back = row_lines (map g.W.Written.row c.args.costs.now) in
    let is : c.length.result + c.rows_length.result ≡ length (front ++ back) = omega (arith, length-append front back, c.length.ensures.length, c.rows_length.ensures.length) in
    record {
      answer = refused_answer (front ++ back) c.args.bytes.now _ is c.if-bytes-needed.true;
      bytes = refused_bytes (front ++ back) c.args.bytes.now _ is c.if-bytes-needed.true;
    }

pub returns : goal.returns
returns g c =
    let front = outline_text c.args.outline.now in
    let back = row_lines (map g.W.Written.row c.args.costs.now) in
    let bytes = c.args.bytes.now in
    let writer = c.new-writer.result in
    let long : c.length.result + c.rows_length.result ≡ length (front ++ back) = omega (arith, length-append front back, c.length.ensures.length, c.rows_length.ensures.length) in
    let room : HasRoom writer (front ++ back) = omega (arith, long, c.if-bytes-needed.false, c.new-writer.ensures.at, ap length c.new-writer.ensures.bytes) in
    let all = appends_then front back room c.write.ensures c.write_rows.ensures in
    let fits : length (front ++ back) ≤ length bytes = omega (arith, long, c.if-bytes-needed.false) in
    let same = all.same ∙ c.new-writer.ensures.same in
    let made =
    made_bytes (front ++ back) bytes fits
    (all.bytes ∙ ap (λ (t : List ℕ). written t writer.at (front ++ back)) c.new-writer.ensures.bytes ∙ ap (λ (n : ℕ). written bytes n (front ++ back)) c.new-writer.ensures.at) in
    record {
      answer = made_answer (front ++ back) bytes c.write_rows.new.writer.at (omega (arith, all.at, c.new-writer.ensures.at)) (omega (arith, all.at, c.new-writer.ensures.at, fits));
      bytes = search rules;
    }
