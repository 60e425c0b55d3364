use Rattle.std.proofs.Common.{ℕ, ◌-◌, List, length, take, sym, ap, ◌∙◌, subst, arith}
use Rattle.std.proofs.lemmas.Result.{err_from_is_err_and}
use Rattle.record.proofs.Closing.{reading_refused, reading_stopped, reading_cut, reading_made, reads_refused, reads_made, none_filled}
use Rattle.text.specs.Steps.{Step}
use Rattle.text.proofs.Calls.{call_made, call_refused}
use Rattle.record.specs.Outcomes.{Filled}
use Rattle.record.specs.Readings.{Kind, answered, formed, rows_from}
use Rattle.record.proofs.Only.{read_loop_free, read_only_written}
use Rattle.record.proofs.Rowing.{filled_part, part_long}
use Rattle.record.proofs.Stages.{taken, not_taken}
use Rattle.record.proofs.reading.read.Goals as goal

pub returns-in_err-network : goal.returns-in_err-network
returns-in_err-network g c =
    let p = err_from_is_err_and c.from_residual.result c.from_residual.ensures.1 in
    let row = g.W.Written.row in
    let meant = g.met.W.Recorded.meant in
    rw (p.1, p.2)
    (record {
      outcome =
          reads_refused row g.W.Cost.meaning g.W.Written.means meant _ _ _ (none_filled row g.W.Cost.meaning g.W.Written.means meant _) _ c.blank.ensures
          (reading_refused _ _ _ (not_taken c.new-cursor.ensures.text c.in_err-network.ensures.shown));
      written = tt;
      apart = tt;
    })

pub returns-in_err-cost_lines : goal.returns-in_err-cost_lines
returns-in_err-cost_lines g c =
    let p = err_from_is_err_and c.from_residual-in_err-cost_lines.result c.from_residual-in_err-cost_lines.ensures.1 in
    let row = g.W.Written.row in
    let kind : Kind = record { letter = g.W.Written.LETTER; long = g.W.Written.long; refuses = g.W.Written.refuses } in
    let before = c.args.places.now in
    let net = c.in_ok-network.ensures in
    let m = c.in_ok-network.network.arcs in
    let rows = c.in_err-cost_lines.ensures in
    let text = net.shown.keeps ∙ c.new-cursor.ensures.text in
    let many = part_long before m net.arcs.1 in
    let read = taken c.new-cursor.ensures.text net.shown in
    let stop = rows.end ∙ ap (λ (t : List ℕ). (rows_from kind t c.network_lines.new.cursor.at 5 (length (take (m - 0) before))).end) text in
    let places = subst (λ (t : List ℕ). Filled row (take (m - 0) before) c.cost_lines.new.places (rows_from kind t c.network_lines.new.cursor.at 5 (length (take (m - 0) before))).rows) text rows.places in
    let part = filled_part row before c.cost_lines.new.places m _ net.arcs.1 (omega arith) places in
    rw (p.1, p.2)
    (record {
      outcome =
          reads_refused row g.W.Cost.meaning g.W.Written.means g.met.W.Recorded.meant _ _ _ part _ c.blank.ensures
          (reading_stopped kind _ _ read _ many stop);
      written = tt;
      apart = tt;
    })

pub returns-in_err-text_end : goal.returns-in_err-text_end
returns-in_err-text_end g c =
    let p = err_from_is_err_and c.from_residual-in_err-text_end.result c.from_residual-in_err-text_end.ensures.1 in
    let row = g.W.Written.row in
    let kind : Kind = record { letter = g.W.Written.LETTER; long = g.W.Written.long; refuses = g.W.Written.refuses } in
    let before = c.args.places.now in
    let net = c.in_ok-network.ensures in
    let m = c.in_ok-network.network.arcs in
    let rows = c.in_ok-cost_lines.ensures in
    let text = net.shown.keeps ∙ c.new-cursor.ensures.text in
    let many = part_long before m net.arcs.1 in
    let read = taken c.new-cursor.ensures.text net.shown in
    let stop = rows.end ∙ ap (λ (t : List ℕ). (rows_from kind t c.network_lines.new.cursor.at 5 (length (take (m - 0) before))).end) text in
    let places = subst (λ (t : List ℕ). Filled row (take (m - 0) before) c.cost_lines.new.places (rows_from kind t c.network_lines.new.cursor.at 5 (length (take (m - 0) before))).rows) text rows.places in
    let part = filled_part row before c.cost_lines.new.places m _ net.arcs.1 (omega arith) places in
    let over = sym (ap (λ (s : Step (Unit {0})). answered (formed s)) (call_refused (rows.keeps ∙ text) c.in_err-text_end.ensures)) in
    rw (p.1, p.2)
    (record {
      outcome =
          reads_refused row g.W.Cost.meaning g.W.Written.means g.met.W.Recorded.meant _ _ _ part _ c.blank.ensures
          (reading_cut kind _ _ read _ many stop over);
      written = tt;
      apart = tt;
    })

pub returns : goal.returns
returns g c =
    let row = g.W.Written.row in
    let kind : Kind = record { letter = g.W.Written.LETTER; long = g.W.Written.long; refuses = g.W.Written.refuses } in
    let before = c.args.places.now in
    let net = c.in_ok-network.ensures in
    let m = c.in_ok-network.network.arcs in
    let rows = c.in_ok-cost_lines.ensures in
    let text = net.shown.keeps ∙ c.new-cursor.ensures.text in
    let many = part_long before m net.arcs.1 in
    let read = taken c.new-cursor.ensures.text net.shown in
    let stop = rows.end ∙ ap (λ (t : List ℕ). (rows_from kind t c.network_lines.new.cursor.at 5 (length (take (m - 0) before))).end) text in
    let places = subst (λ (t : List ℕ). Filled row (take (m - 0) before) c.cost_lines.new.places (rows_from kind t c.network_lines.new.cursor.at 5 (length (take (m - 0) before))).rows) text rows.places in
    let part = filled_part row before c.cost_lines.new.places m _ net.arcs.1 (omega arith) places in
    let over = sym (ap (λ (s : Step (Unit {0})). answered (formed s)) (call_made (rows.keeps ∙ text) c.in_ok-text_end.ensures)) in
    let outcome =
    reads_made row g.W.Cost.meaning g.W.Written.means g.met.W.Recorded.meant _ _ _ part _ c.«open».ensures
    (reading_made kind _ _ read _ many stop over) in
    record {
      outcome = outcome;
      written = read_only_written row g.W.Cost.meaning g.W.Written.means kind _ _ _ _ _ outcome;
      apart = read_loop_free row g.W.Cost.meaning g.W.Written.means kind _ _ _ _ _ outcome;
    }
