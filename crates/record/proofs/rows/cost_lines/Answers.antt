use Rattle.std.proofs.Common.{◌<◌, ◌≤◌, length, sym, ap, ◌∙◌, arith}
use Rattle.std.proofs.lemmas.Result.{err_from_is_err_and}
use Rattle.record.specs.Readings.{Rows}
use Rattle.record.proofs.Rowing.{loop_more, loop_stop, loop_done, filled_at, taken_more, dropped_more, stored_back}
use Rattle.record.proofs.Stages.{taken, not_taken}
use Rattle.record.proofs.rows.cost_lines.Goals as goal

pub returns-in_err-cost_line : goal.returns-in_err-cost_line
returns-in_err-cost_line g c =
    let p = err_from_is_err_and c.from_residual.result c.from_residual.ensures.1 in
    let told = c.in_err-cost_line.ensures in
    let few : c.loop-i.i ≤ length c.loop-i.places = omega arith in
    let refused = not_taken c.loop-i.invariant.2 told.shown in
    let all = loop_stop _ _ _ _ _ _ _ c.loop-i.invariant.0 c.loop-i-test.true refused in
    let back = stored_back c.loop-i.places c.loop-i.i c.index-places-i.result told.untouched in
    rw (p.1, p.2)
    (record {
      end = sym (ap (λ (rows : Rows). rows.end) all);
      places = rw back (filled_at g.W.Written.row c.args.places.now c.loop-i.places c.loop-i.i few (ap (λ (rows : Rows). rows.rows) all) c.loop-i.invariant.1);
      keeps = told.shown.keeps ∙ c.loop-i.invariant.2;
    })

pub loop-i-preserved : goal.loop-i-preserved
loop-i-preserved g c =
    let told = c.in_ok-cost_line.ensures in
    let within : c.loop-i.i < length c.loop-i.places = omega arith in
    let more = taken_more g.W.Written.row c.loop-i.places c.loop-i.i c.cost_line.new.place within in
    let read = taken c.loop-i.invariant.2 told.shown in (
      loop_more _ _ _ _ _ _ _ c.loop-i.invariant.0 c.loop-i-test.true read more,
      dropped_more c.loop-i.places c.args.places.now c.loop-i.i c.cost_line.new.place c.loop-i.invariant.1,
      told.shown.keeps ∙ c.loop-i.invariant.2,
    )

pub returns : goal.returns
returns g c =
    let few : c.loop-i.i ≤ length c.loop-i.places = omega arith in
    let all = loop_done _ _ _ _ _ _ _ c.loop-i.invariant.0 c.loop-i-test.false in
    record {
      end = sym (ap (λ (rows : Rows). rows.end) all);
      places = filled_at g.W.Written.row c.args.places.now c.loop-i.places c.loop-i.i few (ap (λ (rows : Rows). rows.rows) all) c.loop-i.invariant.1;
      keeps = c.loop-i.invariant.2;
    }
