use Rattle.std.proofs.Common.{List, ℤ, Ok, sym, refl, ap, ◌∙◌, rules}
use Rattle.std.specs.Result.{result_err}
use Rattle.std.proofs.lemmas.Result.{err_from_is_err_and, IfOk-at_ok}
use Rattle.text.proofs.Calls.{call_made, call_refused}
use Rattle.record.specs.Faults.{line_spot}
use Rattle.record.specs.declared.faults.RecordFault.TheVariants.{Cost}
use Rattle.record.proofs.Below.{met_by, met_value, met_refused}
use Rattle.record.proofs.Stages.{row_form, row_refused, row_read}
use Rattle.record.proofs.rows.cost_line.Goals as goal

pub returns-in_err-row : goal.returns-in_err-row
returns-in_err-row g c =
    let p = err_from_is_err_and c.from_residual.result c.from_residual.ensures.1 in
    let row = c.in_err-row.ensures in
    rw (p.1, p.2) (record { shown = record { answer = sym (row_form _ _ _ _ (call_refused refl row)); keeps = row.keeps }; untouched = refl })

pub returns-in_err-map_err : goal.returns-in_err-map_err
returns-in_err-map_err g c =
    let p = err_from_is_err_and c.from_residual-in_err-map_err.result c.from_residual-in_err-map_err.ensures.1 in
    let met = met_by (λ fault. Cost fault (line_spot c.args.line)) c.fill.result c.map_err.result _ c.map_err.ensures.cases (λ below f gives. search rules) in
    let refused = met_refused _ c.fill.result (sym c.in_err-map_err.was ∙ met) in
    let row = c.in_ok-row.ensures in
    let some = sym (ap g.W.Written.refuses c.as_slice.ensures) ∙ sym c.fill.ensures.answer ∙ ap result_err refused.1 in
    rw (p.1, p.2, refused.2) (record { shown = record { answer = sym (row_refused _ _ _ _ (call_made refl row) some); keeps = row.keeps }; untouched = refl })

pub returns : goal.returns
returns g c =
    let met = met_by (λ fault. Cost fault (line_spot c.args.line)) c.fill.result c.map_err.result _ c.map_err.ensures.cases (λ below f gives. search rules) in
    let done = met_value _ c.fill.result (sym c.in_ok-map_err.was ∙ met) in
    let row = c.in_ok-row.ensures in
    let accepted = sym (ap g.W.Written.refuses c.as_slice.ensures) ∙ sym c.fill.ensures.answer ∙ ap result_err done in
    let filled = IfOk-at_ok _ done c.fill.ensures.filled in
    record {
      shown = record {
        answer = ap (λ (numbers : List ℤ). Ok (numbers, c.row.new.cursor.at)) (filled.0 ∙ c.as_slice.ensures) ∙ sym (row_read _ _ _ _ (call_made refl row) accepted);
        keeps = row.keeps;
      };
      untouched = tt;
    }
