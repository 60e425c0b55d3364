use Rattle.std.proofs.Common.{◌≤◌, List, length, ℤ, Ok, sym, refl, ap, ◌∙◌, arith, w64, SFits}
use Rattle.std.proofs.lemmas.Int.{to_z-of_z}
use Rattle.std.proofs.lemmas.Result.{err_from_is_err_and}
use Rattle.text.proofs.Calls.{call_made, call_refused, makes, refuses}
use Rattle.record_form.proofs.Sequences.{row_numbers, row_line_end, row_end_made, row_put_together}
use Rattle.record_form.proofs.lines.row_end.Goals as goal

pub returns-in_err-numbers : goal.returns-in_err-numbers
returns-in_err-numbers c =
    let p = err_from_is_err_and c.from_residual.result c.from_residual.ensures.1 in
    rw (p.1, p.2) (refuses _ (row_numbers _ _ _ _ (call_refused refl c.in_err-numbers.ensures)) refl refl)

pub returns-in_err-line_end : goal.returns-in_err-line_end
returns-in_err-line_end c =
    let p = err_from_is_err_and c.from_residual-in_err-line_end.result c.from_residual-in_err-line_end.ensures.1 in
    let numbers = c.in_ok-numbers.ensures in
    rw (p.1, p.2) (refuses _ (row_line_end _ _ _ _ (call_made refl numbers) (call_refused numbers.keeps c.in_err-line_end.ensures)) refl refl)

pub returns : goal.returns
returns c =
    let numbers = c.in_ok-numbers.ensures in
    let first : SFits w64 c.args.first = c.ranges.first in
    let front = simp to_z-of_z at c.extend.ensures in
    let few : length c.numbers.new.into ≤ 18 = omega arith in
    let whole = row_put_together _ _ _ _ _ c.empty-row.ensures front c.extend-2.ensures few in
    let made = row_end_made _ _ _ _ (call_made refl numbers) (call_made numbers.keeps c.in_ok-line_end.ensures) in
    makes _ (made ∙ ap (λ (xs : List ℤ). Ok (xs, c.line_end.new.self.at)) (sym whole)) refl
