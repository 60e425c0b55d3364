use Rattle.std.proofs.Common.{refl, ◌∙◌}
use Rattle.std.proofs.lemmas.Result.{err_from_is_err_and}
use Rattle.text.proofs.Calls.{call_made, call_refused, makes, refuses}
use Rattle.record_form.proofs.Sequences.{list_word, list_numbers, list_end, list_made}
use Rattle.record_form.proofs.lines.list.Goals as goal

pub returns-in_err-word : goal.returns-in_err-word
returns-in_err-word c =
    let p = err_from_is_err_and c.from_residual.result c.from_residual.ensures.1 in
    rw (p.1, p.2) (refuses _ (list_word _ _ _ _ (call_refused refl c.in_err-word.ensures)) refl refl)

pub returns-in_err-numbers : goal.returns-in_err-numbers
returns-in_err-numbers c =
    let p = err_from_is_err_and c.from_residual-in_err-numbers.result c.from_residual-in_err-numbers.ensures.1 in
    let word = c.in_ok-word.ensures in
    rw (p.1, p.2) (refuses _ (list_numbers _ _ _ _ (call_made refl word) (call_refused word.keeps c.in_err-numbers.ensures)) refl refl)

pub returns-in_err-line_end : goal.returns-in_err-line_end
returns-in_err-line_end c =
    let p = err_from_is_err_and c.from_residual-in_err-line_end.result c.from_residual-in_err-line_end.ensures.1 in
    let word = c.in_ok-word.ensures in
    let numbers = c.in_ok-numbers.ensures in
    rw (p.1, p.2) (refuses _ (list_end _ _ _ _ (call_made refl word) (call_made word.keeps numbers) (call_refused (numbers.keeps ∙ word.keeps) c.in_err-line_end.ensures)) refl refl)

pub returns : goal.returns
returns c =
    let word = c.in_ok-word.ensures in
    let numbers = c.in_ok-numbers.ensures in
    makes _ (list_made _ _ _ _ (call_made refl word) (call_made word.keeps numbers) (call_made (numbers.keeps ∙ word.keeps) c.in_ok-line_end.ensures)) refl
