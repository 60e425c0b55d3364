use Rattle.std.proofs.Common.{◌≡◌, ℤ, Ok, Err, Result, ◌+◌, length, refl, sym, ap, ◌∙◌, w64, SFits, rules}
use Rattle.std.specs.Option.{ok_or}
use Rattle.std.proofs.lemmas.Result.{err_from_is_err_and}
use Rattle.std.proofs.lemmas.Int.{to_z-of_z}
use Rattle.text.specs.declared.cursor.Malformed.{Malformed}
use Rattle.text.proofs.Calls.{makes, refuses}
use Rattle.text.proofs.Digits.{number_refused, number_made}
use Rattle.text.proofs.cursor.Cursor.number.Goals as goal

same_fault : {m n : Malformed} → ◌≡◌ {A = Result ℤ Malformed} (Err m) (Err n) → m ≡ n
same_fault e = cc

pub returns-in_err-number : goal.returns-in_err-number
returns-in_err-number c =
    let p = err_from_is_err_and c.from_residual.result c.from_residual.ensures.1 in
    let none = c.in_err-number.ensures.ok_part in
    let same = same_fault (c.in_err-number.ensures.value ∙ ap (λ r. ok_or r c.malformed.result) none) in
    rw (p.1, p.2, same, c.malformed.ensures)
    (refuses _ (number_refused _ _ c.field-field.ensures c.number_in.ensures none) refl refl)

pub returns : goal.returns
returns c =
    let number = c.in_ok-number.number in
    let fits : SFits w64 number = search rules in
    let step = number_made _ _ c.field-field.ensures c.number_in.ensures c.in_ok-number.ensures.ok_part in
    makes _ (step ∙ ap (λ (x : ℤ). Ok (x, c.args.self.now.at + length c.field-field.result.now)) (sym (to_z-of_z w64 number fits))) refl
