-- What a call on a cursor tells of the step that it makes, and what shows that it makes one.
use Rattle.std.proofs.Common.{◌≡◌, ℕ, List, Ok, Err, sym, ap, ◌∙◌}
use Rattle.text.specs.Steps.{Step, reached}
use Rattle.text.specs.Walks.{answer, text_of, Makes}
use Rattle.text.specs.declared.cursor.Cursor.{Cursor}
use Rattle.text.specs.declared.cursor.Malformed.{Malformed}

step_made : {T : Type 0} (step : Step T) (x : T) (at next : ℕ) → Ok x ≡ answer step → next ≡ reached at step → step ≡ Ok (x, next)
step_made {T} (Ok read) x at next e moved =
    let same : read.0 ≡ x = cc in
    ap (λ (y : T). Ok (y, read.1)) same ∙ ap (λ (n : ℕ). Ok (x, n)) (sym moved)
step_made (Err offset) x at next e moved = cc

step_refused : {T : Type 0} (step : Step T) (malformed : Malformed) → Err malformed ≡ answer step → step ≡ Err malformed.offset
step_refused (Ok read) malformed e = cc
step_refused {T} (Err other) malformed e =
    let same : record { offset = other } ≡ malformed = cc in
    ap (λ (m : Malformed). Err m.offset) same

module _ {T : Type 0} {step : List ℕ → ℕ → Step T} {before after : Cursor} where
  pub call_made : {text : List ℕ} {x : T} → text_of before ≡ text → Makes step before after (Ok x) → step text before.at ≡ Ok (x, after.at)
  call_made {text} {x} of call =
      sym (ap (λ (t : List ℕ). step t before.at) of) ∙ step_made (step (text_of before) before.at) x before.at after.at call.answers call.moves

  pub call_refused : {text : List ℕ} {malformed : Malformed} → text_of before ≡ text → Makes step before after (Err malformed) → step text before.at ≡ Err malformed.offset
  call_refused {text} {malformed} of call =
      sym (ap (λ (t : List ℕ). step t before.at) of) ∙ step_refused (step (text_of before) before.at) malformed call.answers

  pub makes : (x : T) → step (text_of before) before.at ≡ Ok (x, after.at) → text_of after ≡ text_of before → Makes step before after (Ok x)
  makes x e keeps = record { answers = sym (ap answer e); moves = sym (ap (reached before.at) e); keeps = keeps }

  pub refuses : (malformed : Malformed) → step (text_of before) before.at ≡ Err malformed.offset → after.at ≡ before.at → text_of after ≡ text_of before → Makes step before after (Err malformed)
  refuses malformed e stays keeps = record { answers = sym (ap answer e); moves = stays ∙ sym (ap (reached before.at) e); keeps = keeps }
