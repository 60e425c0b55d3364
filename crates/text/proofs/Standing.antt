-- Bytes that stand in a text, and steps that were made one after another.
use Rattle.std.proofs.Common.{◌≡◌, ℕ, ◌+◌, ◌<◌, ◌≤◌, ◌⊎◌, inl, inr, Bool, true, false, cond, List, [], ◌∷◌, ◌++◌, length, get_or, drop, Ok, Err, sym, refl, ap, ◌∙◌, append_assoc, append-nil, arith}
use Rattle.std.proofs.lemmas.List.{drop_all, drop-drop, drop_more, get_or_past, length-append}
use Rattle.std.proofs.lemmas.Bool.{cases_lt}
use Rattle.text.specs.Fields.{field_at}
use Rattle.text.specs.Steps.{Step, and_then}
use Rattle.text.specs.Theorems.{Stands}
use Rattle.text.proofs.Runs.{field_splits}

-- a byte other than 0 is one of the text
pub byte_within : (text : List ℕ) (at : ℕ) → 0 < get_or text at 0 → at < length text
byte_within text at some = go (cases_lt at (length text))
  where
    go : (at < length text) ⊎ (length text ≤ at) → at < length text
    go (inl within) = within
    go (inr beyond) = absurd (omega (arith, get_or_past text at 0 beyond))

-- a step that is made under a test is made with the test passed
pub made_under : {T : Type 0} (test : Bool) (read other : T × ℕ) (offset : ℕ) → cond test (Ok read) (Err offset) ≡ Ok other
    → (test ≡ true) × (read.0 ≡ other.0) × (read.1 ≡ other.1)
made_under {T} true read other offset e =
    let same : read ≡ other = cc in
    (refl, ap (λ (r : T × ℕ). r.0) same, ap (λ (r : T × ℕ). r.1) same)
made_under false read other offset e = absurd (let z : ◌≡◌ {A = ℕ} 0 1 = cc in omega arith)

-- where two steps are made one after the other, each is made
pub both_made : {S T : Type 0} (step : Step S) (next : S → ℕ → Step T) (read : T × ℕ) → and_then step next ≡ Ok read
    → (first : S × ℕ) × (step ≡ Ok first) × (next first.0 first.1 ≡ Ok read)
both_made (Ok first) next read e = (first, refl, e)
both_made (Err offset) next read e = absurd (let z : ◌≡◌ {A = ℕ} 0 1 = cc in omega arith)

-- what is read of a text at an offset is read of the same text at the same offset
pub moved : {T : Type 0} (step : List ℕ → ℕ → Step T) (x : T) (long : ℕ) {whole text : List ℕ} {n at : ℕ} → whole ≡ text → n ≡ at
    → step whole n ≡ Ok (x, n + long) → step text at ≡ Ok (x, at + long)
moved step x long {whole} {text} {n} {at} is place e =
    sym (ap (λ (t : List ℕ). step t at) is) ∙ sym (ap (step whole) place) ∙ e ∙ ap (λ (m : ℕ). Ok (x, m + long)) place

module _ (text : List ℕ) where
  pub stands_none : (at : ℕ) → Stands text at [] at
  stands_none at = (omega arith, refl)

  pub stands_then : (at : ℕ) (a : List ℕ) (middle : ℕ) (b : List ℕ) (next : ℕ) → Stands text at a middle → Stands text middle b next → Stands text at (a ++ b) next
  stands_then at a middle b next one two = (
    omega (arith, one.0, two.0, length-append a b),
    one.1 ∙ ap (λ (end : List ℕ). a ++ end) two.1 ∙ sym (append_assoc a b (drop next text)),
  )

  -- a text that is walked from its start to its end is what stands there
  pub stands_all : (bytes : List ℕ) (next : ℕ) → Stands text 0 bytes next → next ≡ length text → text ≡ bytes
  stands_all bytes next stands end =
      stands.1 ∙ ap (λ (rest : List ℕ). bytes ++ rest) (drop_all next text (omega (arith, end))) ∙ append-nil bytes

  pub byte_stands : (at byte : ℕ) → 0 < byte → get_or text at 0 ≡ byte → Stands text at (byte ∷ []) (at + 1)
  byte_stands at byte some here =
      (refl, drop_more text at 0 (byte_within text at (omega arith)) ∙ ap (λ (b : ℕ). b ∷ drop (at + 1) text) here)

  pub field_stands : (at : ℕ) → Stands text at (field_at text at) (at + length (field_at text at))
  field_stands at =
      (refl, field_splits (drop at text) ∙ ap (λ (end : List ℕ). field_at text at ++ end) (drop-drop (length (field_at text at)) at text))
