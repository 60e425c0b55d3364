-- A whole text that is written or refused for want of room.
use Rattle.std.proofs.Common.{◌≡◌, ℕ, ◌<◌, ◌≤◌, true, false, eqb, leb, List, length, ℤ, Some, None, Ok, Err, Option, Result, sym, refl, ap, ◌∙◌, arith}
use Rattle.std.proofs.lemmas.Bool.{ne_eqb}
use Rattle.std.proofs.lemmas.Bool.Decides.{nat_tests}
use Rattle.cost.specs.Places.{kept_or, unless}
use Rattle.text.specs.Writing.{written}
use Rattle.record.specs.Outcomes.{Writes}
use Rattle.record.specs.Texts.{no_room, network_text}
use Rattle.record.specs.declared.faults.WritingFault.{WritingFault}
use Rattle.record.specs.declared.faults.WritingFault.TheVariants as writing

module _ (text into : List ℕ) where
  pub too_little : length into < length text → no_room (length text) (length into) ≡ Some (writing.Space (length text))
  too_little h = let short : leb (length text) (length into) ≡ false = grind (arith, nat_tests) in rw short

  pub enough : length text ≤ length into → no_room (length text) (length into) ≡ None
  enough h = let long : leb (length text) (length into) ≡ true = grind (arith, nat_tests) in rw long

  pub refused_answer : (n : ℕ) → n ≡ length text → length into < n → ◌≡◌ {A = Result ℕ WritingFault} (Err (writing.Space n)) (unless (no_room (length text) (length into)) (length text))
  refused_answer n is h =
      ap (λ (m : ℕ). Err (writing.Space m)) is ∙ sym (ap (λ (r : Option WritingFault). unless r (length text)) (too_little (omega arith)))

  pub refused_bytes : (n : ℕ) → n ≡ length text → length into < n → into ≡ kept_or into (no_room (length text) (length into)) (written into 0 text)
  refused_bytes n is h = sym (ap (λ (r : Option WritingFault). kept_or into r (written into 0 text)) (too_little (omega arith)))

  pub made_answer : (n : ℕ) → n ≡ length text → n ≤ length into → ◌≡◌ {A = Result ℕ WritingFault} (Ok n) (unless (no_room (length text) (length into)) (length text))
  made_answer n is h = ap (λ (m : ℕ). Ok m) is ∙ sym (ap (λ (r : Option WritingFault). unless r (length text)) (enough (omega arith)))

  pub made_bytes : {after : List ℕ} → length text ≤ length into → after ≡ written into 0 text → after ≡ kept_or into (no_room (length text) (length into)) (written into 0 text)
  made_bytes h is = is ∙ sym (ap (λ (r : Option WritingFault). kept_or into r (written into 0 text)) (enough h))

  -- the outcome, where there are as many costs as arcs
  pub writes_by : {same : List ℕ} (arcs costs : ℕ) {r : Result ℕ WritingFault} {after : List ℕ} → same ≡ text → costs ≡ arcs
      → r ≡ unless (no_room (length same) (length into)) (length same) → after ≡ kept_or into (no_room (length same) (length into)) (written into 0 same)
      → Writes arcs costs text r into after
  writes_by arcs costs {r} {after} is each answer bytes =
      let counted : eqb costs arcs ≡ true = grind (arith, nat_tests) in
      record {
        answer = rw counted (answer ∙ ap (λ (t : List ℕ). unless (no_room (length t) (length into)) (length t)) is);
        bytes = rw counted (bytes ∙ ap (λ (t : List ℕ). kept_or into (no_room (length t) (length into)) (written into 0 t)) is);
      }

  pub writes_none : (arcs costs : ℕ) → (costs ≡ arcs → ⊥) → Writes arcs costs text (Err writing.List) into into
  writes_none arcs costs other =
      let counted : eqb costs arcs ≡ false = ne_eqb costs arcs other in
      record { answer = rw counted refl; bytes = rw counted refl }

pub same_network : {s s' : List ℕ} {c c' xs xs' ts ts' hs hs' : List ℤ} → s ≡ s' → c ≡ c' → xs ≡ xs' → ts ≡ ts' → hs ≡ hs' → network_text s c xs ts hs ≡ network_text s' c' xs' ts' hs'
same_network {s} {s'} {c} {c'} {xs} {xs'} {ts} {ts'} {hs} {hs'} e₁ e₂ e₃ e₄ e₅ =
    ap (λ (z : List ℕ). network_text z c xs ts hs) e₁
    ∙ ap (λ (z : List ℤ). network_text s' z xs ts hs) e₂
    ∙ ap (λ (z : List ℤ). network_text s' c' z ts hs) e₃
    ∙ ap (λ (z : List ℤ). network_text s' c' xs' z hs) e₄
    ∙ ap (λ (z : List ℤ). network_text s' c' xs' ts' z) e₅
