-- Lists of numbers read back where they are written, and are read nowhere else.
use Rattle.std.proofs.Common.{◌≡◌, ℕ, zero, suc, ◌+◌, List, [], ◌∷◌, ◌++◌, length, ℤ, Ok, sym, refl, ap, ◌∙◌, subst, append_assoc, arith}
use Rattle.std.proofs.lemmas.List.{length-append}
use Rattle.text.specs.Fields.{decimal}
use Rattle.text.specs.Steps.{space_at, number_at, numbers_at}
use Rattle.text.specs.Theorems.{EndsField, TenDigits, AllTenDigits, Stands, NumbersReadBack, NumbersAreWritten}
use Rattle.text.specs.Writing.{spaced}
use Rattle.text.proofs.Listing.{onto, numbers_more}
use Rattle.text.proofs.Returning.{number_reads_back, number_is_written, ends_read_back, ends_are_written}
use Rattle.text.proofs.Standing.{both_made, moved, stands_none, stands_then}

spaced_over : (xs : List ℤ) (after : List ℕ) → EndsField after → EndsField (spaced xs ++ after)
spaced_over [] after over = over
spaced_over (x ∷ xs) after over = refl

numbers_read : (xs : List ℤ) (text before after : List ℕ) (at : ℕ) → before ++ (spaced xs ++ after) ≡ text → length before ≡ at → AllTenDigits xs → EndsField after
    → numbers_at text at (length xs) ≡ Ok (xs, at + length (spaced xs))
unfolding numbers_at
numbers_read [] text before after at is place short over = ap (λ (n : ℕ). Ok ([], n)) (omega arith)
numbers_read (x ∷ xs) text before after at is place short over =
    let rest = spaced xs ++ after in
    let front = before ++ (32 ∷ []) in
    let is_front : front ++ (decimal x ++ rest) ≡ text =
    append_assoc before (32 ∷ []) (decimal x ++ rest) ∙ ap (λ (end : List ℕ). before ++ (32 ∷ end)) (sym (append_assoc (decimal x) (spaced xs) after)) ∙ is in
    let place_front : length front ≡ at + 1 = length-append before (32 ∷ []) ∙ ap (λ (n : ℕ). n + 1) place in
    let space = moved space_at tt 1 is place (ends_read_back before ((decimal x ++ spaced xs) ++ after)).0 in
    let number = moved number_at x (length (decimal x)) is_front place_front (number_reads_back front rest x (short 0 (omega arith)) (spaced_over xs after over)) in
    let later : numbers_at text (at + 1 + length (decimal x)) (length xs) ≡ Ok (xs, at + 1 + length (decimal x) + length (spaced xs)) =
    numbers_read xs text (front ++ decimal x) after (at + 1 + length (decimal x))
    (append_assoc front (decimal x) rest ∙ is_front)
    (length-append front (decimal x) ∙ ap (λ (n : ℕ). n + length (decimal x)) place_front)
    (λ k h. short (suc k) (omega arith)) over in
    numbers_more text at (length xs) (at + 1) (at + 1 + length (decimal x)) x space number
    ∙ ap (onto (x ∷ [])) later
    ∙ ap (λ (n : ℕ). Ok (x ∷ xs, n)) (omega (arith, length-append (decimal x) (spaced xs)))

pub numbers_read_back : NumbersReadBack
numbers_read_back before after xs short over = numbers_read xs (before ++ (spaced xs ++ after)) before after (length before) refl refl short over

-- what it says that a list was read with the offset past it
abbrev Read : List ℕ → ℕ → ℕ → List ℤ × ℕ → Type 0
Read text at k read = Stands text at (spaced read.0) read.1 × (length read.0 ≡ k) × AllTenDigits read.0

no_ten_digits : AllTenDigits []
no_ten_digits k h = absurd (omega arith)

more_ten_digits : (x : ℤ) (xs : List ℤ) → TenDigits x → AllTenDigits xs → AllTenDigits (x ∷ xs)
more_ten_digits x xs one all zero h = one
more_ten_digits x xs one all (suc k) h = all k (omega arith)

pub numbers_are_written : NumbersAreWritten
unfolding numbers_at
numbers_are_written text at zero xs next e =
    let same : ◌≡◌ {A = List ℤ × ℕ} ([], at) (xs, next) = cc in
    subst (Read text at 0) same (stands_none text at, refl, no_ten_digits)
numbers_are_written text at (suc k) xs next e =
    let space = both_made (space_at text at) _ (xs, next) e in
    let first = space.0.1 in
    let number = both_made (number_at text first) _ (xs, next) space.2 in
    let x = number.0.0 in
    let middle = number.0.1 in
    let others = both_made (numbers_at text middle k) _ (xs, next) number.2 in
    let more = others.0 in
    let same : ◌≡◌ {A = List ℤ × ℕ} (x ∷ more.0, more.1) (xs, next) = cc others.2 in
    let one = number_is_written text first x middle number.1 in
    let rest = numbers_are_written text middle k more.0 more.1 others.1 in
    subst (Read text at (suc k)) same (
      stands_then text at (32 ∷ []) first (decimal x ++ spaced more.0) more.1 ((ends_are_written text at first).0 space.1)
          (stands_then text first (decimal x) middle (spaced more.0) more.1 one.0 rest.0),
      ap suc rest.1,
      more_ten_digits x more.0 one.1 rest.2,
    )
