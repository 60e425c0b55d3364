-- A line that stands in a text reads back.
use Rattle.std.proofs.Common.{◌≡◌, ℕ, suc, ◌+◌, ◌<◌, ◌≤◌, true, false, List, [], ◌∷◌, ◌++◌, length, get_or, take, drop, ℤ, pos, Some, Ok, codes, Option, sym, refl, ap, ◌∙◌, append_assoc, arith}
use Rattle.std.proofs.lemmas.List.{drop_at, drop-drop, length-append, length-drop, length-take-le, take-append-drop}
use Rattle.std.proofs.lemmas.Bool.Decides.{nat_tests}
use Rattle.cost.specs.Limits.{within}
use Rattle.text.specs.Fields.{decimal, ends_field}
use Rattle.text.specs.Steps.{Step, past, number_at, word_at, space_at, line_end_at, text_end_at, numbers_at}
use Rattle.text.specs.Theorems.{Stands, IsField, EndsField, TenDigits, AllTenDigits}
use Rattle.text.specs.Writing.{spaced}
use Rattle.text.proofs.Returning.{word_reads_back, number_reads_back, ends_read_back}
use Rattle.text.proofs.ReturningLists.{numbers_read_back}
use Rattle.text.proofs.Standing.{moved}
use Rattle.record_form.specs.Lines.{line, net_line, count_at, first_line_at, list_at, row_at, row_end_at}
use Rattle.record_form.proofs.Sequences.{count_made, net_made, list_made, row_end_made, row_told, told_some}

module _ (text : List ℕ) where
  -- ---- what stands in a text

  pub stands_apart : (at : ℕ) (a b : List ℕ) (next : ℕ) → Stands text at (a ++ b) next → Stands text at a (at + length a) × Stands text (at + length a) b next
  stands_apart at a b next stands =
      let rest : drop (at + length a) text ≡ b ++ drop next text =
      sym (drop-drop (length a) at text) ∙ ap (drop (length a)) (stands.1 ∙ append_assoc a b (drop next text)) ∙ drop_at a (b ++ drop next text) (length a) refl in
      ((refl, stands.1 ∙ append_assoc a b (drop next text) ∙ ap (λ (end : List ℕ). a ++ end) (sym rest)), (omega (arith, stands.0, length-append a b), rest))

  pub stands_within : (at : ℕ) (a : List ℕ) (next : ℕ) → at ≤ length text → Stands text at a next → next ≤ length text
  stands_within at a next few stands = omega (arith, stands.0, ap length stands.1, length-append a (drop next text), length-drop at text)

  pub ends_by : (at b : ℕ) (rest : List ℕ) (next : ℕ) → Stands text at (b ∷ rest) next → ends_field b ≡ true → EndsField (drop at text)
  ends_by at b rest next stands ends = rw stands.1 ends

  module _ (at : ℕ) (bytes : List ℕ) (next : ℕ) (few : at ≤ length text) (stands : Stands text at bytes next) where
    whole : take at text ++ (bytes ++ drop next text) ≡ text
    whole = ap (λ (rest : List ℕ). take at text ++ rest) (sym stands.1) ∙ take-append-drop at text

    place : length (take at text) ≡ at
    place = length-take-le at text few

    back : {T : Type 0} (step : List ℕ → ℕ → Step T) (x : T) → step (take at text ++ (bytes ++ drop next text)) (length (take at text)) ≡ Ok (x, length (take at text) + length bytes) → step text at ≡ Ok (x, next)
    back step x e = moved step x (length bytes) whole place e ∙ ap (λ (n : ℕ). Ok (x, n)) (sym stands.0)

  -- ---- the pieces

  pub word_back : (at : ℕ) (word : List ℕ) (next : ℕ) → at ≤ length text → Stands text at word next → IsField word → EndsField (drop next text) → word_at text at word ≡ past next
  word_back at word next few stands is ends = back at word next few stands (λ (t : List ℕ) (n : ℕ). word_at t n word) tt (word_reads_back (take at text) (drop next text) word is ends)

  pub space_back : (at next : ℕ) → at ≤ length text → Stands text at (32 ∷ []) next → space_at text at ≡ past next
  space_back at next few stands = back at (32 ∷ []) next few stands space_at tt (ends_read_back (take at text) (drop next text)).0

  pub end_back : (at next : ℕ) → at ≤ length text → Stands text at (10 ∷ []) next → line_end_at text at ≡ past next
  end_back at next few stands = back at (10 ∷ []) next few stands line_end_at tt (ends_read_back (take at text) (drop next text)).1

  pub number_back : (at : ℕ) (x : ℤ) (next : ℕ) → at ≤ length text → Stands text at (decimal x) next → TenDigits x → EndsField (drop next text) → number_at text at ≡ Ok (x, next)
  number_back at x next few stands small ends = back at (decimal x) next few stands number_at x (number_reads_back (take at text) (drop next text) x small ends)

  pub numbers_back : (at : ℕ) (xs : List ℤ) (next : ℕ) → at ≤ length text → Stands text at (spaced xs) next → AllTenDigits xs → EndsField (drop next text) → numbers_at text at (length xs) ≡ Ok (xs, next)
  numbers_back at xs next few stands small ends =
      back at (spaced xs) next few stands (λ (t : List ℕ) (n : ℕ). numbers_at t n (length xs)) xs (numbers_read_back (take at text) (drop next text) xs small ends)

  -- ---- a list

  -- numbers and the end of their line
  ends_numbers : (at : ℕ) (xs : List ℤ) (next : ℕ) → Stands text at (spaced xs ++ (10 ∷ [])) next → EndsField (drop at text)
  ends_numbers at [] next stands = ends_by at 10 [] next stands refl
  ends_numbers at (x ∷ xs) next stands = ends_by at 32 ((decimal x ++ spaced xs) ++ (10 ∷ [])) next stands refl

  pub list_back : (at : ℕ) (word : List ℕ) (xs : List ℤ) (next : ℕ) → at ≤ length text → Stands text at (line word xs) next → IsField word → AllTenDigits xs → list_at text at word (length xs) ≡ Ok (xs, next)
  list_back at word xs next few stands is small =
      let one = stands_apart at word (spaced xs ++ (10 ∷ [])) next stands in
      let a = at + length word in
      let few_a = stands_within at word a few one.0 in
      let two = stands_apart a (spaced xs) (10 ∷ []) next one.1 in
      let b = a + length (spaced xs) in
      let few_b = stands_within a (spaced xs) b few_a two.0 in
      list_made text at word (length xs)
      (word_back at word a few one.0 is (ends_numbers a xs next one.1))
      (numbers_back a xs b few_a two.0 small (ends_by b 10 [] next two.1 refl))
      (end_back b next few_b two.1)

  -- ---- a row

  pub row_back : (at : ℕ) (row : List ℤ) (long : ℤ → Option ℕ) (next : ℕ) → at ≤ length text → Stands text at (line (codes "c") row) next → AllTenDigits row
      → long (get_or row 0 (pos 0)) ≡ Some (length row) → 1 ≤ length row → row_at text at long ≡ Ok (row, next)
  row_back at [] long next few stands small told some = absurd (omega arith)
  row_back at (x ∷ xs) long next few stands small told some =
      let digits = decimal x in
      let end = spaced xs ++ (10 ∷ []) in
      let stands' : Stands text at (codes "c" ++ (32 ∷ (digits ++ end))) next = rw (append_assoc (decimal x) (spaced xs) (10 ∷ [])) at stands in
      let one = stands_apart at (codes "c") (32 ∷ (digits ++ end)) next stands' in
      let a = at + 1 in
      let few_a = stands_within at (codes "c") a few one.0 in
      let two = stands_apart a (32 ∷ []) (digits ++ end) next one.1 in
      let b = a + 1 in
      let few_b = stands_within a (32 ∷ []) b few_a two.0 in
      let three = stands_apart b digits end next two.1 in
      let c = b + length digits in
      let few_c = stands_within b digits c few_b three.0 in
      let four = stands_apart c (spaced xs) (10 ∷ []) next three.1 in
      let d = c + length (spaced xs) in
      let few_d = stands_within c (spaced xs) d few_c four.0 in
      row_told text at long (word_back at (codes "c") a few one.0 refl (ends_by a 32 (digits ++ end) next one.1 refl)) (space_back a b few_a two.0)
      (number_back b x c few_b three.0 (small 0 (omega arith)) (ends_numbers c xs next three.1))
      ∙ told_some text b c x (suc (length xs)) told
      ∙ ap (row_end_at text c x) (omega arith)
      ∙ row_end_made text c x (length xs) (numbers_back c xs d few_c four.0 (λ k h. small (suc k) (omega arith)) (ends_by d 10 [] next four.1 refl)) (end_back d next few_d four.1)

  -- ---- the first line

  count_back : (at : ℕ) (most : ℤ) (x : ℤ) (next : ℕ) → at ≤ length text → Stands text at (32 ∷ decimal x) next → within (record { low = pos 0; high = most }) x ≡ true → TenDigits x → EndsField (drop next text)
      → count_at text at most ≡ Ok (x, next)
  count_back at most x next few stands inside small ends =
      let one = stands_apart at (32 ∷ []) (decimal x) next stands in
      let a = at + 1 in
      let few_a = stands_within at (32 ∷ []) a few one.0 in
      count_made text at most (space_back at a few one.0) (number_back a x next few_a one.1 small ends) inside

  within_count : (n most : ℕ) → n ≤ most → within (record { low = pos 0; high = pos most }) (pos n) ≡ true
  within_count n most few = grind (arith, nat_tests)

  letter_field : (letter : ℕ) → 32 < letter → IsField (letter ∷ [])
  letter_field letter visible =
      let no : ends_field letter ≡ false = grind (arith, nat_tests) in
      rw no

  pub first_line_back : (at letter n m next : ℕ) → at ≤ length text → Stands text at (net_line letter (pos n) (pos m)) next → 32 < letter → n ≤ 64 → m ≤ 256
      → first_line_at text at letter ≡ Ok (record { nodes = pos n; arcs = pos m }, next)
  first_line_back at letter n m next few stands visible small_n small_m =
      let nodes = decimal (pos n) in
      let arcs = decimal (pos m) in
      let stands' : Stands text at (codes "net" ++ (32 ∷ letter ∷ 32 ∷ (nodes ++ (32 ∷ (arcs ++ (10 ∷ [])))))) next =
      rw (append_assoc nodes (32 ∷ (arcs ++ [])) (10 ∷ []), append_assoc arcs [] (10 ∷ [])) at stands in
      let r₅ = 32 ∷ (arcs ++ (10 ∷ [])) in
      let r₄ = 32 ∷ (nodes ++ r₅) in
      let one = stands_apart at (codes "net") (32 ∷ letter ∷ r₄) next stands' in
      let a = at + 3 in
      let few_a = stands_within at (codes "net") a few one.0 in
      let two = stands_apart a (32 ∷ []) (letter ∷ r₄) next one.1 in
      let b = a + 1 in
      let few_b = stands_within a (32 ∷ []) b few_a two.0 in
      let three = stands_apart b (letter ∷ []) r₄ next two.1 in
      let c = b + 1 in
      let few_c = stands_within b (letter ∷ []) c few_b three.0 in
      let four = stands_apart c (32 ∷ nodes) r₅ next three.1 in
      let d = c + length (32 ∷ nodes) in
      let few_d = stands_within c (32 ∷ nodes) d few_c four.0 in
      let five = stands_apart d (32 ∷ arcs) (10 ∷ []) next four.1 in
      let e = d + length (32 ∷ arcs) in
      let few_e = stands_within d (32 ∷ arcs) e few_d five.0 in
      net_made text at letter
      (word_back at (codes "net") a few one.0 refl (ends_by a 32 (letter ∷ r₄) next one.1 refl))
      (space_back a b few_a two.0)
      (word_back b (letter ∷ []) c few_b three.0 (letter_field letter visible) (ends_by c 32 (nodes ++ r₅) next three.1 refl))
      (count_back c (pos 64) (pos n) d few_c four.0 (within_count n 64 small_n) (omega arith) (ends_by d 32 (arcs ++ (10 ∷ [])) next four.1 refl))
      (count_back d (pos 256) (pos m) e few_d five.0 (within_count m 256 small_m) (omega arith) (ends_by e 10 [] next five.1 refl))
      (end_back e next few_e five.1)

  pub text_end_back : text_end_at text (length text) ≡ past (length text)
  text_end_back = (ends_read_back text []).2
