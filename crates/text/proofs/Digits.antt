-- Fields that are numbers: their bytes, their length and their value.
use Rattle.std.proofs.Common.{◌≡◌, ℕ, zero, suc, ◌+◌, ◌-◌, ◌*◌, ◌/◌, ◌%◌, ◌^◌, ◌<◌, ◌≤◌, Bool, true, false, not, ◌&&◌, eqb, ltb, leb, List, [], ◌∷◌, length, get_or, take, drop, ℤ, pos, neg_ℤ, Some, None, Option, Ok, Err, cond, decimal as natural_text, sym, refl, ap, ◌∙◌, subst, arith, rules}
use lib.Pointwise.{pointwise}
use Rattle.std.specs.Char.{is_ascii_digit}
use Rattle.std.specs.Fmt.{digits, digit_glyph, digits_onto}
use Rattle.std.specs.List.{list_all}
use Rattle.std.specs.Str.{all_ascii_digits, bytes_eq}
use Rattle.std.proofs.lemmas.Fmt.{decimal_digit, decimal_nonempty, first_decimal, decimal-digits_value}
use Rattle.std.proofs.lemmas.List.{drop_more, drop_all}
use Rattle.std.proofs.lemmas.Slice.Eq.{bytes_eq-Decides}
use Rattle.std.proofs.lemmas.Str.Parse.{IsNumeralModel, numerals_by_fold, tells_all_ascii_digits, digit_at, digits_value_short}
use Rattle.std.proofs.lemmas.Int.{ints}
use Rattle.std.proofs.lemmas.Bool.{and_parts, and_from, leb-true, le-leb, eqb-true, eq-eqb, ne_eqb, false≢true, and_right, cond-true, cond_both, lt-ltb}
use Rattle.text.specs.Steps.{number_at}
use Rattle.text.specs.Fields.{decimal, field_at, has_minus, value_after, is_natural, value, is_number}

-- the digits of a number, and what they write
pub own : IsNumeralModel (λ ds. all_ascii_digits ds ≡ true) (value_after 0)
own = numerals_by_fold _ tells_all_ascii_digits value_after (search rules)

pub grows : (n : ℕ) (ds : List ℕ) → n ≤ value_after n ds
grows n [] = omega arith
grows n (c ∷ cs) = omega (arith, grows (10 * n + (c - 48)) cs)

-- the decimal text of any number has digits alone
last_digit : (n : ℕ) (ds : List ℕ) → all_ascii_digits ds ≡ true → all_ascii_digits (digit_glyph false (n % 10) ∷ ds) ≡ true
last_digit n ds all =
    let below : n % 10 < 10 = omega arith in
    let is : digit_glyph false (n % 10) ≡ 48 + n % 10 = cond-true (ltb (n % 10) 10) (48 + n % 10) (87 + n % 10) (lt-ltb (n % 10) 10 below) in
    tells_all_ascii_digits.more (digit_glyph false (n % 10)) ds (omega arith, omega arith) all

spelled_digits : (k n : ℕ) (ds : List ℕ) → all_ascii_digits ds ≡ true → all_ascii_digits (digits_onto k 10 false n ds) ≡ true
spelled_digits zero n ds all = all
spelled_digits (suc k) n ds all =
    cond_both (eqb (n / 10) 0) (digit_glyph false (n % 10) ∷ ds) (digits_onto k 10 false (n / 10) (digit_glyph false (n % 10) ∷ ds)) (λ (bs : List ℕ). all_ascii_digits bs ≡ true)
    (λ e. last_digit n ds all) (λ e. spelled_digits k (n / 10) (digit_glyph false (n % 10) ∷ ds) (last_digit n ds all))

pub text_digits : (n : ℕ) → all_ascii_digits (natural_text n) ≡ true
unfolding digits
text_digits n = spelled_digits 64 n [] refl

-- what is known of a run of digits that is a natural number
pub record Natural (ds : List ℕ) : Type 0 where
  pub few : length ds ≤ 10
  pub written : ds ≡ natural_text (value_after 0 ds)
  pub all : all_ascii_digits ds ≡ true
  pub small : value_after 0 ds < 10 ^ 10
  pub some : 0 < length ds
  pub lead : get_or ds 0 0 ≡ 48 → length ds ≡ 1

pub natural_facts : (ds : List ℕ) → is_natural ds ≡ true → Natural ds
unfolding is_natural
natural_facts ds e = record { few = few; written = written; all = all; small = small; some = some; lead = lead }
  where
    n : ℕ
    n = value_after 0 ds

    parts : (leb (length ds) 10 ≡ true) × (bytes_eq ds (natural_text n) ≡ true)
    parts = and_parts (leb (length ds) 10) (bytes_eq ds (natural_text n)) e

    few : length ds ≤ 10
    few = leb-true (length ds) 10 parts.0

    written : ds ≡ natural_text n
    written = (bytes_eq-Decides ds (natural_text n)).0 parts.1

    all : all_ascii_digits ds ≡ true
    all = ap all_ascii_digits written ∙ text_digits n

    small : n < 10 ^ 10
    small = digits_value_short own ds 10 all few

    some : 0 < length ds
    some = omega (arith, ap length written, decimal_nonempty n (omega (arith, small)))

    by_value : (m : ℕ) → m ≡ n → get_or ds 0 0 ≡ 48 → length ds ≡ 1
    by_value zero zero_is lead = ap length (written ∙ ap natural_text (sym zero_is) ∙ decimal_digit 0 (omega arith))
    by_value (suc m) more lead = absurd (omega (arith, lead, first_decimal n (omega arith) (omega (arith, small)), ap (λ (bs : List ℕ). get_or bs 0 0) written))

    lead : get_or ds 0 0 ≡ 48 → length ds ≡ 1
    lead = by_value n refl

-- one to ten digits, the first of them 0 only if it stands alone, are a natural number
pub natural_from : (ds : List ℕ) → 0 < length ds → length ds ≤ 10 → (get_or ds 0 0 ≡ 48 → length ds ≡ 1) → all_ascii_digits ds ≡ true → is_natural ds ≡ true
unfolding is_natural
natural_from ds some few lead all =
    and_from (leb (length ds) 10) (bytes_eq ds (natural_text (value_after 0 ds))) (le-leb (length ds) 10 few)
    ((bytes_eq-Decides ds (natural_text (value_after 0 ds))).1 (sym (decimal-digits_value own ds all some lead (omega (arith, digits_value_short own ds 10 all few)))))

-- two tests that say the same
agree : (a b : Bool) → (a ≡ true → b ≡ true) → (b ≡ true → a ≡ true) → a ≡ b
agree true b to from = sym (to refl)
agree false true to from = from refl
agree false false to from = refl

refuted : (a : Bool) → (a ≡ true → ⊥) → false ≡ a
refuted true no_way = absurd (no_way refl)
refuted false no_way = refl

each_digit : (ds : List ℕ) → list_all is_ascii_digit ds ≡ all_ascii_digits ds
each_digit [] = refl
each_digit (d ∷ ds) = ap (λ (b : Bool). is_ascii_digit d && b) (each_digit ds)

-- a natural number by its length, its first digit and its digits
module _ (ds : List ℕ) where
  pub natural_some : length ds ≡ 0 → false ≡ is_natural ds
  natural_some none = refuted (is_natural ds) (λ e. omega (arith, (natural_facts ds e).some))

  pub natural_few : 10 < length ds → false ≡ is_natural ds
  natural_few many = refuted (is_natural ds) (λ e. omega (arith, (natural_facts ds e).few))

  pub natural_zero : get_or ds 0 0 ≡ 48 → eqb (length ds) 1 ≡ is_natural ds
  natural_zero zero_leads =
      agree (eqb (length ds) 1) (is_natural ds)
      (λ e. alone ds (eqb-true (length ds) 1 e) zero_leads)
      (λ e. eq-eqb (length ds) 1 ((natural_facts ds e).lead zero_leads))
    where
      alone : (bs : List ℕ) → length bs ≡ 1 → get_or bs 0 0 ≡ 48 → is_natural bs ≡ true
      alone [] one first = absurd (omega arith)
      alone (b ∷ []) one first = natural_from (b ∷ []) (omega arith) (omega arith) (λ _. refl) (tells_all_ascii_digits.more b [] (omega arith, omega arith) refl)
      alone (b ∷ c ∷ bs) one first = absurd (omega arith)

  pub natural_digits : 0 < length ds → length ds ≤ 10 → ¬ (get_or ds 0 0 ≡ 48) → list_all is_ascii_digit ds ≡ is_natural ds
  natural_digits some few lead =
      each_digit ds
      ∙ agree (all_ascii_digits ds) (is_natural ds) (λ all. natural_from ds some few (λ e. absurd (lead e)) all) (λ e. (natural_facts ds e).all)

-- the number that a run of digits writes, from digit to digit
module _ (ds : List ℕ) (natural : is_natural ds ≡ true) (n i : ℕ) (within : i < length ds) (so_far : value_after n (drop i ds) ≡ value_after 0 ds) where
  pub next_digit : (48 ≤ get_or ds i 0) × (get_or ds i 0 ≤ 57)
  next_digit = digit_at ds i (own.to ds (natural_facts ds natural).all) within

  pub next_value : value_after (10 * n + (get_or ds i 0 - 48)) (drop (i + 1) ds) ≡ value_after 0 ds
  next_value = sym (ap (value_after n) (drop_more ds i 0 within)) ∙ so_far

  pub next_small : 10 * n + (get_or ds i 0 - 48) < 10 ^ 10
  next_small = omega (arith, grows (10 * n + (get_or ds i 0 - 48)) (drop (i + 1) ds), next_value, (natural_facts ds natural).small)

pub last_value : (ds : List ℕ) (n i : ℕ) → length ds ≤ i → value_after n (drop i ds) ≡ value_after 0 ds → n ≡ value_after 0 ds
last_value ds n i all so_far = sym (ap (value_after n) (drop_all i ds all)) ∙ so_far

-- a field with no minus is a number where it is a natural number, and one with a minus where its digits are one other than 0
pub number_plain : (bs : List ℕ) → has_minus bs ≡ false → is_number bs ≡ is_natural bs
unfolding is_number is_natural
number_plain bs e = rw e refl

and_true : (b : Bool) → b && true ≡ b
and_true true = refl
and_true false = refl

after_a_minus : (ds : List ℕ) → is_number (45 ∷ ds) ≡ is_natural ds && not (eqb (value_after 0 ds) 0)
unfolding is_number is_natural
after_a_minus ds = go (value_after 0 ds) refl
  where
    few : Bool
    few = leb (length ds) 10

    go : (n : ℕ) → value_after 0 ds ≡ n → few && bytes_eq (45 ∷ ds) (decimal (neg_ℤ (pos (value_after 0 ds)))) ≡ is_natural ds && not (eqb (value_after 0 ds) 0)
    go zero none =
        rw none
        (ap (λ (t : List ℕ). few && bytes_eq (45 ∷ ds) t) (decimal_digit 0 (omega arith)) ∙ and_right few false refl ∙ sym (and_right (few && bytes_eq ds (natural_text 0)) false refl))
    go (suc n) more = rw (more, ne_eqb (suc n) 0 (λ e. omega arith)) (sym (and_true (few && bytes_eq ds (natural_text (suc n)))))

-- a field begins with a minus where it begins with the bytes of a minus
pub minus_by_prefix : (bs : List ℕ) → pointwise eqb (take 1 bs) (45 ∷ []) ≡ has_minus bs
minus_by_prefix [] = refl
minus_by_prefix (b ∷ bs) = and_true (eqb b 45)

-- the number that a field writes, if any
abbrev pub read : List ℕ → Option ℤ
read bs = cond (is_number bs) (Some (value bs)) None

-- the number that digits write, if any
abbrev pub read_digits : List ℕ → Option ℤ
read_digits ds = cond (is_natural ds) (Some (pos (value_after 0 ds))) None

pub made_digits : (b : Bool) (x m : ℤ) → cond b (Some x) None ≡ Some m → (b ≡ true) × (x ≡ m)
made_digits true x m e = (refl, cc)
made_digits false x m e = cc

no_digits : (b : Bool) (x : ℤ) → cond b (Some x) None ≡ None → b ≡ false
no_digits true x e = cc
no_digits false x e = refl

module _ (bs : List ℕ) where
  module _ (plain : has_minus bs ≡ false) where
    pub value_plain : value bs ≡ pos (value_after 0 bs)
    value_plain = rw plain refl

    pub read_plain : read_digits bs ≡ read bs
    read_plain = rw (number_plain bs plain, value_plain) refl

  module _ (minus : has_minus bs ≡ true) where
    pub value_minus : value bs ≡ neg_ℤ (pos (value_after 0 (drop 1 bs)))
    value_minus = rw minus refl

    pub number_minus : is_number bs ≡ is_natural (drop 1 bs) && not (eqb (value_after 0 (drop 1 bs)) 0)
    number_minus = go bs minus
      where
        go : (cs : List ℕ) → has_minus cs ≡ true → is_number cs ≡ is_natural (drop 1 cs) && not (eqb (value_after 0 (drop 1 cs)) 0)
        go [] e = absurd (false≢true e)
        go (c ∷ cs) e =
            subst (λ (d : ℕ). is_number (d ∷ cs) ≡ is_natural (drop 1 (d ∷ cs)) && not (eqb (value_after 0 (drop 1 (d ∷ cs))) 0)) (sym (eqb-true c 45 e)) (after_a_minus cs)

    module _ {ds : List ℕ} (rest : ds ≡ drop 1 bs) where
      pub read_refused : read_digits ds ≡ None → None ≡ read bs
      read_refused none = rw (number_minus, sym rest, no_digits (is_natural ds) (pos (value_after 0 ds)) none) refl

      pub read_zero : {m : ℤ} → read_digits ds ≡ Some m → m ≡ pos 0 → None ≡ read bs
      read_zero {m} made none =
          let told = made_digits (is_natural ds) (pos (value_after 0 ds)) m made in
          let zero_value : value_after 0 ds ≡ 0 = omega (arith, ints, told.1, none) in
          rw (number_minus, sym rest, told.0, zero_value) refl

      pub read_minus : {m : ℤ} → read_digits ds ≡ Some m → (m ≡ pos 0 → ⊥) → Some (neg_ℤ m) ≡ read bs
      read_minus {m} made some =
          let told = made_digits (is_natural ds) (pos (value_after 0 ds)) m made in
          let more = ne_eqb (value_after 0 ds) 0 (λ e. some (sym told.1 ∙ ap pos e)) in
          rw (number_minus, value_minus, sym rest, told.0, more, told.1) refl

-- the step past a number, by what its field reads as
module _ (text : List ℕ) (at : ℕ) {bs : List ℕ} {r : Option ℤ} (field-is : bs ≡ field_at text at) (told : r ≡ read bs) where
  pub number_refused : r ≡ None → number_at text at ≡ Err at
  unfolding number_at
  number_refused none = rw (sym field-is, no_digits (is_number bs) (value bs) (sym told ∙ none)) refl

  pub number_made : {x : ℤ} → r ≡ Some x → number_at text at ≡ Ok (x, at + length bs)
  unfolding number_at
  number_made {x} some =
      let made = made_digits (is_number bs) (value bs) x (sym told ∙ some) in
      rw (sym field-is, made.0, made.1) refl
