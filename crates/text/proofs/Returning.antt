-- Words, numbers and ends read back where they are written, and are read nowhere else.
use Rattle.std.proofs.Common.{◌≡◌, ℕ, zero, suc, ◌+◌, ◌^◌, ◌<◌, ◌≤◌, Bool, true, false, cond, eqb, leb, not, List, [], ◌∷◌, ◌++◌, length, get_or, drop, ℤ, pos, negsuc, neg_ℤ, nat_abs, Ok, Err, decimal as natural_text, sym, refl, ap, ◌∙◌, subst, arith}
use Rattle.std.specs.Str.{all_ascii_digits, bytes_eq}
use Rattle.std.proofs.lemmas.Fmt.{digits_value-decimal, decimal_nonempty, length-decimal-le}
use Rattle.std.proofs.lemmas.Slice.Eq.{bytes_eq-Decides}
use Rattle.std.proofs.lemmas.List.{drop_at, get_or_at}
use Rattle.std.proofs.lemmas.Str.Parse.{digit_at, tells_all_ascii_digits}
use Rattle.std.proofs.lemmas.Bool.{and_parts, and_from, or_from, cond-true, le-leb, eqb-true, eq-eqb, ne_eqb}
use Rattle.text.specs.Fields.{ends_field, field, field_at, decimal, has_minus, after_minus, value_after, value, is_natural, is_number}
use Rattle.text.specs.Steps.{past, number_at, word_at, space_at, line_end_at, text_end_at}
use Rattle.text.specs.Theorems.{IsField, EndsField, TenDigits, Stands, NumberReadsBack, NumberIsWritten, WordReadsBack, WordIsWritten, EndsReadBack, EndsAreWritten}
use Rattle.text.proofs.Digits.{own, text_digits, number_plain, number_minus, natural_facts, value_plain, value_minus}
use Rattle.text.proofs.Runs.{field_stops, field_goes_on}
use Rattle.text.proofs.Standing.{made_under, byte_stands, field_stands}

-- a field that is over where it should be is found whole

nothing_more : (after : List ℕ) → EndsField after → field after ≡ []
nothing_more [] over = refl
nothing_more (b ∷ bs) over = field_stops b bs over

field_then : (after : List ℕ) → EndsField after → (bs : List ℕ) → IsField bs → field (bs ++ after) ≡ bs
field_then after over [] whole = nothing_more after over
field_then after over (b ∷ bs) whole = go (ends_field b) refl (field_then after over bs)
  where
    go : (t : Bool) → ends_field b ≡ t → (IsField bs → field (bs ++ after) ≡ bs) → field (b ∷ (bs ++ after)) ≡ b ∷ bs
    go true e later = absurd (let z : ◌≡◌ {A = ℕ} 0 1 = cc (field_stops b bs e) in omega arith)
    go false e later = field_goes_on b (bs ++ after) e ∙ ap (λ (end : List ℕ). b ∷ end) (later (ap (drop 1) (sym (field_goes_on b bs e) ∙ whole)))

field_behind : (before bytes after : List ℕ) → IsField bytes → EndsField after → field_at (before ++ (bytes ++ after)) (length before) ≡ bytes
field_behind before bytes after whole over = ap field (drop_at before (bytes ++ after) (length before) refl) ∙ field_then after over bytes whole

-- words

pub word_reads_back : WordReadsBack
unfolding word_at
word_reads_back before after word whole over =
    ap (λ (f : List ℕ). cond (bytes_eq f word) (past (length before + length f)) (Err (length before))) (field_behind before word after whole over)
    ∙ cond-true (bytes_eq word word) (past (length before + length word)) (Err (length before)) ((bytes_eq-Decides word word).1 refl)

pub word_is_written : WordIsWritten
unfolding word_at
word_is_written text at word next e =
    let f = field_at text at in
    let made = made_under (bytes_eq f word) (tt, at + length f) (tt, next) at e in
    let is : f ≡ word = (bytes_eq-Decides f word).0 made.0 in
    let stands = field_stands text at in (
      sym made.2 ∙ ap (λ (g : List ℕ). at + length g) is,
      stands.1 ∙ ap (λ (g : List ℕ). g ++ drop (at + length f) text) is ∙ ap (λ (n : ℕ). word ++ drop n text) made.2,
    )

-- numbers

digits_field : (ds : List ℕ) → all_ascii_digits ds ≡ true → IsField ds
digits_field [] all = refl
digits_field (c ∷ cs) all =
    let parts = tells_all_ascii_digits.parts c cs all in
    let goes_on : ends_field c ≡ false = or_from (eqb c 32) (eqb c 10) (ne_eqb c 32 (λ e. omega (arith, parts.0))) (ne_eqb c 10 (λ e. omega (arith, parts.0))) in
    field_goes_on c cs goes_on ∙ ap (λ (end : List ℕ). c ∷ end) (digits_field cs parts.1)

decimal_field : (x : ℤ) → IsField (decimal x)
decimal_field (pos n) = digits_field (natural_text n) (text_digits n)
decimal_field (negsuc n) = field_goes_on 45 (natural_text (suc n)) refl ∙ ap (λ (end : List ℕ). 45 ∷ end) (digits_field (natural_text (suc n)) (text_digits (suc n)))

no_minus : (n : ℕ) → n < 2 ^ 64 → has_minus (natural_text n) ≡ false
no_minus n small = ne_eqb (get_or (natural_text n) 0 0) 45 (λ e. omega (arith, digit_at (natural_text n) 0 (own.to (natural_text n) (text_digits n)) (decimal_nonempty n small)))

no_minus_before : (n : ℕ) → n < 2 ^ 64 → after_minus (natural_text n) ≡ natural_text n
no_minus_before n small = ap (λ (minus : Bool). drop (cond minus 1 0) (natural_text n)) (no_minus n small)

value_of_decimal : (x : ℤ) → TenDigits x → value (decimal x) ≡ x
value_of_decimal (pos n) short =
    value_plain (natural_text n) (no_minus n (omega arith)) ∙ ap pos (digits_value-decimal own n (omega arith))
value_of_decimal (negsuc n) short = ap (λ (k : ℕ). neg_ℤ (pos k)) (digits_value-decimal own (suc n) (omega arith))

few_digits : (x : ℤ) → TenDigits x → length (after_minus (decimal x)) ≤ 10
few_digits (pos n) short = omega (arith, ap length (no_minus_before n (omega arith)), length-decimal-le 10 n (omega arith) (omega arith) (omega arith))
few_digits (negsuc n) short = length-decimal-le 10 (suc n) (omega arith) (omega arith) (omega arith)

decimal_number : (x : ℤ) → TenDigits x → is_number (decimal x) ≡ true
unfolding is_number
decimal_number x short =
    and_from (leb (length (after_minus (decimal x))) 10) (bytes_eq (decimal x) (decimal (value (decimal x)))) (le-leb (length (after_minus (decimal x))) 10 (few_digits x short))
    ((bytes_eq-Decides (decimal x) (decimal (value (decimal x)))).1 (ap decimal (sym (value_of_decimal x short))))

pub number_reads_back : NumberReadsBack
unfolding number_at
number_reads_back before after x short over =
    let at = length before in
    ap (λ (f : List ℕ). cond (is_number f) (Ok (value f, at + length f)) (Err at)) (field_behind before (decimal x) after (decimal_field x) over)
    ∙ cond-true (is_number (decimal x)) (Ok (value (decimal x), at + length (decimal x))) (Err at) (decimal_number x short)
    ∙ ap (λ (y : ℤ). Ok (y, at + length (decimal x))) (value_of_decimal x short)

number_text : (bs : List ℕ) → is_number bs ≡ true → bs ≡ decimal (value bs)
unfolding is_number
number_text bs e = (bytes_eq-Decides bs (decimal (value bs))).0 (and_parts (leb (length (after_minus bs)) 10) (bytes_eq bs (decimal (value bs))) e).1

size_of_minus : (n : ℕ) → nat_abs (neg_ℤ (pos n)) ≡ n
size_of_minus zero = refl
size_of_minus (suc n) = refl

number_short : (bs : List ℕ) → is_number bs ≡ true → TenDigits (value bs)
number_short bs e = go (has_minus bs) refl
  where
    go : (minus : Bool) → has_minus bs ≡ minus → TenDigits (value bs)
    go true minus =
        let natural = (and_parts (is_natural (drop 1 bs)) (not (eqb (value_after 0 (drop 1 bs)) 0)) (sym (number_minus bs minus) ∙ e)).0 in
        omega (arith, ap nat_abs (value_minus bs minus), size_of_minus (value_after 0 (drop 1 bs)), (natural_facts (drop 1 bs) natural).small)
    go false plain = omega (arith, ap nat_abs (value_plain bs plain), (natural_facts bs (sym (number_plain bs plain) ∙ e)).small)

pub number_is_written : NumberIsWritten
unfolding number_at
number_is_written text at x next e =
    let f = field_at text at in
    let made = made_under (is_number f) (value f, at + length f) (x, next) at e in
    let is : f ≡ decimal x = number_text f made.0 ∙ ap decimal made.1 in
    let stands = field_stands text at in (
      (
        sym made.2 ∙ ap (λ (g : List ℕ). at + length g) is,
        stands.1 ∙ ap (λ (g : List ℕ). g ++ drop (at + length f) text) is ∙ ap (λ (n : ℕ). decimal x ++ drop n text) made.2,
      ),
      subst TenDigits made.1 (number_short f made.0),
    )

-- spaces and ends

pub ends_read_back : EndsReadBack
unfolding space_at line_end_at text_end_at
ends_read_back before after =
    let at = length before in (
      ap (λ (b : ℕ). cond (eqb b 32) (past (at + 1)) (Err at)) (get_or_at before 32 after 0 at refl),
      ap (λ (b : ℕ). cond (eqb b 10) (past (at + 1)) (Err (cond (eqb b 32) (at + 1) at))) (get_or_at before 10 after 0 at refl),
      cond-true (eqb at at) (past at) (Err at) (eq-eqb at at refl),
    )

byte_read : (text : List ℕ) (at byte next offset : ℕ) → 0 < byte → cond (eqb (get_or text at 0) byte) (past (at + 1)) (Err offset) ≡ past next → Stands text at (byte ∷ []) next
byte_read text at byte next offset some e =
    let made = made_under (eqb (get_or text at 0) byte) (tt, at + 1) (tt, next) offset e in
    subst (Stands text at (byte ∷ [])) made.2 (byte_stands text at byte some (eqb-true (get_or text at 0) byte made.0))

pub ends_are_written : EndsAreWritten
unfolding space_at line_end_at text_end_at
ends_are_written text at next = (
  λ e. byte_read text at 32 next at (omega arith) e,
  λ e. byte_read text at 10 next (cond (eqb (get_or text at 0) 32) (at + 1) at) (omega arith) e,
  λ e.
      let made = made_under (eqb at (length text)) (tt, at) (tt, next) at e in
      let here = eqb-true at (length text) made.0 in
      (here, sym made.2 ∙ here),
)
