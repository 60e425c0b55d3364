-- The field at the front of a text, and the byte that stands at an offset.
use Rattle.std.proofs.Common.{◌≡◌, ℕ, suc, ◌+◌, Bool, true, false, ◌&&◌, ltb, List, [], ◌∷◌, ◌++◌, length, get_or, take, drop, Some, Err, Option, sym, refl, ap, ◌∙◌, arith}
use Rattle.std.specs.List.{before_first, position, position_or_len, slice_get}
use Rattle.std.specs.Option.{unwrap_or}
use Rattle.std.proofs.lemmas.List.{take_all}
use Rattle.std.proofs.lemmas.Bool.{cond-true, cond-false, ne_eqb, ltb-false}
use Rattle.std.proofs.lemmas.Option.{unwrap_or-slice_get}
use Rattle.text.specs.Steps.{past, space_at, line_end_at}
use Rattle.text.specs.Fields.{ends_field, field}

and_true : (b : Bool) → b && true ≡ b
and_true true = refl
and_true false = refl

-- the space and the end of a line, by the byte that stands at an offset
module _ (text : List ℕ) (at : ℕ) where
  byte_is : (found : Option ℕ) → slice_get text at ≡ found → get_or text at 0 ≡ unwrap_or found 0
  byte_is found is = sym (unwrap_or-slice_get text at 0) ∙ ap (λ (o : Option ℕ). unwrap_or o 0) is

  pub space_here : slice_get text at ≡ Some 32 → space_at text at ≡ past (at + 1)
  unfolding space_at
  space_here is = rw (byte_is (Some 32) is) refl

  pub line_end_here : slice_get text at ≡ Some 10 → line_end_at text at ≡ past (at + 1)
  unfolding line_end_at
  line_end_here is = rw (byte_is (Some 10) is) refl

  pub further_field : slice_get text at ≡ Some 32 → line_end_at text at ≡ Err (at + 1)
  unfolding line_end_at
  further_field is = rw (byte_is (Some 32) is) refl

  pub no_space : (found : Option ℕ) → slice_get text at ≡ found → (unwrap_or found 0 ≡ 32 → ⊥) → space_at text at ≡ Err at
  unfolding space_at
  no_space found is other = rw (byte_is found is, ne_eqb (unwrap_or found 0) 32 other) refl

  pub no_line_end : (found : Option ℕ) → slice_get text at ≡ found → (unwrap_or found 0 ≡ 10 → ⊥) → (unwrap_or found 0 ≡ 32 → ⊥) → line_end_at text at ≡ Err at
  unfolding line_end_at
  no_line_end found is other more = rw (byte_is found is, ne_eqb (unwrap_or found 0) 10 other, ne_eqb (unwrap_or found 0) 32 more) refl

module _ (b : ℕ) (bs : List ℕ) where
  pub field_stops : ends_field b ≡ true → field (b ∷ bs) ≡ []
  field_stops e = cond-true (ends_field b) [] (b ∷ field bs) e

  pub field_goes_on : ends_field b ≡ false → field (b ∷ bs) ≡ b ∷ field bs
  field_goes_on e = cond-false (ends_field b) [] (b ∷ field bs) e

-- the field at the front of a text ends where the first byte stands that ends a field, or with the text
field_is : (text : List ℕ) → field text ≡ before_first ends_field text
field_is [] = refl
field_is (b ∷ bs) = go (ends_field b) refl (field_is bs)
  where
    go : (t : Bool) → ends_field b ≡ t → field bs ≡ before_first ends_field bs → field (b ∷ bs) ≡ before_first ends_field (b ∷ bs)
    go true e rest = rw e refl
    go false e rest =
        let next : 1 + position_or_len ends_field bs ≡ suc (position_or_len ends_field bs) = omega arith in
        rw e (rw next (ap (λ (all : List ℕ). b ∷ all) rest))

pub field_by_position : (text : List ℕ) → take (unwrap_or (position ends_field text) (length text)) text ≡ field text
field_by_position text = go (ltb (position_or_len ends_field text) (length text)) refl ∙ sym (field_is text)
  where
    go : (t : Bool) → ltb (position_or_len ends_field text) (length text) ≡ t → take (unwrap_or (position ends_field text) (length text)) text ≡ before_first ends_field text
    go true e = rw e refl
    go false e =
        rw e (take_all (length text) text (omega arith) ∙ sym (take_all (position_or_len ends_field text) text (ltb-false (position_or_len ends_field text) (length text) e)))

-- a text is its first field and what follows it
pub field_splits : (bs : List ℕ) → bs ≡ field bs ++ drop (length (field bs)) bs
field_splits [] = refl
field_splits (b ∷ bs) = go (ends_field b) refl (field_splits bs)
  where
    go : (t : Bool) → ends_field b ≡ t → bs ≡ field bs ++ drop (length (field bs)) bs → b ∷ bs ≡ field (b ∷ bs) ++ drop (length (field (b ∷ bs))) (b ∷ bs)
    go true e rest = rw (field_stops b bs e)
    go false e rest = rw (field_goes_on b bs e) (ap (λ (all : List ℕ). b ∷ all) rest)
