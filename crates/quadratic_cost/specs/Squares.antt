-- The quadratic cost keeps the four laws, and answers its increments.
use Rattle.std.specs.Prelude.{◌≡◌, ℕ, ◌+◌, ◌-◌, ◌*◌, ◌<◌, ◌≤◌, true, false, cond, not, List, [], ◌∷◌, length, ℤ, pos, negsuc, ◌+ℤ◌, ◌-ℤ◌, ◌*ℤ◌, ◌≤ℤ◌, ◌<ℤ◌, is_some, IfOk, Some, None, Option, Result, int_le, int_lt, slice_index_or, refl}
use Rattle.std.proofs.Common.{sym, ◌∙◌, ap, arith, mul-le-mul_left, mul-le-mul_right}
use Rattle.std.specs.Int.Signed.{le_z_yes}
use Rattle.std.specs.Option.{option_map}
use Rattle.std.specs.Result.{result_err}
use Rattle.std.proofs.lemmas.List.FromFn.{length-map-range_with_len, get_or-map-range_with_len}
use Rattle.std.proofs.lemmas.Int.{ints}
use Rattle.cost.specs.Meaning.{Meaning, empty_cost, natural, Lawful, last, increment_at, Between}
use Rattle.cost.specs.Places.{or_else, kept_or, unless}
use Rattle.cost.specs.Limits.{outside, load_limits, increment_limits, square_limits}
use Rattle.quadratic_cost.specs.Quadratic.{quadratic_increment, quadratic_outside, quadratic_meaning, quadratic_refusal, quadratic_content, steep, quadratic_row, quadratic_row_refusal, quadratic_row_meaning}
use Rattle.cost.specs.declared.numbers.NumberFault.{NumberFault}
use Rattle.cost.specs.declared.refusals.CostFault.{CostFault}
use Rattle.quadratic_cost.specs.declared.quadratic.Quadratic.{Quadratic}
use Rattle.cost.specs.declared.refusals.CostFault.TheVariants.{Number, Steep}
use Rattle.cost.proofs.Lists.{natural_is, nth_counted, increment_past, increment_under, increment_here, empty_lawful}
use Rattle.cost.proofs.Brief.{Brief, brief_none, brief_more}
use Rattle.cost.proofs.Refusing.{neither, none_below, not_met, not_both, inside, no_refusal, replaced, answered}

-- what the numbers of a quadratic cost keep that is not refused
pub record Fit (a b c : ℤ) : Type 0 where
  pub a_limit : Between (negsuc 999999) (pos 1000000) a
  pub b_limit : Between (pos 0) (pos 1000000) b
  pub c_limit : Between (pos 0) (pos 10000) c

pub numbers_fit : (a b c : ℤ) → quadratic_outside a b c ≡ None → Fit a b c
numbers_fit a b c e =
    let first = neither (outside increment_limits 1 a) _ e in
    let rest = neither (outside square_limits 2 b) (outside load_limits 3 c) first.1 in
    record {
      a_limit = inside increment_limits 1 a first.0;
      b_limit = inside square_limits 2 b rest.0;
      c_limit = inside load_limits 3 c rest.1;
    }

-- a cost that is not refused: its numbers fit, and its last increment keeps the limit
pub keeps : (a b c : ℤ) → quadratic_refusal a b c ≡ None → Fit a b c × (pos 1 ≤ℤ c → quadratic_increment a b (c -ℤ pos 1) ≤ℤ pos 1000000)
keeps a b c e =
    let parts = neither (option_map Number (quadratic_outside a b c)) _ e in (
      numbers_fit a b c (none_below Number (quadratic_outside a b c) parts.0),
      λ h.
          let low : true ≡ int_le (pos 1) c = omega (arith, ints) in
          let high = not_both (int_le (pos 1) c) (int_lt (pos 1000000) (quadratic_increment a b (c -ℤ pos 1))) (not_met Steep (steep a b c) parts.1) (sym low) in
          omega (arith, ints, high),
    )

module _ (a : ℤ) (b c : ℕ) (fit : Fit a (pos b) (pos c)) (flat : pos 1 ≤ℤ pos c → quadratic_increment a (pos b) (pos c -ℤ pos 1) ≤ℤ pos 1000000) where
  here : (k : ℕ) → k < c → slice_index_or (quadratic_meaning a (pos b) (pos c)).increments k (pos 0) ≡ a +ℤ pos (2 * b * k)
  here k h = get_or-map-range_with_len (λ x. quadratic_increment a (pos b) (pos x)) 0 c k k (pos 0) h (omega arith)

  -- the highest increment is the last
  highest : (k : ℕ) → k < c → (a +ℤ pos (2 * b * k)) ≤ℤ pos 1000000
  highest k h =
      let less : pos c -ℤ pos 1 ≡ pos (c - 1) = omega (arith, ints) in
      let last' : (a +ℤ pos (2 * b * (c - 1))) ≤ℤ pos 1000000 = rw less at (flat (omega (arith, ints))) in
      omega (arith, ints, last', mul-le-mul_left {m = k} {n = c - 1} (2 * b) (omega arith))

  pub lawful : Lawful (quadratic_meaning a (pos b) (pos c))
  lawful = record {
    last_limit = rw (length-map-range_with_len (λ x. quadratic_increment a (pos b) (pos x)) 0 c) (omega (arith, ints, fit.c_limit.1));
    opening_limit = (le_z_yes tt, le_z_yes tt);
    increment_limit = λ k h.
        let within' : k < c = rw length-map-range_with_len at h in
        rw (here k within') (omega (arith, ints, fit.a_limit.0), highest k within');
    convex = λ k h.
        let within' : k + 1 < c = rw length-map-range_with_len at h in
        rw (here k (omega arith), here (k + 1) within') (omega (arith, ints, mul-le-mul_left {m = k} {n = k + 1} (2 * b) (omega arith)));
  }

-- the product that an increment adds is not negative, and fits
pub product_limit : (b x : ℤ) → Between (pos 0) (pos 1000000) b → Between (pos 0) (pos 10000) x → Between (pos 0) (pos 20000000000) (pos 2 *ℤ b *ℤ x)
product_limit (negsuc b) x hb hx = absurd (omega (arith, ints, hb.0))
product_limit (pos b) (negsuc x) hb hx = absurd (omega (arith, ints, hx.0))
product_limit (pos b) (pos x) hb hx =
    let small : b ≤ 1000000 = omega (arith, ints, hb.1) in
    let short : x ≤ 10000 = omega (arith, ints, hx.1) in
    (omega (arith, ints), omega (arith, ints, mul-le-mul_right {m = b} {n = 1000000} x small))

kept_lawful : (a b c : ℤ) → Fit a b c → (pos 1 ≤ℤ c → quadratic_increment a b (c -ℤ pos 1) ≤ℤ pos 1000000) → Lawful (quadratic_meaning a b c)
kept_lawful a (negsuc b) c fit flat = absurd (omega (arith, ints, fit.b_limit.0))
kept_lawful a (pos b) (negsuc c) fit flat = absurd (omega (arith, ints, fit.c_limit.0))
kept_lawful a (pos b) (pos c) fit flat = lawful a b c fit flat

-- any content keeps the laws
pub content_lawful : (q : Quadratic) → Lawful (quadratic_content q)
content_lawful q = go (quadratic_refusal q.a q.b q.c) refl
  where
    go : (r : Option CostFault) → quadratic_refusal q.a q.b q.c ≡ r → Lawful (kept_or empty_cost r (quadratic_meaning q.a q.b q.c))
    go None e = let k = keeps q.a q.b q.c e in kept_lawful q.a q.b q.c k.0 k.1
    go (Some f) e = empty_lawful

-- once its numbers fit, only a last increment that is too steep refuses a quadratic cost
pub refused_by_steep : (a b c : ℤ) → quadratic_outside a b c ≡ None → quadratic_refusal a b c ≡ cond (steep a b c) (Some Steep) None
refused_by_steep a b c e = ap (λ (o : Option NumberFault). or_else (option_map Number o) (cond (steep a b c) (Some Steep) None)) e

pub made_means : (q : Quadratic) → quadratic_refusal q.a q.b q.c ≡ None → quadratic_content q ≡ quadratic_meaning q.a q.b q.c
made_means q e = ap (λ (o : Option CostFault). kept_or empty_cost o (quadratic_meaning q.a q.b q.c)) e

-- what a content answers that its constructor would make
module _ (q : Quadratic) (made : true ≡ not (is_some (quadratic_refusal q.a q.b q.c))) where
  none : quadratic_refusal q.a q.b q.c ≡ None
  none = no_refusal (quadratic_refusal q.a q.b q.c) made

  pub made_within : quadratic_outside q.a q.b q.c ≡ None
  made_within = none_below Number (quadratic_outside q.a q.b q.c) (neither (option_map Number (quadratic_outside q.a q.b q.c)) _ none).0

  pub made_fits : Fit q.a q.b q.c
  made_fits = (keeps q.a q.b q.c none).0

  pub made_last : pos (last (quadratic_content q)) ≡ q.c
  made_last =
      let long = length-map-range_with_len (λ x. quadratic_increment q.a q.b (pos x)) 0 (natural q.c) in
      ap (λ (m : Meaning). pos (last m)) (made_means q none) ∙ omega (arith, ints, natural_is q.c, made_fits.c_limit.0, long)

  pub made_increment : (x : ℤ) → pos 0 ≤ℤ x → x <ℤ q.c → increment_at (quadratic_content q) x ≡ Some (quadratic_increment q.a q.b x)
  made_increment x low high =
      let here' = increment_here (quadratic_meaning q.a q.b q.c) x (natural x) (omega (arith, ints, natural_is x)) in
      let back : pos (natural x) ≡ x = omega (arith, ints, natural_is x) in
      ap (λ (m : Meaning). increment_at m x) (made_means q none) ∙ here'
      ∙ nth_counted (λ k. quadratic_increment q.a q.b (pos k)) (natural q.c) (natural x) (omega (arith, ints, natural_is x, natural_is q.c))
      ∙ ap (λ (y : ℤ). Some (quadratic_increment q.a q.b y)) back

  pub made_past : (x : ℤ) → q.c ≤ℤ x → increment_at (quadratic_content q) x ≡ None
  made_past x h = increment_past (quadratic_content q) x (omega (arith, ints, made_last))

pub never_below_0 : (q : Quadratic) (x : ℤ) → x <ℤ pos 0 → increment_at (quadratic_content q) x ≡ None
never_below_0 q x h = go (quadratic_refusal q.a q.b q.c)
  where
    go : (r : Option CostFault) → increment_at (kept_or empty_cost r (quadratic_meaning q.a q.b q.c)) x ≡ None
    go None = increment_under (quadratic_meaning q.a q.b q.c) x h
    go (Some f) = increment_under empty_cost x h

pub unmade : (q : Quadratic) → false ≡ not (is_some (quadratic_refusal q.a q.b q.c)) → quadratic_content q ≡ empty_cost
unmade q e = replaced (quadratic_refusal q.a q.b q.c) empty_cost (quadratic_meaning q.a q.b q.c) e

-- ---- rows

abbrev of_three : List ℤ → Quadratic
of_three xs = record { a = slice_index_or xs 0 (pos 0); b = slice_index_or xs 1 (pos 0); c = slice_index_or xs 2 (pos 0) }

pub quadratic_of_row : (xs : List ℤ) (r : Result Quadratic CostFault) → length xs ≡ 3 → r ≡ unless (quadratic_refusal (slice_index_or xs 0 (pos 0)) (slice_index_or xs 1 (pos 0)) (slice_index_or xs 2 (pos 0))) (of_three xs) → (result_err r ≡ quadratic_row_refusal xs) × IfOk r (λ q. (quadratic_row q ≡ xs) × (quadratic_content q ≡ quadratic_row_meaning xs))
quadratic_of_row [] r n e = absurd (omega arith)
quadratic_of_row (a ∷ []) r n e = absurd (omega arith)
quadratic_of_row (a ∷ (b ∷ [])) r n e = absurd (omega arith)
quadratic_of_row (a ∷ (b ∷ (c ∷ (d ∷ xs)))) r n e = absurd (omega arith)
quadratic_of_row (a ∷ (b ∷ (c ∷ []))) r n e =
    answered (quadratic_refusal a b c) (record { a = a; b = b; c = c }) r _ e
    (λ none. (ap (λ (o : Option CostFault). kept_or (pos 0 ∷ pos 0 ∷ pos 0 ∷ []) o (a ∷ b ∷ c ∷ [])) none, made_means (record { a = a; b = b; c = c }) none))

-- the numbers of the row of any content have at most ten digits
pub brief_row : (q : Quadratic) → Brief (quadratic_row q)
brief_row q = go (quadratic_refusal q.a q.b q.c) refl
  where
    three : (a b c : ℤ) → Fit a b c → Brief (a ∷ b ∷ c ∷ [])
    three a b c fit =
        brief_more a (b ∷ c ∷ []) (omega (arith, ints, fit.a_limit.0), omega (arith, ints, fit.a_limit.1))
        (brief_more b (c ∷ []) (omega (arith, ints, fit.b_limit.0), omega (arith, ints, fit.b_limit.1))
        (brief_more c [] (omega (arith, ints, fit.c_limit.0), omega (arith, ints, fit.c_limit.1)) brief_none))

    zeros : Fit (pos 0) (pos 0) (pos 0)
    zeros = record { a_limit = (omega (arith, ints), omega (arith, ints)); b_limit = (omega (arith, ints), omega (arith, ints)); c_limit = (omega (arith, ints), omega (arith, ints)) }

    go : (r : Option CostFault) → quadratic_refusal q.a q.b q.c ≡ r → Brief (kept_or (pos 0 ∷ pos 0 ∷ pos 0 ∷ []) r (q.a ∷ q.b ∷ q.c ∷ []))
    go (Some fault) e = three (pos 0) (pos 0) (pos 0) zeros
    go None e = three q.a q.b q.c (keeps q.a q.b q.c e).0
