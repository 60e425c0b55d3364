-- Amounts and increments of a cost, from one load to the next.
use Rattle.std.proofs.Common.{◌≡◌, ℕ, zero, suc, ◌+◌, ◌*◌, ◌<◌, ◌≤◌, Bool, true, false, ◌⊎◌, List, length, get_or, take, ℤ, pos, ◌+ℤ◌, neg_ℤ, ◌≤ℤ◌, ◌<ℤ◌, Some, None, Option, sym, refl, ap, ◌∙◌, inl, inr, arith}
use lib.Signed.{le_z}
use Rattle.std.specs.List.{slice_get}
use Rattle.std.proofs.lemmas.Int.{ints, by_lt_z}
use Rattle.std.proofs.lemmas.Bool.{and_parts, and_from, cond-true, cond-false, cases_lt}
use Rattle.std.proofs.lemmas.Option.{slice_get-get_or, slice_get_past}
use Rattle.cost.proofs.Lists.{total_suc}
use Rattle.cost.specs.Meaning.{Meaning, last, total, beyond, in_range, InRange, amount_at, amount_within, increment_at, Between, Lawful}

-- the test of a range and what it tests
pub range_from_test : (m : Meaning) (x : ℤ) → in_range m x ≡ true → InRange m x
range_from_test m x e = let both = and_parts (le_z (pos m.first) x) (le_z x (pos (last m))) e in omega (arith, ints)

pub test_from_range : (m : Meaning) (x : ℤ) → InRange m x → in_range m x ≡ true
test_from_range m x h = and_from (le_z (pos m.first) x) (le_z x (pos (last m))) (sym (omega (arith, ints))) (sym (omega (arith, ints)))

pub amount_ranged : (m : Meaning) (x : ℤ) → InRange m x → amount_within m x ≡ Some (amount_at m x)
amount_ranged m x h = cond-true (in_range m x) (Some (amount_at m x)) None (test_from_range m x h)

-- a load of the range is the first load and its place in the range
pub load_at : (m : Meaning) (x : ℤ) → InRange m x → (x ≡ pos (m.first + beyond m x)) × (beyond m x ≤ length m.increments)
load_at m x h = omega (arith, ints)

-- there is an increment at each place of the range but the last
pub increment_is : (m : Meaning) (x : ℤ) (k : ℕ) → x ≡ pos (m.first + k) → k < length m.increments → increment_at m x ≡ Some (get_or m.increments k (pos 0))
increment_is m x k at within =
    let place : beyond m x ≡ k = omega (arith, ints) in
    cond-true (le_z (pos m.first) x) (slice_get m.increments (beyond m x)) None (sym (omega (arith, ints)))
    ∙ ap (slice_get m.increments) place ∙ slice_get-get_or m.increments k (pos 0) within

pub increment_below : (m : Meaning) (x : ℤ) → pos m.first ≤ℤ x → x <ℤ pos (last m) → increment_at m x ≡ Some (get_or m.increments (beyond m x) (pos 0))
increment_below m x low high = increment_is m x (beyond m x) (omega (arith, ints)) (omega (arith, ints))

-- an increment tells where its load lies and which of the increments it is
pub record Increment (m : Meaning) (x i : ℤ) : Type 0 where
  pub low : pos m.first ≤ℤ x
  pub high : x <ℤ pos (last m)
  pub is : i ≡ get_or m.increments (beyond m x) (pos 0)

never : {P : Type 0} (o : Option ℤ) (i : ℤ) → o ≡ Some i → o ≡ None → P
never o i some none = let no : ◌≡◌ {A = ℕ} 0 1 = cc in absurd (omega arith)

pub increment_some : (m : Meaning) (x i : ℤ) → increment_at m x ≡ Some i → Increment m x i
increment_some m x i e = by_low (le_z (pos m.first) x) refl
  where
    by_place : pos m.first ≤ℤ x → (beyond m x < length m.increments) ⊎ (length m.increments ≤ beyond m x) → slice_get m.increments (beyond m x) ≡ Some i → Increment m x i
    by_place low (inl within) at = record { low = low; high = omega (arith, ints); is = cc (slice_get-get_or m.increments (beyond m x) (pos 0) within) }
    by_place low (inr past) at = never (slice_get m.increments (beyond m x)) i at (slice_get_past m.increments (beyond m x) past)

    by_low : (test : Bool) → le_z (pos m.first) x ≡ test → Increment m x i
    by_low true low = by_place (omega (arith, ints)) (cases_lt (beyond m x) (length m.increments)) (sym (cond-true (le_z (pos m.first) x) (slice_get m.increments (beyond m x)) None low) ∙ e)
    by_low false low = never (increment_at m x) i e (cond-false (le_z (pos m.first) x) (slice_get m.increments (beyond m x)) None low)

-- a load of the range with no increment is the last
pub increment_none : (m : Meaning) (x : ℤ) → InRange m x → increment_at m x ≡ None → x ≡ pos (last m)
increment_none m x h e =
    by_lt_z x (pos (last m))
    (λ under. never (increment_at m x) (get_or m.increments (beyond m x) (pos 0)) (increment_is m x (beyond m x) (load_at m x h).0 (omega (arith, ints))) e)
    (λ over. omega (arith, ints))

-- a load with an increment has a next load in the range
pub next_in_range : (m : Meaning) (x i : ℤ) → increment_at m x ≡ Some i → InRange m (x +ℤ pos 1)
next_in_range m x i e = let place = increment_some m x i e in omega (arith, ints)

pub amount_first : (m : Meaning) → amount_at m (pos m.first) ≡ m.opening
amount_first m = let start : beyond m (pos m.first) ≡ 0 = omega (arith, ints) in rw start (omega (arith, ints))

-- a further request adds the increment
pub amount_next : (m : Meaning) (x i : ℤ) → increment_at m x ≡ Some i → amount_at m (x +ℤ pos 1) ≡ amount_at m x +ℤ i
amount_next m x i e =
    let place = increment_some m x i e in
    let next : beyond m (x +ℤ pos 1) ≡ suc (beyond m x) = omega (arith, ints) in
    rw next (omega (arith, ints, total_suc m.increments (beyond m x) (omega (arith, ints)), place.is))

total_limit : (xs : List ℤ) (k c : ℕ) → k ≤ length xs → ((j : ℕ) → j < length xs → Between (neg_ℤ (pos c)) (pos c) (get_or xs j (pos 0)))
    → Between (neg_ℤ (pos (k * c))) (pos (k * c)) (total (take k xs))
total_limit xs zero c h each = omega (arith, ints)
total_limit xs (suc k) c h each = omega (arith, ints, total_suc xs k (omega arith), each k (omega arith), total_limit xs k c (omega arith) each)

-- the largest amount: the largest opening amount and as many of the largest increments as there can be
pub amount_limit : (m : Meaning) (x : ℤ) → Lawful m → InRange m x → Between (neg_ℤ (pos 11000000000)) (pos 11000000000) (amount_at m x)
amount_limit m x lawful h =
    omega (
      arith,
      ints,
      lawful.opening_limit,
      lawful.last_limit,
      load_at m x h,
      total_limit m.increments (beyond m x) 1000000 (load_at m x h).1 lawful.increment_limit,
    )

-- what a walk up the range knows at each step
pub record Step (m : Meaning) (x i : ℤ) : Type 0 where
  pub next : InRange m (x +ℤ pos 1)
  pub amount : amount_at m (x +ℤ pos 1) ≡ amount_at m x +ℤ i
  pub limit_before : Between (neg_ℤ (pos 11000000000)) (pos 11000000000) (amount_at m x)
  pub limit_after : Between (neg_ℤ (pos 11000000000)) (pos 11000000000) (amount_at m (x +ℤ pos 1))

pub step_up : (m : Meaning) (x i : ℤ) → Lawful m → increment_at m x ≡ Some i → Step m x i
step_up m x i lawful e = record {
  next = next_in_range m x i e;
  amount = amount_next m x i e;
  limit_before = let place = increment_some m x i e in amount_limit m x lawful (omega (arith, ints));
  limit_after = amount_limit m (x +ℤ pos 1) lawful (next_in_range m x i e);
}
