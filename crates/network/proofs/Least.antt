-- The least reduced amount is reached where the increments pass the tension.
use Rattle.std.proofs.Common.{◌≡◌, ℕ, zero, suc, ◌+◌, ◌<◌, ◌≤◌, List, length, get_or, ℤ, pos, ◌+ℤ◌, ◌-ℤ◌, neg_ℤ, ◌≤ℤ◌, Some, sym, refl, ap, ◌∙◌, inl, inr, add-one, arith}
use lib.IntN.{+ℤ-neg_ℤ_cancel}
use Rattle.std.proofs.lemmas.Int.{ints, clamps}
use Rattle.std.proofs.lemmas.Bool.{cases_eq, cases_lt}
use Rattle.cost.specs.Meaning.{Meaning, InRange, beyond, increment_at, Rising}
use Rattle.cost.proofs.Amount.{load_at, increment_is, increment_some, amount_next}
use Rattle.network.specs.Sums.{least_of}
use Rattle.network.specs.Network.{reduced, least, Slack}
use Rattle.network.specs.Theorems.{LeastIsReached}
use Rattle.network.proofs.Products.{times_plus}

-- the least of some values is at most each of them
pub least_of_under : (n k : ℕ) (f : ℕ → ℤ) → k ≤ n → least_of n f ≤ℤ f k
least_of_under zero k f h = let at : k ≡ 0 = omega arith in omega (arith, ints, ap f at)
least_of_under (suc n) k f h =
    elim (cases_eq k (suc n)) [
      | inl at ↦ omega (arith, ints, clamps, ap f at)
      | inr away ↦ omega (arith, ints, clamps, least_of_under n k f (omega arith))
    ]

-- what is at most each of some values is at most their least
pub least_of_over : (n : ℕ) (b : ℤ) (f : ℕ → ℤ) → ((k : ℕ) → k ≤ n → b ≤ℤ f k) → b ≤ℤ least_of n f
least_of_over zero b f each = each 0 (omega arith)
least_of_over (suc n) b f each = omega (arith, ints, clamps, each (suc n) (omega arith), least_of_over n b f (λ k h. each k (omega arith)))

-- values that never fall from one place to the next
pub climbs : (f : ℕ → ℤ) (j k : ℕ) → j ≤ k → ((i : ℕ) → j ≤ i → i < k → f i ≤ℤ f (suc i)) → f j ≤ℤ f k
climbs f j zero h step = let at : j ≡ 0 = omega arith in omega (arith, ints, ap f at)
climbs f j (suc k) h step =
    elim (cases_eq j (suc k)) [
      | inl at ↦ omega (arith, ints, ap f at)
      | inr away ↦ omega (arith, ints, step k (omega arith) (omega arith), climbs f j k (omega arith) (λ i low high. step i low (omega arith)))
    ]

pub rising : (xs : List ℤ) (j k : ℕ) → Rising xs → j ≤ k → k < length xs → get_or xs j (pos 0) ≤ℤ get_or xs k (pos 0)
rising xs j k rises h within = climbs (λ i. get_or xs i (pos 0)) j k h (λ i low high. rw add-one at (rises i (omega arith)))

-- a further request adds to the reduced amount the increment less the tension
pub reduced_next : (m : Meaning) (t x i : ℤ) → increment_at m x ≡ Some i → reduced m t (x +ℤ pos 1) ≡ reduced m t x +ℤ (i -ℤ t)
reduced_next m t x i e = omega (arith, ints, amount_next m x i e, times_plus t x (pos 1))

-- the same by the place in the range
reduced_step : (m : Meaning) (t : ℤ) (k : ℕ) → k < length m.increments → reduced m t (pos (m.first + suc k)) ≡ reduced m t (pos (m.first + k)) +ℤ (get_or m.increments k (pos 0) -ℤ t)
reduced_step m t k h =
    let next : pos (m.first + suc k) ≡ pos (m.first + k + 1) = omega (arith, ints) in
    ap (reduced m t) next ∙ reduced_next m t (pos (m.first + k)) (get_or m.increments k (pos 0)) (increment_is m (pos (m.first + k)) k refl h)

-- a walk up the range may stop where the increment before is at most the tension and the next at least the tension
pub least_at : (m : Meaning) (t : ℤ) (k : ℕ) → Rising m.increments → k ≤ length m.increments
    → ((j : ℕ) → suc j ≡ k → get_or m.increments j (pos 0) ≤ℤ t)
    → (k < length m.increments → t ≤ℤ get_or m.increments k (pos 0))
    → least m t ≡ reduced m t (pos (m.first + k))
least_at m t k rises within before after =
    let up = least_of_under (length m.increments) k value within in
    let down = least_of_over (length m.increments) (value k) value around in
    omega (arith, ints)
  where
    value : ℕ → ℤ
    value j = reduced m t (pos (m.first + j))

    small : (i j : ℕ) → i < j → j ≡ k → get_or m.increments i (pos 0) ≤ℤ t
    small i zero h at = absurd (omega arith)
    small i (suc j) h at = omega (arith, ints, before j at, rising m.increments i j rises (omega arith) (omega arith))

    around : (j : ℕ) → j ≤ length m.increments → value k ≤ℤ value j
    around j h =
        elim (cases_lt j k) [
          | inl under ↦ omega (arith, ints, climbs (λ i. neg_ℤ (value i)) j k (omega arith) (λ i low high. omega (arith, ints, small i k high refl, reduced_step m t i (omega arith))))
          | inr over ↦ climbs value k j over (λ i low high. omega (arith, ints, after (omega arith), rising m.increments k i rises low (omega arith), reduced_step m t i (omega arith)))
        ]

-- no reduced amount of the range is below the least
pub least_under : (m : Meaning) (t x : ℤ) → InRange m x → least m t ≤ℤ reduced m t x
least_under m t x h =
    let at = load_at m x h in
    omega (arith, ints, least_of_under (length m.increments) (beyond m x) (λ k. reduced m t (pos (m.first + k))) at.1, ap (reduced m t) at.0)

-- the least is reached at every slack load
pub least_slack : (m : Meaning) (t x : ℤ) → Rising m.increments → Slack m t x → least m t ≡ reduced m t x
least_slack m t x rises slack =
    let at = load_at m x slack.within in
    least_at m t (beyond m x) rises at.1
    (λ j next. slack.before (get_or m.increments j (pos 0)) (increment_is m (x -ℤ pos 1) j (omega (arith, ints)) (omega arith)))
    (λ more. slack.after (get_or m.increments (beyond m x) (pos 0)) (increment_is m x (beyond m x) at.0 more))
    ∙ sym (ap (reduced m t) at.0)

-- the increment that leads to the load of a walk is at most the tension: at the first load, and after a step
pub before_first : (m : Meaning) (t i : ℤ) → increment_at m (pos m.first -ℤ pos 1) ≡ Some i → i ≤ℤ t
before_first m t i e = let place = increment_some m (pos m.first -ℤ pos 1) i e in absurd (omega (arith, ints))

pub before_next : (m : Meaning) (t x i : ℤ) → increment_at m x ≡ Some i → i ≤ℤ t → (j : ℤ) → increment_at m (x +ℤ pos 1 -ℤ pos 1) ≡ Some j → j ≤ℤ t
before_next m t x i e small j f =
    let same : i ≡ j = cc (e, f, ap (increment_at m) (+ℤ-neg_ℤ_cancel x (pos 1))) in
    omega (arith, ints)

pub least_is_reached : LeastIsReached
least_is_reached m t x = (least_under m t x, least_slack m t x)
