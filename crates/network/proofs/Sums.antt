-- The laws of sums over indices: equal terms, order, sums of sums, and a change of one term.
use Rattle.std.proofs.Common.{◌≡◌, ℕ, zero, suc, ◌+◌, ◌*◌, ◌<◌, eqb, ℤ, pos, ◌+ℤ◌, ◌-ℤ◌, ◌*ℤ◌, neg_ℤ, ◌≤ℤ◌, sym, refl, ap, inl, inr, add-one, arith}
use lib.IntN.{*ℤ-zero}
use Rattle.std.proofs.lemmas.Int.{ints}
use Rattle.std.proofs.lemmas.Bool.{cases_eq, eq-eqb, ne_eqb, cond-true, cond-false, cond_both}
use Rattle.cost.specs.Meaning.{Between}
use Rattle.network.specs.Sums.{sum, counted}
use Rattle.network.proofs.Products.{times_plus}

-- one term more, as a loop counts
pub sum_more : (n : ℕ) (f : ℕ → ℤ) → sum (n + 1) f ≡ sum n f +ℤ f n
sum_more n f = rw add-one

pub sum_same : (n : ℕ) (f g : ℕ → ℤ) → ((k : ℕ) → k < n → f k ≡ g k) → sum n f ≡ sum n g
sum_same zero f g same = refl
sum_same (suc n) f g same = omega (arith, ints, sum_same n f g (λ k h. same k (omega arith)), same n (omega arith))

pub sum_order : (n : ℕ) (f g : ℕ → ℤ) → ((k : ℕ) → k < n → f k ≤ℤ g k) → sum n f ≤ℤ sum n g
sum_order zero f g order = omega (arith, ints)
sum_order (suc n) f g order = omega (arith, ints, sum_order n f g (λ k h. order k (omega arith)), order n (omega arith))

pub sum_plus : (n : ℕ) (f g : ℕ → ℤ) → sum n (λ k. f k +ℤ g k) ≡ sum n f +ℤ sum n g
sum_plus zero f g = refl
sum_plus (suc n) f g = omega (arith, ints, sum_plus n f g)

pub sum_minus : (n : ℕ) (f g : ℕ → ℤ) → sum n (λ k. f k -ℤ g k) ≡ sum n f -ℤ sum n g
sum_minus zero f g = refl
sum_minus (suc n) f g = omega (arith, ints, sum_minus n f g)

pub sum_times : (n : ℕ) (c : ℤ) (f : ℕ → ℤ) → sum n (λ k. c *ℤ f k) ≡ c *ℤ sum n f
sum_times zero c f = sym (*ℤ-zero c)
sum_times (suc n) c f = cc (sum_times n c f, times_plus c (sum n f) (f n))

-- terms that are all 0
pub sum_none : (n : ℕ) (f : ℕ → ℤ) → ((k : ℕ) → k < n → f k ≡ pos 0) → sum n f ≡ pos 0
sum_none zero f none = refl
sum_none (suc n) f none = omega (arith, ints, sum_none n f (λ k h. none k (omega arith)), none n (omega arith))

-- two sums change places
pub sum_swap : (n m : ℕ) (f : ℕ → ℕ → ℤ) → sum n (λ i. sum m (λ j. f i j)) ≡ sum m (λ j. sum n (λ i. f i j))
sum_swap zero m f = sym (sum_none m (λ j. pos 0) (λ k h. refl))
sum_swap (suc n) m f = omega (arith, ints, sum_swap n m f, sum_plus m (λ j. sum n (λ i. f i j)) (f n))

-- below n, two functions agree at every place but p
abbrev pub AlikeBut : ℕ → ℕ → (ℕ → ℤ) → (ℕ → ℤ) → Type 0
AlikeBut n p f g = (k : ℕ) → k < n → (k ≡ p → ⊥) → f k ≡ g k

-- one term changes
pub sum_changed : (n p : ℕ) (f g : ℕ → ℤ) → p < n → AlikeBut n p f g → sum n g ≡ sum n f +ℤ (g p -ℤ f p)
sum_changed zero p f g within same = absurd (omega arith)
sum_changed (suc n) p f g within same =
    elim (cases_eq n p) [
      | inl at ↦ omega (arith, ints, sum_same n f g (λ k h. same k (omega arith) (λ e. omega arith)), ap g at, ap f at)
      | inr away ↦ omega (arith, ints, sum_changed n p f g (omega arith) (λ k h. same k (omega arith)), same n (omega arith) away)
    ]

-- one term alone counts
pub sum_at : (n p : ℕ) (f : ℕ → ℤ) → p < n → sum n (λ k. counted (eqb p k) (f k)) ≡ f p
sum_at n p f within =
    omega (
      arith,
      ints,
      sum_changed n p (λ k. pos 0) (λ k. counted (eqb p k) (f k)) within (λ k h away. sym (cond-false (eqb p k) (f k) (pos 0) (ne_eqb p k (λ e. away (sym e))))),
      sum_none n (λ k. pos 0) (λ k h. refl),
      cond-true (eqb p p) (f p) (pos 0) (eq-eqb p p refl),
    )

-- of terms that are none below 0, each is at most the sum
pub sum_covers : (n p : ℕ) (f : ℕ → ℤ) → p < n → ((k : ℕ) → k < n → pos 0 ≤ℤ f k) → f p ≤ℤ sum n f
sum_covers n p f within each =
    rw (← sum_at n p f within) (sum_order n _ _ (λ k h. cond_both (eqb p k) (f k) (pos 0) (λ x. x ≤ℤ f k) (λ e. omega (arith, ints)) (λ e. each k h)))

-- terms from -c to c
pub sum_within : (n c : ℕ) (f : ℕ → ℤ) → ((k : ℕ) → k < n → Between (neg_ℤ (pos c)) (pos c) (f k)) → Between (neg_ℤ (pos (n * c))) (pos (n * c)) (sum n f)
sum_within zero c f each = omega (arith, ints)
sum_within (suc n) c f each = omega (arith, ints, sum_within n c f (λ k h. each k (omega arith)), each n (omega arith))
