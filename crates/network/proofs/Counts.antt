-- How many indices pass a test: the laws of such counts.
use Rattle.std.proofs.Common.{◌≡◌, ℕ, zero, suc, ◌<◌, ◌≤◌, Bool, true, false, cond, refl, ap, ◌∙◌, inl, inr, arith}
use Rattle.std.proofs.lemmas.Bool.{cases_eq, false≢true}
use Rattle.network.specs.Sums.{count}

once : (n p : ℕ) (test : ℕ → Bool) (b : Bool) → n ≡ p → test p ≡ b → ◌≡◌ {A = ℕ} (cond (test n) 1 0) (cond b 1 0)
once n p test b at is = ap (λ k. cond {A = ℕ} (test k) 1 0) at ∙ ap (λ t. cond {A = ℕ} t 1 0) is

at_most : (b : Bool) → cond b 1 0 ≤ 1
at_most true = omega arith
at_most false = omega arith

in_order : (b c : Bool) → (b ≡ true → c ≡ true) → cond b 1 0 ≤ cond c 1 0
in_order true true h = omega arith
in_order true false h = absurd (false≢true (h refl))
in_order false c h = omega arith

pub count_limit : (n : ℕ) (test : ℕ → Bool) → count n test ≤ n
count_limit zero test = omega arith
count_limit (suc n) test = omega (arith, count_limit n test, at_most (test n))

pub count_order : (n : ℕ) (f g : ℕ → Bool) → ((k : ℕ) → k < n → f k ≡ true → g k ≡ true) → count n f ≤ count n g
count_order zero f g order = omega arith
count_order (suc n) f g order = omega (arith, count_order n f g (λ k h. order k (omega arith)), in_order (f n) (g n) (order n (omega arith)))

-- one more index passes the second test
pub count_more : (n p : ℕ) (f g : ℕ → Bool) → p < n → ((k : ℕ) → k < n → f k ≡ true → g k ≡ true) → f p ≡ false → g p ≡ true → count n f < count n g
count_more zero p f g within order before after = absurd (omega arith)
count_more (suc n) p f g within order before after =
    elim (cases_eq n p) [
      | inl at ↦ omega (arith, count_order n f g (λ k h. order k (omega arith)), once n p f false at before, once n p g true at after)
      | inr away ↦ omega (arith, count_more n p f g (omega arith) (λ k h. order k (omega arith)) before after, in_order (f n) (g n) (order n (omega arith)))
    ]

-- where one index fails the test, not all pass it
pub count_under : (n p : ℕ) (test : ℕ → Bool) → p < n → test p ≡ false → count n test < n
count_under n p test within fails = omega (arith, count_more n p test (λ k. true) within (λ k h e. refl) fails refl, count_limit n (λ k. true))
