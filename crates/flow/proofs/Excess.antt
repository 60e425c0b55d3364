-- What goes from a node of positive surplus to one of negative surplus is taken off the sum of the positive surpluses.
use Rattle.std.proofs.Common.{◌≡◌, ℕ, ◌<◌, eqb, List, ℤ, pos, negsuc, ◌+ℤ◌, ◌-ℤ◌, neg_ℤ, ◌≤ℤ◌, ◌<ℤ◌, sym, refl, ap, ◌∙◌, inl, inr, arith}
use Rattle.std.proofs.lemmas.Int.{ints}
use Rattle.std.proofs.lemmas.Bool.{cases_eq, eq-eqb, ne_eqb, cond-true, cond-false}
use Rattle.cost.specs.Meaning.{natural}
use Rattle.network.specs.Sums.{sum, counted}
use Rattle.network.specs.Records.{numbers}
use Rattle.network.proofs.Sums.{sum_changed, sum_order, sum_none}
use Rattle.flow.specs.Surpluses.{excess}

pub natural_is : (x : ℤ) → pos 0 ≤ℤ x → pos (natural x) ≡ x
natural_is (pos n) h = refl
natural_is (negsuc n) h = absurd (omega (arith, ints))

natural_none : (x : ℤ) → x ≤ℤ pos 0 → pos (natural x) ≡ pos 0
natural_none (pos n) h = omega (arith, ints)
natural_none (negsuc n) h = refl

pub natural_less : (x y : ℤ) → pos 0 ≤ℤ x → x <ℤ y → natural x < natural y
natural_less x y above less = omega (arith, ints, natural_is x above, natural_is y (omega (arith, ints)))

module _ (n : ℕ) (xs ys : List ℤ) (from to : ℕ) (by : ℤ) (from_in : from < n) (to_in : to < n) (sign : pos 0 <ℤ by) (enough : by ≤ℤ numbers xs from) (short : by ≤ℤ neg_ℤ (numbers xs to))
    (moved : (v : ℕ) → v < n → numbers ys v ≡ numbers xs v +ℤ counted (eqb to v) by -ℤ counted (eqb from v) by) where
  at_from : numbers ys from ≡ numbers xs from -ℤ by
  at_from =
      let apart : to ≡ from → ⊥ = λ e. omega (arith, ints, ap (numbers xs) e) in
      omega (arith, ints, moved from from_in, cond-false (eqb to from) by (pos 0) (ne_eqb to from apart), cond-true (eqb from from) by (pos 0) (eq-eqb from from refl))

  away_from : (v : ℕ) → v < n → (v ≡ from → ⊥) → numbers ys v ≡ numbers xs v +ℤ counted (eqb to v) by
  away_from v h away = omega (arith, ints, moved v h, cond-false (eqb from v) by (pos 0) (ne_eqb from v (λ e. away (sym e))))

  kept : (v : ℕ) → v < n → (v ≡ from → ⊥) → pos (natural (numbers xs v)) ≡ pos (natural (numbers ys v))
  kept v h away =
      elim (cases_eq to v) [
        | inl at ↦ let less = away_from v h away in let gain = cond-true (eqb to v) by (pos 0) (eq-eqb to v at) in let there = ap (numbers xs) at in
            natural_none (numbers xs v) (omega (arith, ints)) ∙ sym (natural_none (numbers ys v) (omega (arith, ints)))
        | inr other ↦
            let same : numbers xs v ≡ numbers ys v = omega (arith, ints, away_from v h away, cond-false (eqb to v) by (pos 0) (ne_eqb to v other)) in
            ap (λ x. pos (natural x)) same
      ]

  pub excess_falls : excess n ys < excess n xs
  excess_falls =
      let change = sum_changed n from (λ v. pos (natural (numbers xs v))) (λ v. pos (natural (numbers ys v))) from_in kept in
      let before = natural_is (numbers xs from) (omega (arith, ints)) in
      let after = natural_is (numbers ys from) (omega (arith, ints, at_from)) in
      natural_less (sum n (λ v. pos (natural (numbers ys v)))) (sum n (λ v. pos (natural (numbers xs v))))
      (omega (arith, ints, sum_none n (λ v. pos 0) (λ v h. refl), sum_order n (λ v. pos 0) (λ v. pos (natural (numbers ys v))) (λ v h. omega (arith, ints))))
      (omega (arith, ints, at_from))
