-- What holds of the elements at each place before holds at the next place too, once it is written there.
use Rattle.std.proofs.Common.{◌≡◌, ℕ, ◌+◌, ◌<◌, ◌⊎◌, List, length, set, get_or, sym, subst, inl, inr, arith}
use Rattle.std.proofs.lemmas.List.{get_or-set_same, get_or-set_other}
use Rattle.std.proofs.lemmas.Bool.{cases_eq}

module _ {X : Type 0} (R : ℕ → X → Type 0) (xs : List X) (a : ℕ) (d : X) where
  pub one_more : (x : X) → a < length xs → ((k : ℕ) → k < a → R k (get_or xs k d)) → R a x → (k : ℕ) → k < a + 1 → R k (get_or (set xs a x) k d)
  one_more x within before here k h =
      elim (cases_eq k a) [
        | inl at ↦ subst (λ j. R j (get_or (set xs a x) j d)) (sym at) (subst (R a) (sym (get_or-set_same xs a x d within)) here)
        | inr away ↦ subst (R k) (sym (get_or-set_other xs a k x d away)) (before k (omega arith))
      ]

  -- where it holds at some places already
  module _ (Q : ℕ → Type 0) (n : ℕ) (before : (k : ℕ) → k < n → (k < a) ⊎ Q k → R k (get_or xs k d)) where
    sooner : (k : ℕ) → (k ≡ a → ⊥) → (k < a + 1) ⊎ Q k → (k < a) ⊎ Q k
    sooner k away (inl under) = inl (omega arith)
    sooner k away (inr kept) = inr kept

    pub one_renewed : (x : X) → a < length xs → R a x → (k : ℕ) → k < n → (k < a + 1) ⊎ Q k → R k (get_or (set xs a x) k d)
    one_renewed x within here k h which =
        elim (cases_eq k a) [
          | inl at ↦ subst (λ j. R j (get_or (set xs a x) j d)) (sym at) (subst (R a) (sym (get_or-set_same xs a x d within)) here)
          | inr away ↦ subst (R k) (sym (get_or-set_other xs a k x d away)) (before k h (sooner k away which))
        ]

    pub one_kept : Q a → (k : ℕ) → k < n → (k < a + 1) ⊎ Q k → R k (get_or xs k d)
    one_kept kept k h which =
        elim (cases_eq k a) [
          | inl at ↦ before k h (inr (subst Q (sym at) kept))
          | inr away ↦ before k h (sooner k away which)
        ]
