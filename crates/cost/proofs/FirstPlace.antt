-- The first place at which a test passes: it passes there and nowhere before, and no place is given where it passes nowhere.
use Rattle.std.proofs.Common.{◌≡◌, ℕ, zero, suc, ◌+◌, ◌<◌, ◌≤◌, Bool, true, false, cond, List, [], ◌∷◌, length, get_or, Some, None, Option, sym, refl, ap, ◌∙◌, subst, arith, MatchOption}
use Rattle.std.specs.List.{position, position_from}
use Rattle.std.specs.Option.{option_map}
use Rattle.std.proofs.lemmas.Iterator.Adapters.{position_from-zero}
use native.Mathlib.Decide.{ℕ_discrete}
use Rattle.cost.specs.Places.{first_place_from, first_place, FirstPlaceIsFirst}

pub by_eq : {P : Type 0} (m n : ℕ) → (m ≡ n → P) → (¬ (m ≡ n) → P) → P
by_eq m n same apart = elim (ℕ_discrete m n) [ yes p ↦ same p | no q ↦ apart q ]

none_some : {p : ℕ} → ◌≡◌ {A = Option ℕ} None (Some p) → ⊥
none_some e = let z : ◌≡◌ {A = ℕ} 0 1 = cc in omega arith

some_same : {p q : ℕ} → ◌≡◌ {A = Option ℕ} (Some p) (Some q) → p ≡ q
some_same e = cc

module _ (test : ℕ → Bool) where
  none_from : (k more : ℕ) → ((j : ℕ) → k ≤ j → j < k + more → test j ≡ false) → first_place_from test k more ≡ None
  none_from k zero never = refl
  none_from k (suc more) never =
      rw (never k (omega arith) (omega arith)) (none_from (k + 1) more (λ j low high. never j (omega arith) (omega arith)))

  pub first_place_none : (n : ℕ) → ((j : ℕ) → j < n → test j ≡ false) → first_place test n ≡ None
  first_place_none n never = none_from 0 n (λ j low high. never j (omega arith))

  found_from : (k more i : ℕ) → k ≤ i → i < k + more → ((j : ℕ) → k ≤ j → j < i → test j ≡ false) → test i ≡ true → first_place_from test k more ≡ Some (i + 1)
  found_from k zero i low high before here = absurd (omega arith)
  found_from k (suc more) i low high before here =
      by_eq k i
      (λ same. rw (subst (λ (j : ℕ). test j ≡ true) (sym same) here) (ap (λ (j : ℕ). Some (j + 1)) same))
      (λ apart. rw (before k (omega arith) (omega arith)) (found_from (k + 1) more i (omega arith) (omega arith) (λ j l h. before j (omega arith) h) here))

  pub first_place_found : (n i : ℕ) → i < n → ((j : ℕ) → j < i → test j ≡ false) → test i ≡ true → first_place test n ≡ Some (i + 1)
  first_place_found n i high before here = found_from 0 n i (omega arith) (omega arith) (λ j low h. before j h) here

  -- what a place says that was found among `more` indices from k on
  abbrev Found : ℕ → ℕ → ℕ → Type 0
  Found k more p = (i : ℕ) × (p ≡ i + 1) × (k ≤ i) × (i < k + more) × (test i ≡ true) × ((j : ℕ) → k ≤ j → j < i → test j ≡ false)

  tells_from : (k more p : ℕ) → first_place_from test k more ≡ Some p → Found k more p
  tells_from k zero p e = absurd (none_some e)
  tells_from k (suc more) p e = go (test k) refl (λ rest. tells_from (k + 1) more p rest)
    where
      go : (b : Bool) → test k ≡ b → (first_place_from test (k + 1) more ≡ Some p → Found (k + 1) more p) → Found k (suc more) p
      go true here later = (k, sym (some_same (rw here at e)), omega arith, omega arith, here, λ j low high. absurd (omega arith))
      go false here later =
          let f : Found (k + 1) more p = later (rw here at e) in
          (f.0, f.1, omega arith, omega arith, f.4, λ j low high. by_eq k j (λ same. rw (← same) here) (λ apart. f.5 j (omega arith) high))

  -- a place that was found is the first at which the test passes
  pub first_place_tells : (n p : ℕ) → first_place test n ≡ Some p → (i : ℕ) × (p ≡ i + 1) × (i < n) × (test i ≡ true) × ((j : ℕ) → j < i → test j ≡ false)
  first_place_tells n p e =
      let f : Found 0 n p = tells_from 0 n p e in
      (f.0, f.1, omega arith, f.4, λ j h. f.5 j (omega arith) h)

  never_from : (k more : ℕ) → first_place_from test k more ≡ None → (j : ℕ) → k ≤ j → j < k + more → test j ≡ false
  never_from k zero e j low high = absurd (omega arith)
  never_from k (suc more) e j low high = go (test k) refl (λ rest. never_from (k + 1) more rest j)
    where
      go : (b : Bool) → test k ≡ b → (first_place_from test (k + 1) more ≡ None → k + 1 ≤ j → j < k + 1 + more → test j ≡ false) → test j ≡ false
      go true here later = absurd (none_some (sym (rw here at e)))
      go false here later = by_eq k j (λ same. rw (← same) here) (λ apart. later (rw here at e) (omega arith) (omega arith))

  -- where no place was found, the test passes nowhere
  pub first_place_never : (n : ℕ) → first_place test n ≡ None → (j : ℕ) → j < n → test j ≡ false
  first_place_never n e j h = never_from 0 n e j (omega arith) (omega arith)

-- a place is found by the index at which a list first passes, where the list tells the test from index k on
module _ {X : Type 0} (passes : X → Bool) (other : X) (test : ℕ → Bool) (k : ℕ) where
  place_from_position : (i : ℕ) (xs : List X) → ((j : ℕ) → j < length xs → test (i + j + k) ≡ passes (get_or xs j other))
      → option_map (λ n. n + (k + 1)) (position_from passes i xs) ≡ first_place_from test (i + k) (length xs)
  place_from_position i [] same = refl
  place_from_position i (x ∷ xs) same =
      let more : i + 1 + k ≡ i + k + 1 = omega arith in
      go (passes x) refl (ap test (omega arith) ∙ same 0 (omega arith))
      (place_from_position (i + 1) xs (λ j h. ap test (omega arith) ∙ same (suc j) (omega arith)) ∙ ap (λ (n : ℕ). first_place_from test n (length xs)) more)
    where
      go : (b : Bool) → passes x ≡ b → test (i + k) ≡ passes x → option_map (λ n. n + (k + 1)) (position_from passes (i + 1) xs) ≡ first_place_from test (i + k + 1) (length xs)
          → option_map (λ n. n + (k + 1)) (cond (passes x) (Some i) (position_from passes (i + 1) xs)) ≡ cond (test (i + k)) (Some (i + k + 1)) (first_place_from test (i + k + 1) (length xs))
      go true e here later = rw (here, e) (ap Some (omega arith))
      go false e here later = rw (here, e) later

  pub place_of_position : (xs : List X) → ((j : ℕ) → j < length xs → test (j + k) ≡ passes (get_or xs j other))
      → option_map (λ n. n + (k + 1)) (position passes xs) ≡ first_place_from test k (length xs)
  place_of_position xs same =
      ap (option_map (λ n. n + (k + 1))) (position_from-zero passes xs)
      ∙ place_from_position 0 xs (λ j h. ap test (omega arith) ∙ same j h)
      ∙ ap (λ (n : ℕ). first_place_from test n (length xs)) (omega arith)

pub first_place_is_first : FirstPlaceIsFirst
first_place_is_first test n = go (first_place test n) refl
  where
    go : (r : Option ℕ) → first_place test n ≡ r → MatchOption r ((j : ℕ) → j < n → test j ≡ false) (λ p. (i : ℕ) × (p ≡ i + 1) × (i < n) × (test i ≡ true) × ((j : ℕ) → j < i → test j ≡ false))
    go None e = first_place_never test n e
    go (Some p) e = first_place_tells test n p e
