-- What a loop reads at an index is the cost that the network has there, and a charge is gathered cost by cost.
use Rattle.std.proofs.Common.{◌≡◌, ℕ, zero, suc, ◌+◌, ◌<◌, ◌≤◌, Bool, true, false, not, List, [], ◌∷◌, map, length, get_or, zip, ℤ, pos, Some, None, Option, option_map, MatchOption, refl, subst, sym, ap, ◌∙◌, arith}
use Rattle.std.specs.List.{AllWithin, HoldsAt}
use Rattle.std.proofs.lemmas.Slice.Zip.{length-zip, get_or-zip}
use Rattle.cost.proofs.FirstPlace.{first_place_none, first_place_found}
use Rattle.std.proofs.lemmas.List.{get_or-map}
use Rattle.std.proofs.lemmas.Int.{ints}
use Rattle.cost.specs.Meaning.{Meaning, empty_cost, in_range, InRange, amount_at, amount_within, Lawful}
use Rattle.cost.proofs.Amount.{amount_ranged, amount_limit}
use Rattle.network.specs.Sums.{sum}
use Rattle.network.specs.Records.{numbers, cost_of, Ranged, out_of_range, amount_of}
use Rattle.network.proofs.Sums.{sum_more, sum_within}
use Rattle.network.proofs.Gathers.{Gathers, Moderate, gathers}

pub cost_read : {X : Type 0} (f : X → Meaning) (xs : List X) (a : ℕ) (x : X) → a < length xs → x ≡ get_or xs a x → cost_of (map f xs) a ≡ f x
cost_read f xs a x h e = get_or-map f xs a x empty_cost h ∙ ap f (sym e)

-- the amount that a loop reads at a load of the range
pub amount_read : {X : Type 0} (f : X → Meaning) (xs : List X) (a : ℕ) (x : X) (y : ℤ) → a < length xs → x ≡ get_or xs a x → InRange (cost_of (map f xs) a) y
    → amount_within (f x) y ≡ Some (amount_at (cost_of (map f xs) a) y)
amount_read f xs a x y h e ranged = rw (← cost_read f xs a x h e) (amount_ranged (cost_of (map f xs) a) y ranged)

-- what holds of every cost holds of each in the list
pub each_cost : {X : Type 0} (f : X → Meaning) (P : Meaning → Type 0) → ((x : X) → P (f x)) → (xs : List X) (a : ℕ) → a < length xs → P (cost_of (map f xs) a)
each_cost f P every [] a h = absurd (omega arith)
each_cost f P every (x ∷ xs) zero h = every x
each_cost f P every (x ∷ xs) (suc a) h = each_cost f P every xs a (omega arith)

module _ (costs : List Meaning) (loads : List ℤ) (lawful : (a : ℕ) → a < length loads → Lawful (cost_of costs a)) (limit : length loads ≤ 256) (ranges : Ranged costs loads) where
  moderate : (n : ℕ) → n ≤ length loads → Moderate (sum n (amount_of costs loads))
  moderate n h =
      omega (arith, ints, sum_within n 11000000000 (amount_of costs loads) (λ a l. amount_limit (cost_of costs a) (numbers loads a) (lawful a (omega arith)) (ranges a (omega arith))))

  pub charge_gathers : (a : ℕ) → a < length loads → Gathers (λ n. sum n (amount_of costs loads)) a (amount_of costs loads a)
  charge_gathers a h =
      gathers (λ n. sum n (amount_of costs loads)) a (amount_of costs loads a) (sum_more a (amount_of costs loads)) (moderate a (omega arith)) (moderate (a + 1) (omega arith))

-- an element stands at each place below the length
element_at : {X : Type 0} (xs : List X) (k : ℕ) → k < length xs → (x : X) × (x ≡ get_or xs k x)
element_at [] k h = absurd (omega arith)
element_at (x ∷ xs) zero h = (x, refl)
element_at (x ∷ xs) (suc k) h = element_at xs k (omega arith)

module _ {X : Type 0} (f : X → Meaning) (costs : List X) (loads : List ℤ) (loaded : length loads ≡ length costs) where
  -- whether the cost and the load that stand side by side fit
  abbrev Fits : Bool → X × ℤ → Type 0
  Fits b p = in_range (f p.0) p.1 ≡ b

  fits_at : (b : Bool) (k : ℕ) → k < length loads → HoldsAt (Fits b) (zip costs loads) k → in_range (cost_of (map f costs) k) (numbers loads k) ≡ b
  fits_at b k h each =
      let within : k < length costs = omega arith in
      let here = element_at costs k within in
      ap (λ m. in_range m (numbers loads k)) (cost_read f costs k here.0 within here.1 ∙ ap f here.1)
      ∙ subst (Fits b) (get_or-zip costs loads k (here.0, pos 0) within h) (each (here.0, pos 0))

  -- the first pair that does not fit is the first load out of range
  pub first_pair : (r : Option ℕ)
      → MatchOption r (AllWithin (Fits true) (zip costs loads) 0 (length (zip costs loads))) (λ i. (i < length (zip costs loads)) × HoldsAt (Fits false) (zip costs loads) i × AllWithin (Fits true) (zip costs loads) 0 i)
      → option_map (λ i. i + 1) r ≡ out_of_range (map f costs) loads
  first_pair None all =
      sym (first_place_none (λ k. not (in_range (cost_of (map f costs) k) (numbers loads k))) (length loads)
      (λ k h. ap not (fits_at true k h (λ d. all k d (omega arith) (omega (arith, length-zip costs loads))))))
  first_pair (Some i) (within, bad, before) =
      let here : i < length loads = omega (arith, length-zip costs loads) in
      sym (first_place_found (λ k. not (in_range (cost_of (map f costs) k) (numbers loads k))) (length loads) i here
      (λ k h. ap not (fits_at true k (omega arith) (λ d. before k d (omega arith) h))) (ap not (fits_at false i here bad)))
