-- The sum that an iterator over a list gives.
use Rattle.std.proofs.Common.{◌≡◌, ℕ, suc, ◌*◌, ◌<◌, ◌≤◌, List, [], ◌∷◌, map, length, get_or, ℤ, pos, ◌+ℤ◌, Some, None, Option, fold, ◌∙◌, arith}
use Rattle.std.specs.Borrow.{Bor}
use Rattle.std.specs.Option.{option_map}
use Rattle.std.proofs.lemmas.List.{get_or-map, length-map}
use Rattle.std.proofs.lemmas.Int.{ints}
use Rattle.cost.specs.Meaning.{total, Between, AllBetween}

-- what a reference points to
abbrev pub now : Bor ℤ → ℤ
now y = y.now

pub summed : (z : ℤ) (ys : List (Bor ℤ)) → fold (λ a y. a +ℤ now y) z ys ≡ z +ℤ total (map now ys)
summed z [] = omega (arith, ints)
summed z (y ∷ ys) = summed (z +ℤ now y) ys ∙ omega (arith, ints)

total_between : (xs : List ℤ) → AllBetween (pos 1) (pos 10000) xs → Between (pos 0) (pos (10000 * length xs)) (total xs)
total_between [] each = omega (arith, ints)
total_between (x ∷ xs) each = omega (arith, ints, each 0 (omega arith), total_between xs (λ k h. each (suc k) (omega arith)))

-- a place that two lists tell of has the same in both
told : (o : Option (Bor ℤ)) (y : Bor ℤ) (x : ℤ) → option_map (λ y. y) o ≡ Some y → option_map now o ≡ Some x → now y ≡ x
told None y x e f = cc
told (Some z) y x e f = cc

-- the items so far are the numbers at the front of the list
front : (ys : List (Bor ℤ)) (at : ℕ → Option (Bor ℤ)) (xs : List ℤ) → ((k : ℕ) (d : Bor ℤ) → k < length ys → option_map (λ y. y) (at k) ≡ Some (get_or ys k d))
    → ((k : ℕ) (d : ℤ) → k < length ys → option_map now (at k) ≡ Some (get_or xs k d)) → (k : ℕ) → k < length ys → get_or (map now ys) k (pos 0) ≡ get_or xs k (pos 0)
front [] at xs reads tells k h = absurd (omega arith)
front (y ∷ ys) at xs reads tells k h =
    get_or-map now (y ∷ ys) k y (pos 0) h ∙ told (at k) (get_or (y ∷ ys) k y) (get_or xs k (pos 0)) (reads k y h) (tells k (pos 0) h)

-- numbers from 1 to 10,000 sum to no more than 10,000 for each of them
pub sum_between : (ys : List (Bor ℤ)) (at : ℕ → Option (Bor ℤ)) (xs : List ℤ) (n : ℕ) → n ≡ length ys → n ≤ length xs → ((k : ℕ) (d : Bor ℤ) → k < n → option_map (λ y. y) (at k) ≡ Some (get_or ys k d))
    → ((k : ℕ) (d : ℤ) → k < n → option_map now (at k) ≡ Some (get_or xs k d)) → AllBetween (pos 1) (pos 10000) xs
    → Between (pos 0) (pos (10000 * n)) (fold (λ a y. a +ℤ now y) (pos 0) ys)
sum_between ys at xs n long within' reads tells each =
    let same = front ys at xs (λ k d h. reads k d (omega arith)) (λ k d h. tells k d (omega arith)) in
    let all = total_between (map now ys) (λ k h. let h' : k < length ys = omega (arith, length-map ys now) in rw (same k h') (each k (omega arith))) in
    omega (arith, ints, all, summed (pos 0) ys, length-map ys now)
