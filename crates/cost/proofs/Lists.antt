-- What stands at a place of a list that is cut, mapped, repeated or made by counting; and rising lists.
use Rattle.std.proofs.Common.{◌≡◌, ℕ, zero, suc, ◌+◌, ◌-◌, ◌<◌, ◌≤◌, Bool, true, false, cond, List, [], ◌∷◌, ◌++◌, map, length, get_or, take, replicate, ℤ, pos, negsuc, ◌+ℤ◌, ◌≤ℤ◌, ◌<ℤ◌, Some, None, Option, sym, refl, ap, ◌∙◌, add-one, arith}
use lib.Signed.{le_z, le_z_yes}
use borrow.Author.Differences.{up, down}
use Rattle.std.specs.List.{slice_get, range_with_len}
use Rattle.std.proofs.lemmas.Option.{slice_get-get_or, slice_get_past}
use Rattle.std.proofs.lemmas.List.FromFn.{length-map-range_with_len, get_or-map-range_with_len}
use Rattle.std.proofs.lemmas.Int.{ints}
use Rattle.cost.specs.Meaning.{Meaning, natural, total, beyond, last, increment_at, Lawful, empty_cost}

-- a count of a whole number, for `omega`
pub natural_is : (z : ℤ) → natural z ≡ up z - down z
natural_is (pos n) = omega arith
natural_is (negsuc n) = omega arith

pub nth_take : {X : Type 0} (n : ℕ) (xs : List X) (k : ℕ) → k < n → slice_get (take n xs) k ≡ slice_get xs k
nth_take zero xs k h = absurd (omega arith)
nth_take (suc n) [] k h = refl
nth_take (suc n) (x ∷ xs) zero h = refl
nth_take (suc n) (x ∷ xs) (suc k) h = nth_take n xs k (omega arith)

pub nth_repeated : {X : Type 0} (n : ℕ) (x : X) (xs : List X) (k : ℕ) → k < n → slice_get (replicate n x ++ xs) k ≡ Some x
nth_repeated zero x xs k h = absurd (omega arith)
nth_repeated (suc n) x xs zero h = refl
nth_repeated (suc n) x xs (suc k) h = nth_repeated n x xs k (omega arith)

pub nth_past_repeated : {X : Type 0} (n : ℕ) (x : X) (xs : List X) (k : ℕ) → n ≤ k → slice_get (replicate n x ++ xs) k ≡ slice_get xs (k - n)
nth_past_repeated zero x xs k h = ap (slice_get xs) (omega arith)
nth_past_repeated (suc n) x xs zero h = absurd (omega arith)
nth_past_repeated (suc n) x xs (suc k) h = nth_past_repeated n x xs k (omega arith) ∙ ap (slice_get xs) (omega arith)

pub nth_counted : {X : Type 0} (f : ℕ → X) (n k : ℕ) → k < n → slice_get (map f (range_with_len 0 n)) k ≡ Some (f k)
nth_counted f n k h =
    slice_get-get_or (map f (range_with_len 0 n)) k (f 0) (rw length-map-range_with_len h) ∙ ap Some (get_or-map-range_with_len f 0 n k k (f 0) h (omega arith))

-- the sum of two lists, one after the other
pub total_append : (xs ys : List ℤ) → total (xs ++ ys) ≡ total xs +ℤ total ys
total_append [] ys = omega (arith, ints)
total_append (x ∷ xs) ys = ap (λ (n : ℤ). x +ℤ n) (total_append xs ys) ∙ omega (arith, ints)

pub total_suc : (xs : List ℤ) (k : ℕ) → k < length xs → total (take (suc k) xs) ≡ total (take k xs) +ℤ get_or xs k (pos 0)
total_suc [] k h = absurd (omega arith)
total_suc (x ∷ xs) zero h = omega (arith, ints)
total_suc (x ∷ xs) (suc k) h = ap (λ (n : ℤ). x +ℤ n) (total_suc xs k (omega arith)) ∙ omega (arith, ints)

-- the sum of one more element
pub total_more : (xs : List ℤ) (k : ℕ) → k < length xs → total (take (k + 1) xs) ≡ total (take k xs) +ℤ get_or xs k (pos 0)
total_more xs k h = rw add-one (total_suc xs k h)

-- from the last load on, and below the first, a cost has no increment
pub increment_past : (m : Meaning) (x : ℤ) → pos (last m) ≤ℤ x → increment_at m x ≡ None
increment_past m x h =
    elim (le_z (pos m.first) x) as (λ b. cond b (slice_get m.increments (beyond m x)) None ≡ None)
    [ true ↦ slice_get_past m.increments (beyond m x) (omega (arith, ints)) | false ↦ refl ]

pub increment_under : (m : Meaning) (x : ℤ) → x <ℤ pos m.first → increment_at m x ≡ None
increment_under m x h =
    let low : false ≡ le_z (pos m.first) x = omega (arith, ints) in
    ap (λ (b : Bool). cond b (slice_get m.increments (beyond m x)) None) (sym low)

-- within the range the increment is the one that stands there
pub increment_here : (m : Meaning) (x : ℤ) (k : ℕ) → x ≡ pos (m.first + k) → increment_at m x ≡ slice_get m.increments k
increment_here m x k e =
    let low : true ≡ le_z (pos m.first) x = omega (arith, ints) in
    let place : beyond m x ≡ k = omega (arith, ints) in
    ap (λ (b : Bool). cond b (slice_get m.increments (beyond m x)) None) (sym low) ∙ ap (slice_get m.increments) place

pub empty_lawful : Lawful empty_cost
empty_lawful = record {
  last_limit = omega arith;
  opening_limit = (le_z_yes tt, le_z_yes tt);
  increment_limit = λ k h. absurd (omega arith);
  convex = λ k h. absurd (omega arith);
}

pub increment_empty : (x : ℤ) → increment_at empty_cost x ≡ None
increment_empty x = elim (le_z (pos 0) x) as (λ b. cond {A = Option ℤ} b None None ≡ None) [ true ↦ refl | false ↦ refl ]
