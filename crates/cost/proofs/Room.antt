-- A row of nineteen numbers takes a further number while it has room, and then stays as it is.
use Rattle.std.proofs.Common.{◌≡◌, ℕ, zero, suc, refl, ◌+◌, ◌<◌, ◌≤◌, List, [], ◌∷◌, ◌++◌, length, get_or, take, set, ℤ, pos, sym, ap, ◌∙◌, arith}
use Rattle.std.proofs.lemmas.List.{append_assoc, append-nil, length-take, length_push, take_all, take-append-le, take_more, take_more_set}

-- a front of a front with more behind it
pub take_front : {X : Type 0} (n : ℕ) (xs ys : List X) → take n (take n xs ++ ys) ≡ take n (xs ++ ys)
take_front {X} zero xs ys = refl
take_front {X} (suc n) [] ys = refl
take_front {X} (suc n) (x ∷ xs) ys = ap (λ (zs : List X). x ∷ zs) (take_front n xs ys)

module _ (xs : List ℤ) (n : ℕ) (long : length xs ≡ 19) where
  pub pushed : (x : ℤ) → n < 19 → take (n + 1) (set xs n x) ≡ take 19 (take n xs ++ x ∷ [])
  pushed x room =
      let few : length (take n xs ++ x ∷ []) ≤ 19 = omega (arith, length_push (take n xs) x, length-take n xs) in
      take_more_set xs n x (omega arith) ∙ sym (take_all 19 (take n xs ++ x ∷ []) few)

  pub full : (x : ℤ) → 19 ≤ n → take n xs ≡ take 19 (take n xs ++ x ∷ [])
  full x none = sym (take-append-le 19 (take n xs) (x ∷ []) (omega (arith, length-take n xs)) ∙ take_all 19 (take n xs) (omega (arith, length-take n xs)))

  pub begun : take n xs ≡ take 19 (take n xs ++ [])
  begun = sym (ap (take 19) (append-nil (take n xs)) ∙ take_all 19 (take n xs) (omega (arith, length-take n xs)))

pub further : (front ys : List ℤ) (i : ℕ) → i < length ys → take 19 (take 19 (front ++ take i ys) ++ get_or ys i (pos 0) ∷ []) ≡ take 19 (front ++ take (i + 1) ys)
further front ys i h =
    take_front 19 (front ++ take i ys) (get_or ys i (pos 0) ∷ [])
    ∙ ap (take 19) (append_assoc front (take i ys) (get_or ys i (pos 0) ∷ []) ∙ ap (λ (zs : List ℤ). front ++ zs) (sym (take_more ys i (pos 0) h)))
