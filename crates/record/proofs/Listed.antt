-- Lists of numbers that are gathered one by one, and lines that are written one after another.
use Rattle.std.proofs.Common.{◌≡◌, ℕ, ◌+◌, ◌<◌, List, [], ◌∷◌, ◌++◌, map, length, get_or, take, ℤ, pos, sym, ap, ◌∙◌, arith}
use Rattle.std.proofs.lemmas.List.{get_or-map, length-append, length-map, take_more}

module _ {X : Type 0} (f : X → ℤ) (items : List X) (i : ℕ) {xs : List ℤ} (so_far : xs ≡ take i (map f items)) where
  pub listed_more : (d : X) (x : ℤ) → i < length items → x ≡ f (get_or items i d) → xs ++ (x ∷ []) ≡ take (i + 1) (map f items)
  listed_more d x there is =
      ap (λ (zs : List ℤ). zs ++ (x ∷ [])) so_far
      ∙ ap (λ (y : ℤ). take i (map f items) ++ (y ∷ [])) (is ∙ sym (get_or-map f items i d (pos 0) there))
      ∙ sym (take_more (map f items) i (pos 0) (omega (arith, length-map items f)))

module _ (a b c d : List ℕ) where
  pub four_long : length (a ++ (b ++ (c ++ d))) ≡ length a + length b + length c + length d
  four_long = omega (arith, length-append a (b ++ (c ++ d)), length-append b (c ++ d), length-append c d)
