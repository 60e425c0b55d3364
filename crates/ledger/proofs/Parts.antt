-- The front of a list, lent from its start on; and a list that grows by one element.
use Rattle.std.proofs.Common.{◌≡◌, ℕ, ◌+◌, ◌-◌, ◌<◌, List, [], ◌∷◌, ◌++◌, length, get_or, sym, subst, arith}
use Rattle.std.proofs.lemmas.List.{get_or_append_left}
use Rattle.std.proofs.Math.Seq.{get_or-append_seam}
use Rattle.cost.proofs.FirstPlace.{by_eq}

-- a part of a list from its start on
pub whole_part : (n : ℕ) → n - 0 ≡ n
whole_part n = omega arith

-- what holds of each element of a list, by its place, and of one more behind it
pub appended : {X : Type 0} (P : ℕ → X → Type 0) (xs : List X) (x d : X) (n : ℕ) → length xs ≡ n → ((k : ℕ) → k < n → P k (get_or xs k d)) → P n x → (k : ℕ) → k < n + 1 → P k (get_or (xs ++ x ∷ []) k d)
appended {X} P xs x d n many each last k h =
    by_eq k n
    (λ same. subst (λ (j : ℕ). P j (get_or (xs ++ x ∷ []) j d)) (sym same) (subst (λ (j : ℕ). P j (get_or (xs ++ x ∷ []) j d)) many (rw (get_or-append_seam xs x [] d, many) last)))
    (λ apart. rw (get_or_append_left xs (x ∷ []) d k (omega arith)) (each k (omega arith)))
