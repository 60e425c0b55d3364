-- The least of the numbers that pass a filter is the lowest of those above the bar.
use Rattle.std.proofs.Common.{◌≡◌, true, false, List, [], ◌∷◌, ℤ, ◌≤ℤ◌, ◌<ℤ◌, int_lt, filter, fold, sym, refl, subst, inl, inr, arith, MatchOption}
use mathlib.Core.Path.{fun_ext}
use Rattle.std.specs.declared.cmp.Ordering.{Ordering}
use Rattle.std.specs.declared.cmp.Ordering.TheVariants.{Less, Equal, Greater}
use Rattle.std.specs.Ordering.{MatchOrdering, min_by_ordering, int_cmp}
use Rattle.std.specs.Int.{int_min}
use Rattle.std.specs.List.{All, Contains, reduce}
use Rattle.std.proofs.lemmas.Int.{ints, clamps, by_lt_z, fold-int_min_bounds, fold-int_min_reached}
use Rattle.std.proofs.lemmas.Cmp.{int_ranked}
use Rattle.std.proofs.lemmas.List.Elements.{All-nil, All-cons, All-head, All-tail, All-filter, All-contains, All-contains_itself, filter_passes, Contains-append_right}
use Rattle.search.specs.Drawn.{NextAbove}

-- the lesser of two numbers, as the order of numbers tells it
abbrev pub lesser : ℤ → ℤ → ℤ
lesser x y = min_by_ordering (int_cmp x y) x y

lesser_by : (x y : ℤ) (order : Ordering) → MatchOrdering order (x <ℤ y) (x ≡ y) (y <ℤ x) → min_by_ordering order x y ≡ int_min x y
lesser_by x y Less h = omega (arith, ints, clamps)
lesser_by x y Equal h = omega (arith, ints, clamps)
lesser_by x y Greater h = omega (arith, ints, clamps)

lesser_is : ◌≡◌ {A = ℤ → ℤ → ℤ} lesser int_min
lesser_is = fun_ext (λ x. fun_ext (λ y. lesser_by x y (int_cmp x y) (int_ranked x y (int_cmp x y) refl)))

-- what holds of the numbers that pass holds of those above the bar
outside : (P : ℤ → Type 0) (bar : ℤ) (xs : List ℤ) → All P (filter (int_lt bar) xs) → All (λ x. bar <ℤ x → P x) xs
outside P bar [] all = All-nil (λ x. bar <ℤ x → P x)
outside P bar (x ∷ xs) all =
    by_lt_z bar x
    (λ over.
    let passes : int_lt bar x ≡ true = sym (omega (arith, ints)) in
    let kept : All P (x ∷ filter (int_lt bar) xs) = rw passes at all in
    All-cons (λ y. bar <ℤ y → P y) x xs (λ _. All-head P x (filter (int_lt bar) xs) kept) (outside P bar xs (All-tail P x (filter (int_lt bar) xs) kept)))
    (λ under.
    let fails : int_lt bar x ≡ false = sym (omega (arith, ints)) in
    let kept : All P (filter (int_lt bar) xs) = rw fails at all in
    All-cons (λ y. bar <ℤ y → P y) x xs (λ over. absurd (omega (arith, ints))) (outside P bar xs kept))

listed_in : (bar : ℤ) (xs : List ℤ) (x : ℤ) → Contains (filter (int_lt bar) xs) x → Contains xs x × (bar <ℤ x)
listed_in bar xs x kept = (
  All-contains (Contains xs) (filter (int_lt bar) xs) x (All-filter (int_lt bar) (Contains xs) xs (All-contains_itself xs)) kept,
  omega (arith, ints, All-contains (λ y. int_lt bar y ≡ true) (filter (int_lt bar) xs) x (filter_passes (int_lt bar) xs) kept),
)

lowest_of : (bar : ℤ) (xs ys : List ℤ) → ys ≡ filter (int_lt bar) xs → MatchOption (reduce int_min ys) (All (λ x. x ≤ℤ bar) xs) (NextAbove xs bar)
lowest_of bar xs [] is = λ k d h. by_lt_z bar _ (λ over. absurd (outside (λ _. ⊥) bar xs (subst (All (λ _. ⊥)) is (All-nil (λ _. ⊥))) k d h over)) (λ under. under)
lowest_of bar xs (y ∷ ys) is =
    let low = fold int_min y ys in
    let reached : Contains (y ∷ ys) low = elim (fold-int_min_reached y ys low refl) [ inl first ↦ (0, omega arith, sym first) | inr later ↦ Contains-append_right (y ∷ []) ys low later ] in
    let bounds = fold-int_min_bounds y ys low refl in
    let within = listed_in bar xs low (subst (λ zs. Contains zs low) is reached) in
    record {
      above = within.1;
      listed = within.0;
      lowest = outside (λ x. low ≤ℤ x) bar xs (subst (All (λ x. low ≤ℤ x)) is (All-cons (λ x. low ≤ℤ x) y ys bounds.0 bounds.1));
    }

pub lowest_above : (bar : ℤ) (xs : List ℤ) → MatchOption (reduce lesser (filter (int_lt bar) xs)) (All (λ x. x ≤ℤ bar) xs) (NextAbove xs bar)
lowest_above bar xs = rw lesser_is (lowest_of bar xs (filter (int_lt bar) xs) refl)
