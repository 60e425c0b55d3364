-- Numbers that are read one after another.
use Rattle.std.proofs.Common.{◌≡◌, ℕ, suc, ◌+◌, ◌-◌, ◌<◌, ◌≤◌, List, [], ◌∷◌, ◌++◌, length, take, set, ℤ, Ok, Err, sym, refl, ap, ◌∙◌, append_assoc, append-nil, arith}
use Rattle.std.proofs.lemmas.List.{take_all, take_more_set}
use Rattle.text.specs.Steps.{Step, and_then, space_at, number_at, numbers_at}

-- a list that was read, with another in front of it
abbrev pub onto : List ℤ → Step (List ℤ) → Step (List ℤ)
onto xs (Ok read) = Ok (xs ++ read.0, read.1)
onto xs (Err offset) = Err offset

onto_onto : (xs ys : List ℤ) (step : Step (List ℤ)) → onto xs (onto ys step) ≡ onto (xs ++ ys) step
onto_onto xs ys (Ok read) = ap (λ (zs : List ℤ). Ok (zs, read.1)) (sym (append_assoc xs ys read.0))
onto_onto xs ys (Err offset) = refl

module _ (text : List ℕ) (at more : ℕ) where
  pub numbers_more : (first next : ℕ) (x : ℤ) → space_at text at ≡ Ok (tt, first) → number_at text first ≡ Ok (x, next)
      → numbers_at text at (suc more) ≡ onto (x ∷ []) (numbers_at text next more)
  unfolding numbers_at
  numbers_more first next x space number = rw (space, number) (last (numbers_at text next more))
    where
      last : (step : Step (List ℤ)) → and_then step (λ xs end. Ok (x ∷ xs, end)) ≡ onto (x ∷ []) step
      last (Ok read) = refl
      last (Err offset) = refl

  pub numbers_no_space : (offset : ℕ) → space_at text at ≡ Err offset → numbers_at text at (suc more) ≡ Err offset
  unfolding numbers_at
  numbers_no_space offset space = rw space

  pub numbers_no_number : (first offset : ℕ) → space_at text at ≡ Ok (tt, first) → number_at text first ≡ Err offset → numbers_at text at (suc more) ≡ Err offset
  unfolding numbers_at
  numbers_no_number first offset space number = rw (space, number)

-- what a walk past numbers knows after i of them: all that were asked for are those that it holds and those to come
abbrev pub Holds : List ℕ → ℕ → ℕ → ℕ → List ℤ → ℕ → Type 0
Holds text start at k held i = numbers_at text start k ≡ onto (take i held) (numbers_at text at (k - i))

module _ (text : List ℕ) (start k : ℕ) where
  module _ (at : ℕ) (held : List ℤ) (i : ℕ) (within : i < k) (so_far : Holds text start at k held i) where
    go_on : numbers_at text start k ≡ onto (take i held) (numbers_at text at (suc (k - (i + 1))))
    go_on = so_far ∙ ap (λ (n : ℕ). onto (take i held) (numbers_at text at n)) (omega arith)

    pub holds_more : (first next : ℕ) (x : ℤ) → i < length held → space_at text at ≡ Ok (tt, first) → number_at text first ≡ Ok (x, next) → Holds text start next k (set held i x) (i + 1)
    holds_more first next x room space number =
        go_on ∙ ap (onto (take i held)) (numbers_more text at (k - (i + 1)) first next x space number)
        ∙ onto_onto (take i held) (x ∷ []) (numbers_at text next (k - (i + 1)))
        ∙ ap (λ (xs : List ℤ). onto xs (numbers_at text next (k - (i + 1)))) (sym (take_more_set held i x room))

    pub refused_space : (offset : ℕ) → space_at text at ≡ Err offset → numbers_at text start k ≡ Err offset
    refused_space offset space = go_on ∙ ap (onto (take i held)) (numbers_no_space text at (k - (i + 1)) offset space)

    pub refused_number : (first offset : ℕ) → space_at text at ≡ Ok (tt, first) → number_at text first ≡ Err offset → numbers_at text start k ≡ Err offset
    refused_number first offset space number = go_on ∙ ap (onto (take i held)) (numbers_no_number text at (k - (i + 1)) first offset space number)

  pub holds_all : (at : ℕ) (held : List ℤ) (i : ℕ) → length held ≡ k → k ≤ i → Holds text start at k held i → numbers_at text start k ≡ Ok (held, at)
  unfolding numbers_at
  holds_all at held i long all so_far =
      let none : k - i ≡ 0 = omega arith in
      so_far ∙ ap (λ (n : ℕ). onto (take i held) (numbers_at text at n)) none
      ∙ ap (λ (xs : List ℤ). Ok (xs, at)) (append-nil (take i held) ∙ take_all i held (omega arith))
