-- Lines whose steps were made or refused one after another.
use Rattle.std.proofs.Common.{◌≡◌, ℕ, ◌-◌, ◌≤◌, true, false, List, [], ◌∷◌, ◌++◌, length, take, replicate, ℤ, pos, Some, None, Ok, Err, codes, Option, sym, ap, ◌∙◌, arith}
use Rattle.std.proofs.lemmas.List.{length-take-le, take_all}
use Rattle.cost.specs.Limits.{within}
use Rattle.text.specs.Steps.{Step, past, number_at, word_at, space_at, line_end_at, numbers_at}
use Rattle.record_form.specs.Lines.{count_at, first_line_at, list_at, row_at, row_end_at, row_told_at}

module _ (text : List ℕ) (at : ℕ) where
  -- ---- a count

  module _ (most : ℤ) where
    pub count_space : {offset : ℕ} → space_at text at ≡ Err offset → count_at text at most ≡ Err offset
    unfolding count_at
    count_space e = rw e

    pub count_number : {first offset : ℕ} → space_at text at ≡ past first → number_at text first ≡ Err offset → count_at text at most ≡ Err offset
    unfolding count_at
    count_number e₁ e₂ = rw (e₁, e₂)

    pub count_outside : {first next : ℕ} {x : ℤ} → space_at text at ≡ past first → number_at text first ≡ Ok (x, next)
        → within (record { low = pos 0; high = most }) x ≡ false → count_at text at most ≡ Err first
    unfolding count_at
    count_outside e₁ e₂ e₃ = rw (e₁, e₂, e₃)

    pub count_made : {first next : ℕ} {x : ℤ} → space_at text at ≡ past first → number_at text first ≡ Ok (x, next)
        → within (record { low = pos 0; high = most }) x ≡ true → count_at text at most ≡ Ok (x, next)
    unfolding count_at
    count_made e₁ e₂ e₃ = rw (e₁, e₂, e₃)

  -- ---- the first line

  module _ (letter : ℕ) where
    pub net_word : {o : ℕ} → word_at text at (codes "net") ≡ Err o → first_line_at text at letter ≡ Err o
    unfolding first_line_at
    net_word e = rw e

    module _ {a : ℕ} (e₁ : word_at text at (codes "net") ≡ past a) where
      pub net_space : {o : ℕ} → space_at text a ≡ Err o → first_line_at text at letter ≡ Err o
      unfolding first_line_at
      net_space e = rw (e₁, e)

      module _ {b : ℕ} (e₂ : space_at text a ≡ past b) where
        pub net_letter : {o : ℕ} → word_at text b (letter ∷ []) ≡ Err o → first_line_at text at letter ≡ Err o
        unfolding first_line_at
        net_letter e = rw (e₁, e₂, e)

        module _ {c : ℕ} (e₃ : word_at text b (letter ∷ []) ≡ past c) where
          pub net_nodes : {o : ℕ} → count_at text c (pos 64) ≡ Err o → first_line_at text at letter ≡ Err o
          unfolding first_line_at
          net_nodes e = rw (e₁, e₂, e₃, e)

          module _ {nodes : ℤ} {d : ℕ} (e₄ : count_at text c (pos 64) ≡ Ok (nodes, d)) where
            pub net_arcs : {o : ℕ} → count_at text d (pos 256) ≡ Err o → first_line_at text at letter ≡ Err o
            unfolding first_line_at
            net_arcs e = rw (e₁, e₂, e₃, e₄, e)

            module _ {arcs : ℤ} {f : ℕ} (e₅ : count_at text d (pos 256) ≡ Ok (arcs, f)) where
              pub net_end : {o : ℕ} → line_end_at text f ≡ Err o → first_line_at text at letter ≡ Err o
              unfolding first_line_at
              net_end e = rw (e₁, e₂, e₃, e₄, e₅, e)

              pub net_made : {next : ℕ} → line_end_at text f ≡ past next → first_line_at text at letter ≡ Ok (record { nodes = nodes; arcs = arcs }, next)
              unfolding first_line_at
              net_made e = rw (e₁, e₂, e₃, e₄, e₅, e)

  -- ---- a list

  module _ (word : List ℕ) (count : ℕ) where
    pub list_word : {o : ℕ} → word_at text at word ≡ Err o → list_at text at word count ≡ Err o
    unfolding list_at
    list_word e = rw e

    pub list_numbers : {a o : ℕ} → word_at text at word ≡ past a → numbers_at text a count ≡ Err o → list_at text at word count ≡ Err o
    unfolding list_at
    list_numbers e₁ e₂ = rw (e₁, e₂)

    pub list_end : {a b o : ℕ} {xs : List ℤ} → word_at text at word ≡ past a → numbers_at text a count ≡ Ok (xs, b) → line_end_at text b ≡ Err o → list_at text at word count ≡ Err o
    unfolding list_at
    list_end e₁ e₂ e₃ = rw (e₁, e₂, e₃)

    pub list_made : {a b next : ℕ} {xs : List ℤ} → word_at text at word ≡ past a → numbers_at text a count ≡ Ok (xs, b) → line_end_at text b ≡ past next → list_at text at word count ≡ Ok (xs, next)
    unfolding list_at
    list_made e₁ e₂ e₃ = rw (e₁, e₂, e₃)

  -- ---- a row

  module _ (first : ℤ) (further : ℕ) where
    pub row_numbers : {o : ℕ} → numbers_at text at further ≡ Err o → row_end_at text at first further ≡ Err o
    unfolding row_end_at
    row_numbers e = rw e

    pub row_line_end : {a o : ℕ} {xs : List ℤ} → numbers_at text at further ≡ Ok (xs, a) → line_end_at text a ≡ Err o → row_end_at text at first further ≡ Err o
    unfolding row_end_at
    row_line_end e₁ e₂ = rw (e₁, e₂)

    pub row_end_made : {a next : ℕ} {xs : List ℤ} → numbers_at text at further ≡ Ok (xs, a) → line_end_at text a ≡ past next → row_end_at text at first further ≡ Ok (first ∷ xs, next)
    unfolding row_end_at
    row_end_made e₁ e₂ = rw (e₁, e₂)

  module _ (long : ℤ → Option ℕ) where
    pub row_word : {o : ℕ} → word_at text at (codes "c") ≡ Err o → row_at text at long ≡ Err o
    unfolding row_at
    row_word e = rw e

    pub row_space : {a o : ℕ} → word_at text at (codes "c") ≡ past a → space_at text a ≡ Err o → row_at text at long ≡ Err o
    unfolding row_at
    row_space e₁ e₂ = rw (e₁, e₂)

    pub row_number : {a start o : ℕ} → word_at text at (codes "c") ≡ past a → space_at text a ≡ past start → number_at text start ≡ Err o → row_at text at long ≡ Err o
    unfolding row_at
    row_number e₁ e₂ e₃ = rw (e₁, e₂, e₃)

    pub row_told : {a start b : ℕ} {first : ℤ} → word_at text at (codes "c") ≡ past a → space_at text a ≡ past start → number_at text start ≡ Ok (first, b)
        → row_at text at long ≡ row_told_at text start b first (long first)
    unfolding row_at
    row_told e₁ e₂ e₃ = rw (e₁, e₂, e₃)

pub told_none : (text : List ℕ) (start at : ℕ) (first : ℤ) {told : Option ℕ} → told ≡ None → row_told_at text start at first told ≡ Err start
unfolding row_told_at
told_none text start at first e = rw e

pub told_some : (text : List ℕ) (start at : ℕ) (first : ℤ) (count : ℕ) {told : Option ℕ} → told ≡ Some count → row_told_at text start at first told ≡ row_end_at text at first (count - 1)
unfolding row_told_at
told_some text start at first count e = rw e

pub row_further : (text : List ℕ) (at : ℕ) (first : ℤ) {n m : ℕ} {r : Step (List ℤ)} → n ≡ m → row_end_at text at first n ≡ r → row_end_at text at first m ≡ r
row_further text at first same e = sym (ap (row_end_at text at first) same) ∙ e

-- as many places of a list of eighteen as numbers follow the first
pub many_further : (count : ℕ) → count ≤ 19 → length (take (count - 1 - 0) (replicate 18 (pos 0))) ≡ count - 1
many_further count few = length-take-le (count - 1 - 0) (replicate 18 (pos 0)) (omega arith) ∙ omega arith

-- a row that is put together from its first number and the further ones
pub row_put_together : (start front all further : List ℤ) (first : ℤ) → start ≡ [] → front ≡ take 19 (start ++ (first ∷ [])) → all ≡ take 19 (front ++ further)
    → length further ≤ 18 → all ≡ first ∷ further
row_put_together start front all further first e₀ e₁ e₂ few =
    let begun : front ≡ first ∷ [] = e₁ ∙ ap (λ (xs : List ℤ). take 19 (xs ++ (first ∷ []))) e₀ in
    e₂ ∙ ap (λ (xs : List ℤ). take 19 (xs ++ further)) begun ∙ take_all 19 (first ∷ further) (omega arith)
