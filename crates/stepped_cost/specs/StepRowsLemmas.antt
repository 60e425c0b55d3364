-- The row of a stepped cost is accepted and means that cost, and a cost made of a row answers that row.
use Rattle.std.specs.Prelude.{◌≡◌, ℕ, suc, ◌+◌, ◌*◌, ◌≤◌, Bool, true, false, cond, not, List, [], ◌∷◌, ◌++◌, length, get_or, take, drop, ℤ, pos, negsuc, is_some, IfOk, Some, None, Option, Result, nat_eq, slice_index_or, refl}
use Rattle.std.proofs.Common.{sym, ◌∙◌, ap, arith}
use Rattle.std.specs.Result.{result_err}
use Rattle.std.proofs.lemmas.List.{length-append, length-take, length-drop, take_all, take_at, drop_at, take-append-drop}
use Rattle.std.proofs.lemmas.Int.{ints}
use Rattle.std.proofs.lemmas.Bool.Decides.{nat_tests}
use Rattle.cost.specs.Meaning.{Meaning, Between, natural, empty_cost}
use Rattle.cost.specs.Places.{unless, kept_or}
use Rattle.cost.specs.Limits.{within, count_limits}
use Rattle.stepped_cost.specs.Stepped.{stepped_refusal, stepped_meaning, stepped_content, stepped_of, padded, widths_of, slopes_of}
use Rattle.cost.specs.Rows.{is_told, whole_row}
use Rattle.stepped_cost.specs.StepRows.{stepped_length, row_widths, row_slopes, stepped_row_refusal, stepped_row_meaning, stepped_row}
use Rattle.cost.specs.declared.refusals.CostFault.{CostFault}
use Rattle.cost.specs.declared.refusals.CostFault.TheVariants.{Pieces}
use Rattle.stepped_cost.specs.declared.stepped.Stepped.{Stepped}
use Rattle.stepped_cost.specs.Pieces.{Kept, keeps, front_of_padded, made_means}
use Rattle.cost.proofs.Brief.{Brief, brief_none, brief_more, brief_both, brief_within}
use Rattle.cost.proofs.Refusing.{answered, between, no_refusal}

told : (n : ℕ) → n ≤ 8 → stepped_length (pos n) ≡ Some (3 + 2 * n)
told n few = grind (arith, nat_tests)

-- a row is whole where twice as many numbers follow the first three as its count says
whole : (n : ℕ) (f o : ℤ) (rest : List ℤ) → n ≤ 8 → length rest ≡ 2 * n → whole_row stepped_length (pos n ∷ f ∷ o ∷ rest) ≡ true
whole n f o rest few e =
    let ends : nat_eq (3 + 2 * n) (suc (suc (suc (length rest)))) ≡ true = grind (arith, nat_tests) in
    ap (λ (t : Option ℕ). is_told t (suc (suc (suc (length rest))))) (told n few) ∙ ends

true_false : true ≡ false → ⊥
true_false e = let z : ◌≡◌ {A = ℕ} 0 1 = cc in omega arith

-- what a whole row has
abbrev Whole : List ℤ → Type 0
Whole xs = (n : ℕ) × (slice_index_or xs 0 (pos 0) ≡ pos n) × (n ≤ 8) × (length xs ≡ 3 + 2 * n)

whole_tells : (xs : List ℤ) → whole_row stepped_length xs ≡ true → Whole xs
whole_tells [] e = absurd (true_false (sym e))
whole_tells (negsuc n ∷ rest) e = absurd (true_false (sym e))
whole_tells (pos n ∷ rest) e = go (within count_limits (pos n)) refl
  where
    go : (b : Bool) → within count_limits (pos n) ≡ b → Whole (pos n ∷ rest)
    go true here =
        let told' : nat_eq (3 + 2 * n) (suc (length rest)) ≡ true = rw here at e in
        (n, refl, omega (arith, ints, (between count_limits (pos n) here).1), grind (arith, nat_tests))
    go false here = absurd (true_false (sym (rw here at e)))

split_row : (xs : List ℤ) → 3 ≤ length xs → xs ≡ slice_index_or xs 0 (pos 0) ∷ slice_index_or xs 1 (pos 0) ∷ slice_index_or xs 2 (pos 0) ∷ drop 3 xs
split_row [] h = absurd (omega arith)
split_row (a ∷ []) h = absurd (omega arith)
split_row (a ∷ (b ∷ [])) h = absurd (omega arith)
split_row (a ∷ (b ∷ (c ∷ xs))) h = refl

-- the row of what a constructor makes
module _ (f o : ℤ) where
  abbrev rowed : List ℤ → List ℤ → List ℤ
  rowed ws ss = kept_or (pos 0 ∷ pos 0 ∷ pos 0 ∷ []) (stepped_refusal f o ws ss) (pos (length ws) ∷ f ∷ o ∷ (ws ++ ss))

  made_row : (ws ss : List ℤ) → stepped_refusal f o ws ss ≡ None → stepped_row (stepped_of f o ws ss) ≡ pos (length ws) ∷ f ∷ o ∷ (ws ++ ss)
  made_row ws ss e =
      let kept = keeps f o ws ss e in
      ap (λ (xs : List ℤ). rowed xs (take (length ws) (padded ss))) (front_of_padded (length ws) ws refl)
      ∙ ap (rowed ws) (front_of_padded (length ws) ss kept.pairs)
      ∙ ap (λ (r : Option CostFault). kept_or (pos 0 ∷ pos 0 ∷ pos 0 ∷ []) r (pos (length ws) ∷ f ∷ o ∷ (ws ++ ss))) e

pub stepped_of_row : (xs : List ℤ) (r : Result Stepped CostFault) → whole_row stepped_length xs ≡ true → r ≡ unless (stepped_refusal (slice_index_or xs 1 (pos 0)) (slice_index_or xs 2 (pos 0)) (row_widths xs) (row_slopes xs)) (stepped_of (slice_index_or xs 1 (pos 0)) (slice_index_or xs 2 (pos 0)) (row_widths xs) (row_slopes xs)) → (result_err r ≡ stepped_row_refusal xs) × IfOk r (λ c. (stepped_row c ≡ xs) × (stepped_content c ≡ stepped_row_meaning xs))
stepped_of_row xs r w e =
    let f = get_or xs 1 (pos 0) in
    let o = get_or xs 2 (pos 0) in
    let ws = row_widths xs in
    let ss = row_slopes xs in
    let t : Whole xs = whole_tells xs w in
    let n = t.0 in
    let count : natural (slice_index_or xs 0 (pos 0)) ≡ n = ap natural t.1 in
    let long : length ws ≡ n = length-take (natural (slice_index_or xs 0 (pos 0))) (drop 3 xs) ∙ omega (arith, length-drop 3 xs) in
    let same : stepped_row_refusal xs ≡ stepped_refusal f o ws ss = ap (λ (b : Bool). cond b (stepped_refusal f o ws ss) (Some Pieces)) w in
    let all = answered (stepped_refusal f o ws ss) (stepped_of f o ws ss) r (λ c. (stepped_row c ≡ xs) × (stepped_content c ≡ stepped_row_meaning xs)) e
    (λ none. (
      made_row f o ws ss none
          ∙ ap (λ (k : ℤ). k ∷ f ∷ o ∷ (ws ++ ss)) (ap pos long ∙ sym t.1)
          ∙ ap (λ (rest : List ℤ). slice_index_or xs 0 (pos 0) ∷ f ∷ o ∷ rest) (take-append-drop (natural (slice_index_or xs 0 (pos 0))) (drop 3 xs))
          ∙ sym (split_row xs (omega arith)),
      made_means f o ws ss none,
    )) in
    (all.0 ∙ sym same, all.1)

-- the numbers of a row that is kept have at most ten digits, and so have those of the empty cost
brief_row : (f o : ℤ) (ws ss : List ℤ) → Kept f o ws ss → Brief (pos (length ws) ∷ f ∷ o ∷ (ws ++ ss))
brief_row f o ws ss kept =
    let fit = kept.numbers in
    let count : Between (negsuc 999999999) (pos 1000000000) (pos (length ws)) = (omega (arith, ints), omega (arith, ints, kept.few)) in
    let first : Between (negsuc 999999999) (pos 1000000000) f = (omega (arith, ints, fit.first_limit.0), omega (arith, ints, fit.first_limit.1)) in
    let widths = brief_within (pos 1) (pos 10000) ws (omega (arith, ints), omega (arith, ints)) (omega (arith, ints), omega (arith, ints)) fit.width_limit in
    let slopes = brief_within (negsuc 999999) (pos 1000000) ss (omega (arith, ints), omega (arith, ints)) (omega (arith, ints), omega (arith, ints)) fit.slope_limit in
    brief_more (pos (length ws)) (f ∷ o ∷ (ws ++ ss)) count (brief_more f (o ∷ (ws ++ ss)) first (brief_more o (ws ++ ss) fit.opening_limit (brief_both ws ss widths slopes)))

brief_empty : Brief (pos 0 ∷ pos 0 ∷ pos 0 ∷ [])
brief_empty =
    let zero_fits : Between (negsuc 999999999) (pos 1000000000) (pos 0) = (omega (arith, ints), omega (arith, ints)) in
    brief_more (pos 0) (pos 0 ∷ pos 0 ∷ []) zero_fits (brief_more (pos 0) (pos 0 ∷ []) zero_fits (brief_more (pos 0) [] zero_fits brief_none))

-- a row has from 1 to 19 numbers
pub long_tells : (x : ℤ) (n : ℕ) → stepped_length x ≡ Some n → (1 ≤ n) × (n ≤ 19)
long_tells (negsuc k) n e = absurd (let z : ◌≡◌ {A = ℕ} 0 1 = cc in omega arith)
long_tells (pos k) n e = go (within count_limits (pos k)) refl
  where
    counted_length : {a b : ℕ} → ◌≡◌ {A = Option ℕ} (Some a) (Some b) → a ≡ b
    counted_length e' = cc

    go : (b : Bool) → within count_limits (pos k) ≡ b → (1 ≤ n) × (n ≤ 19)
    go true here =
        let is : 3 + 2 * k ≡ n = counted_length (rw here at e) in
        (omega arith, omega (arith, ints, (between count_limits (pos k) here).1))
    go false here = absurd (let no = rw here at e in let z : ◌≡◌ {A = ℕ} 0 1 = cc in omega arith)

-- the row of any content is accepted, has brief numbers, is as long as it tells and means that content
pub record Honest (row : List ℤ) (meant : Meaning) : Type 0 where
  pub accepted : stepped_row_refusal row ≡ None
  pub long : stepped_length (slice_index_or row 0 (pos 0)) ≡ Some (length row)
  pub means : meant ≡ stepped_row_meaning row
  pub brief : Brief row

pub honest : (c : Stepped) → Honest (stepped_row c) (stepped_content c)
honest c = go (stepped_refusal f o ws ss) refl
  where
    f : ℤ
    f = c.first

    o : ℤ
    o = c.opening

    ws : List ℤ
    ws = widths_of c

    ss : List ℤ
    ss = slopes_of c

    go : (r : Option CostFault) → stepped_refusal f o ws ss ≡ r → Honest (kept_or (pos 0 ∷ pos 0 ∷ pos 0 ∷ []) r (pos (length ws) ∷ f ∷ o ∷ (ws ++ ss))) (kept_or empty_cost r (stepped_meaning f o ws ss))
    go (Some fault) e = record { accepted = refl; long = refl; means = refl; brief = brief_empty }
    go None e =
        let kept = keeps f o ws ss e in
        let front = take_at ws ss (length ws) refl in
        let back = drop_at ws ss (length ws) refl in
        let long' = length-append ws ss in
        record {
          accepted =
              ap (λ (b : Bool). cond b (stepped_refusal f o (take (length ws) (ws ++ ss)) (drop (length ws) (ws ++ ss))) (Some Pieces)) (whole (length ws) f o (ws ++ ss) kept.few (omega (arith, kept.pairs)))
              ∙ ap (λ (xs : List ℤ). stepped_refusal f o xs (drop (length ws) (ws ++ ss))) front
              ∙ ap (stepped_refusal f o ws) back
              ∙ e;
          long = told (length ws) kept.few ∙ ap Some (omega (arith, kept.pairs));
          means = sym (ap (λ (xs : List ℤ). stepped_meaning f o xs (drop (length ws) (ws ++ ss))) front ∙ ap (stepped_meaning f o ws) back);
          brief = brief_row f o ws ss kept;
        }

-- the row of a content that its constructor would make
pub kept_row : (c : Stepped) → true ≡ not (is_some (stepped_refusal c.first c.opening (widths_of c) (slopes_of c))) → stepped_row c ≡ pos (length (widths_of c)) ∷ c.first ∷ c.opening ∷ (widths_of c ++ slopes_of c)
kept_row c made' =
    ap (λ (r : Option CostFault). kept_or (pos 0 ∷ pos 0 ∷ pos 0 ∷ []) r (pos (length (widths_of c)) ∷ c.first ∷ c.opening ∷ (widths_of c ++ slopes_of c)))
    (no_refusal (stepped_refusal c.first c.opening (widths_of c) (slopes_of c)) made')

-- the count of a row that is whole
pub counted : (b : Bool) (k n : ℕ) → ◌≡◌ {A = Option ℕ} (Some k) (cond b (Some n) None) → (b ≡ true) × (k ≡ n)
counted true k n e = (refl, cc)
counted false k n e = absurd (let z : ◌≡◌ {A = ℕ} 0 1 = cc in omega arith)

-- a row that is put together from its first three numbers, its widths and its slopes
pub put_together : (start three more all ws ws' ss ss' : List ℤ) (k k' f o : ℤ) → start ≡ [] → three ≡ take 19 (start ++ (k ∷ f ∷ o ∷ [])) → more ≡ take 19 (three ++ ws) → all ≡ take 19 (more ++ ss) → ws ≡ ws' → ss ≡ ss' → k ≡ k' → length ws' ≤ 8 → length ss' ≤ 8 → all ≡ k' ∷ f ∷ o ∷ (ws' ++ ss')
put_together start three more all ws ws' ss ss' k k' f o e₀ e₁ e₂ e₃ e₄ e₅ e₆ few few' =
    let first = k' ∷ f ∷ o ∷ [] in
    let begun : three ≡ first = e₁ ∙ ap (λ (xs : List ℤ). take 19 (xs ++ (k ∷ f ∷ o ∷ []))) e₀ ∙ ap (λ (x : ℤ). x ∷ f ∷ o ∷ []) e₆ in
    let wide : more ≡ first ++ ws' = e₂ ∙ ap (λ (xs : List ℤ). take 19 (xs ++ ws)) begun ∙ ap (λ (xs : List ℤ). take 19 (first ++ xs)) e₄ ∙ take_all 19 (first ++ ws') (omega arith) in
    e₃ ∙ ap (λ (xs : List ℤ). take 19 (xs ++ ss)) wide ∙ ap (λ (xs : List ℤ). take 19 (first ++ ws' ++ xs)) e₅ ∙ take_all 19 (first ++ ws' ++ ss') (omega (arith, length-append ws' ss'))
