-- Rows that were read one after another, and the cost places that they filled.
use Rattle.std.proofs.Common.{◌≡◌, ℕ, zero, suc, ◌+◌, ◌-◌, ◌<◌, ◌≤◌, List, [], ◌∷◌, ◌++◌, map, length, get_or, take, drop, set, ℤ, Ok, Err, sym, refl, ap, ◌∙◌, append_assoc, append-nil, arith}
use borrow.Rule.Slice.PartMut.{post_of, Post-is}
use Rattle.std.proofs.lemmas.List.{drop-append-le, drop-drop, drop-set-lt, length-map, length-take, length-take-le, set-get_or, take-append-drop, take-append-le}
use Rattle.record.specs.Outcomes.{Filled}
use Rattle.record.specs.Readings.{Kind, Rows, row_stage, rows_from}
use Rattle.record.specs.declared.faults.RecordFault.{RecordFault}

-- rows, and then others
abbrev pub onto : List (List ℤ) → Rows → Rows
onto before rest = record { rows = before ++ rest.rows; end = rest.end }

module _ (kind : Kind) (text : List ℕ) where
  pub rows_more : (at line more : ℕ) {row : List ℤ} {next : ℕ} → row_stage kind text at line ≡ Ok (row, next)
      → rows_from kind text at line (suc more) ≡ onto (row ∷ []) (rows_from kind text next (line + 1) more)
  unfolding rows_from
  rows_more at line more e = rw e

  pub rows_stop : (at line more : ℕ) {f : RecordFault} → row_stage kind text at line ≡ Err f → rows_from kind text at line (suc more) ≡ record { rows = []; end = Err f }
  unfolding rows_from
  rows_stop at line more e = rw e

  pub rows_done : (at line : ℕ) → rows_from kind text at line zero ≡ record { rows = []; end = Ok at }
  unfolding rows_from
  rows_done at line = refl

  -- the rows that a loop has read so far, at one of its turns
  module _ (all : Rows) (before : List (List ℤ)) (at i n : ℕ) (so_far : all ≡ onto before (rows_from kind text at (i + 5) (n - i))) where
    one_more : i < n → all ≡ onto before (rows_from kind text at (i + 5) (suc (n - (i + 1))))
    one_more h = so_far ∙ ap (λ (m : ℕ). onto before (rows_from kind text at (i + 5) m)) (omega arith)

    pub loop_more : i < n → {row : List ℤ} {next : ℕ} {after : List (List ℤ)} → row_stage kind text at (i + 5) ≡ Ok (row, next) → after ≡ before ++ (row ∷ [])
        → all ≡ onto after (rows_from kind text next (i + 1 + 5) (n - (i + 1)))
    loop_more h {row} {next} e is =
        one_more h
        ∙ ap (onto before) (rows_more at (i + 5) (n - (i + 1)) e)
        ∙ ap (λ (line : ℕ). onto before (onto (row ∷ []) (rows_from kind text next line (n - (i + 1))))) (omega arith)
        ∙ ap (λ (rows : List (List ℤ)). record { rows = rows; end = (rows_from kind text next (i + 1 + 5) (n - (i + 1))).end }) (sym (append_assoc before (row ∷ []) (rows_from kind text next (i + 1 + 5) (n - (i + 1))).rows))
        ∙ ap (λ (rows : List (List ℤ)). onto rows (rows_from kind text next (i + 1 + 5) (n - (i + 1)))) (sym is)

    pub loop_stop : i < n → {f : RecordFault} → row_stage kind text at (i + 5) ≡ Err f → all ≡ record { rows = before; end = Err f }
    loop_stop h {f} e = one_more h ∙ ap (onto before) (rows_stop at (i + 5) (n - (i + 1)) e) ∙ ap (λ (rows : List (List ℤ)). record { rows = rows; end = Err f }) (append-nil before)

    pub loop_done : n ≤ i → all ≡ record { rows = before; end = Ok at }
    loop_done h =
        so_far ∙ ap (λ (m : ℕ). onto before (rows_from kind text at (i + 5) m)) (omega arith)
        ∙ ap (onto before) (rows_done at (i + 5)) ∙ ap (λ (rows : List (List ℤ)). record { rows = rows; end = Ok at }) (append-nil before)

module _ {C : Type 0} (row : C → List ℤ) where
  pub filled_at : (before after : List C) (i : ℕ) {rows : List (List ℤ)} → i ≤ length after → rows ≡ map row (take i after) → drop i after ≡ drop i before → Filled row before after rows
  filled_at before after i {rows} few is rest =
      let long : length rows ≡ i = ap length is ∙ length-map (take i after) row ∙ length-take-le i after few in
      record {
        filled = ap (λ (n : ℕ). map row (take n after)) long ∙ sym is;
        others = ap (λ (n : ℕ). drop n after) long ∙ rest ∙ sym (ap (λ (n : ℕ). drop n before) long);
      }

  -- places that are a part of more
  pub filled_part : (before part : List C) (m : ℕ) (rows : List (List ℤ)) → m ≤ length before → length part ≡ length (take (m - 0) before)
      → Filled row (take (m - 0) before) part rows → Filled row before (part ++ post_of 0 (m - 0) before) rows
  filled_part before part m rows few long told =
      let same : length part ≡ m = long ∙ length-take-le (m - 0) before (omega arith) ∙ omega arith in
      let short : length rows ≤ length part = omega (arith, sym (length-map (take (length rows) part) row) ∙ ap length told.filled, length-take (length rows) part) in
      let rest : post_of 0 (m - 0) before ≡ drop m before = Post-is 0 m before (omega arith) in
      let front : take (m - 0) before ≡ take m before = ap (λ (n : ℕ). take n before) (omega arith) in
      record {
        filled = ap (map row) (take-append-le (length rows) part (post_of 0 (m - 0) before) short) ∙ told.filled;
        others =
            drop-append-le (length rows) part (post_of 0 (m - 0) before) short
            ∙ ap (λ (xs : List C). xs ++ post_of 0 (m - 0) before) told.others
            ∙ sym (drop-append-le (length rows) (take (m - 0) before) (post_of 0 (m - 0) before) (omega arith))
            ∙ ap (λ (xs : List C). drop (length rows) (xs ++ post_of 0 (m - 0) before)) front
            ∙ ap (λ (xs : List C). drop (length rows) (take m before ++ xs)) rest
            ∙ ap (drop (length rows)) (take-append-drop m before);
      }

pub taken_more : {C D : Type 0} (f : C → D) (xs : List C) (i : ℕ) (x : C) → i < length xs → map f (take (i + 1) (set xs i x)) ≡ map f (take i xs) ++ (f x ∷ [])
taken_more f [] i x h = absurd (omega arith)
taken_more f (y ∷ xs) zero x h = refl
taken_more {C} {D} f (y ∷ xs) (suc i) x h = rw (suc_add_one i) (ap (λ (rest : List D). f y ∷ rest) (taken_more f xs i x (omega arith)))
  where
    suc_add_one : (k : ℕ) → suc k + 1 ≡ suc (k + 1)
    suc_add_one k = omega arith

module _ {C : Type 0} where
  pub dropped_more : (xs before : List C) (i : ℕ) (x : C) → drop i xs ≡ drop i before → drop (i + 1) (set xs i x) ≡ drop (i + 1) before
  dropped_more xs before i x e =
      drop-set-lt (i + 1) xs i x (omega arith) ∙ sym (drop-drop 1 i xs) ∙ ap (drop 1) e ∙ drop-drop 1 i before

  pub stored_back : (xs : List C) (i : ℕ) (x : C) {y : C} → y ≡ get_or xs i x → set xs i y ≡ xs
  stored_back xs i x same = ap (set xs i) same ∙ set-get_or xs i x

  pub part_long : (xs : List C) (m : ℕ) → m ≤ length xs → length (take (m - 0) xs) ≡ m
  part_long xs m few = length-take-le (m - 0) xs (omega arith) ∙ omega arith
