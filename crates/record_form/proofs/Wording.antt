-- A line is read only where it stands.
use Rattle.std.proofs.Common.{◌≡◌, ℕ, ◌-◌, true, cond, List, [], ◌∷◌, ◌++◌, length, ℤ, pos, Some, None, Ok, Err, codes, Option, sym, append_assoc, arith}
use Rattle.cost.specs.Limits.{within}
use Rattle.cost.specs.Meaning.{Between}
use Rattle.cost.proofs.Refusing.{between}
use Rattle.text.specs.Fields.{decimal}
use Rattle.text.specs.Steps.{Step, and_then, number_at, word_at, space_at, line_end_at, numbers_at}
use Rattle.text.specs.Theorems.{Stands}
use Rattle.text.specs.Writing.{spaced}
use Rattle.text.proofs.Returning.{word_is_written, number_is_written, ends_are_written}
use Rattle.text.proofs.ReturningLists.{numbers_are_written}
use Rattle.text.proofs.Standing.{both_made, made_under, stands_then}
use Rattle.record_form.specs.Lines.{line, net_line, count_at, first_line_at, list_at, row_at, row_end_at, row_told_at}
use Rattle.record_form.specs.declared.lines.Counts.{Counts}

-- what two steps that were made alike have read, and where they ended
pub made_alike : {T : Type 0} (read other : T × ℕ) → ◌≡◌ {A = Step T} (Ok read) (Ok other) → (read.0 ≡ other.0) × (read.1 ≡ other.1)
made_alike read other e = let parts = made_under true read other 0 e in (parts.1, parts.2)

module _ (text : List ℕ) where
  -- ---- a count

  pub count_is_written : (at : ℕ) (most x : ℤ) (next : ℕ) → count_at text at most ≡ Ok (x, next) → Stands text at (32 ∷ decimal x) next × Between (pos 0) most x
  unfolding count_at
  count_is_written at most x next e =
      let one = both_made (space_at text at)
      (λ (_ : Unit {0}) (first : ℕ). and_then (number_at text first) (λ (y : ℤ) (after : ℕ). cond (within (record { low = pos 0; high = most }) y) (Ok (y, after)) (Err first)))
      (x, next) e in
      let first = one.0.1 in
      let two = both_made (number_at text first)
      (λ (y : ℤ) (after : ℕ). cond (within (record { low = pos 0; high = most }) y) (Ok (y, after)) (Err first)) (x, next) one.2 in
      let y = two.0.0 in
      let after = two.0.1 in
      let last = made_under (within (record { low = pos 0; high = most }) y) (y, after) (x, next) first two.2 in
      let space = (ends_are_written text at first).0 one.1 in
      let number = (number_is_written text first y after two.1).0 in
      let stands : Stands text at (32 ∷ decimal y) after = stands_then text at (32 ∷ []) first (decimal y) after space number in
      let placed : Stands text at (32 ∷ decimal x) after = subst_number stands last.1 in
      (subst_end placed last.2, subst_within (between (record { low = pos 0; high = most }) y last.0) last.1)
    where
      subst_number : {a b : ℤ} {end : ℕ} → Stands text at (32 ∷ decimal a) end → a ≡ b → Stands text at (32 ∷ decimal b) end
      subst_number {a} {b} {end} stands same = rw (sym same) stands

      subst_end : {n m : ℕ} → Stands text at (32 ∷ decimal x) n → n ≡ m → Stands text at (32 ∷ decimal x) m
      subst_end stands same = rw (sym same) stands

      subst_within : {a b : ℤ} → Between (pos 0) most a → a ≡ b → Between (pos 0) most b
      subst_within known same = rw (sym same) known

  -- ---- a list

  pub list_is_written : (at : ℕ) (word : List ℕ) (count : ℕ) (xs : List ℤ) (next : ℕ) → list_at text at word count ≡ Ok (xs, next) → Stands text at (line word xs) next × (length xs ≡ count)
  unfolding list_at
  list_is_written at word count xs next e =
      let one = both_made (word_at text at word)
      (λ (_ : Unit {0}) (a : ℕ). and_then (numbers_at text a count) (λ (ys : List ℤ) (b : ℕ). and_then (line_end_at text b) (λ (_ : Unit {0}) (end : ℕ). Ok (ys, end)))) (xs, next) e in
      let a = one.0.1 in
      let two = both_made (numbers_at text a count) (λ (ys : List ℤ) (b : ℕ). and_then (line_end_at text b) (λ (_ : Unit {0}) (end : ℕ). Ok (ys, end))) (xs, next) one.2 in
      let ys = two.0.0 in
      let b = two.0.1 in
      let three = both_made (line_end_at text b) (λ (_ : Unit {0}) (end : ℕ). Ok (ys, end)) (xs, next) two.2 in
      let numbers = numbers_are_written text a count ys b two.1 in
      let end = stands_then text a (spaced ys) b (10 ∷ []) three.0.1 numbers.0 ((ends_are_written text b three.0.1).1 three.1) in
      let whole = stands_then text at word a (spaced ys ++ (10 ∷ [])) three.0.1 (word_is_written text at word a one.1) end in
      same_list ys xs three.0.1 next three.2 whole numbers.1
    where
      same_list : (ys zs : List ℤ) (m n : ℕ) → ◌≡◌ {A = Step (List ℤ)} (Ok (ys, m)) (Ok (zs, n)) → Stands text at (line word ys) m → length ys ≡ count → Stands text at (line word zs) n × (length zs ≡ count)
      same_list ys zs m n same stands long = let is = made_alike (ys, m) (zs, n) same in rw (sym is.0, sym is.1) (stands, long)

  -- ---- a row

  row_end_is_written : (at : ℕ) (first : ℤ) (further : ℕ) (xs : List ℤ) (next : ℕ) → row_end_at text at first further ≡ Ok (xs, next)
      → (ys : List ℤ) × (xs ≡ first ∷ ys) × Stands text at (spaced ys ++ (10 ∷ [])) next
  unfolding row_end_at
  row_end_is_written at first further xs next e =
      let one = both_made (numbers_at text at further) (λ (ys : List ℤ) (a : ℕ). and_then (line_end_at text a) (λ (_ : Unit {0}) (end : ℕ). Ok (first ∷ ys, end))) (xs, next) e in
      let ys = one.0.0 in
      let a = one.0.1 in
      let two = both_made (line_end_at text a) (λ (_ : Unit {0}) (end : ℕ). Ok (first ∷ ys, end)) (xs, next) one.2 in
      let end = stands_then text at (spaced ys) a (10 ∷ []) two.0.1 (numbers_are_written text at further ys a one.1).0 ((ends_are_written text a two.0.1).1 two.1) in
      let same = made_alike (first ∷ ys, two.0.1) (xs, next) two.2 in
      (ys, sym same.0, ends_at ys end same.1)
    where
      ends_at : {n m : ℕ} (ys : List ℤ) → Stands text at (spaced ys ++ (10 ∷ [])) n → n ≡ m → Stands text at (spaced ys ++ (10 ∷ [])) m
      ends_at ys stands same = rw (sym same) stands

  told_is_written : (start at : ℕ) (first : ℤ) (told : Option ℕ) (xs : List ℤ) (next : ℕ) → row_told_at text start at first told ≡ Ok (xs, next)
      → (ys : List ℤ) × (xs ≡ first ∷ ys) × Stands text at (spaced ys ++ (10 ∷ [])) next
  unfolding row_told_at
  told_is_written start at first None xs next e = absurd (let z : ◌≡◌ {A = ℕ} 0 1 = cc in omega arith)
  told_is_written start at first (Some count) xs next e = row_end_is_written at first (count - 1) xs next e

  pub row_is_written : (at : ℕ) (long : ℤ → Option ℕ) (xs : List ℤ) (next : ℕ) → row_at text at long ≡ Ok (xs, next) → Stands text at (line (codes "c") xs) next
  unfolding row_at
  row_is_written at long xs next e =
      let one = both_made (word_at text at (codes "c"))
      (λ (_ : Unit {0}) (a : ℕ). and_then (space_at text a) (λ (_ : Unit {0}) (start : ℕ). and_then (number_at text start) (λ (first : ℤ) (b : ℕ). row_told_at text start b first (long first))))
      (xs, next) e in
      let a = one.0.1 in
      let two = both_made (space_at text a) (λ (_ : Unit {0}) (start : ℕ). and_then (number_at text start) (λ (first : ℤ) (b : ℕ). row_told_at text start b first (long first))) (xs, next) one.2 in
      let start = two.0.1 in
      let three = both_made (number_at text start) (λ (first : ℤ) (b : ℕ). row_told_at text start b first (long first)) (xs, next) two.2 in
      let first = three.0.0 in
      let b = three.0.1 in
      let rest = told_is_written start b first (long first) xs next three.2 in
      let ys = rest.0 in
      let end = spaced ys ++ (10 ∷ []) in
      let number = stands_then text start (decimal first) b end next (number_is_written text start first b three.1).0 rest.2 in
      let space = stands_then text a (32 ∷ []) start (decimal first ++ end) next ((ends_are_written text a start).0 two.1) number in
      let whole = stands_then text at (codes "c") a (32 ∷ (decimal first ++ end)) next (word_is_written text at (codes "c") a one.1) space in
      joined first ys whole rest.1
    where
      joined : (first : ℤ) (ys : List ℤ) → Stands text at (codes "c" ++ (32 ∷ (decimal first ++ (spaced ys ++ (10 ∷ []))))) next → xs ≡ first ∷ ys → Stands text at (line (codes "c") xs) next
      joined first ys stands is = rw (is, append_assoc (decimal first) (spaced ys) (10 ∷ [])) stands

  -- ---- the first line

  pub first_line_is_written : (at letter : ℕ) (counts : Counts) (next : ℕ) → first_line_at text at letter ≡ Ok (counts, next)
      → Stands text at (net_line letter counts.nodes counts.arcs) next × Between (pos 0) (pos 64) counts.nodes × Between (pos 0) (pos 256) counts.arcs
  unfolding first_line_at
  first_line_is_written at letter counts next e =
      let one = both_made (word_at text at (codes "net"))
      (λ (_ : Unit {0}) (a : ℕ). and_then (space_at text a) (λ (_ : Unit {0}) (b : ℕ). and_then (word_at text b (letter ∷ [])) (λ (_ : Unit {0}) (c : ℕ).
      and_then (count_at text c (pos 64)) (λ (n : ℤ) (d : ℕ). and_then (count_at text d (pos 256)) (λ (m : ℤ) (f : ℕ). and_then (line_end_at text f) (λ (_ : Unit {0}) (end : ℕ). Ok (record { nodes = n; arcs = m }, end)))))))
      (counts, next) e in
      let a = one.0.1 in
      let two = both_made (space_at text a) (λ (_ : Unit {0}) (b : ℕ). and_then (word_at text b (letter ∷ [])) (λ (_ : Unit {0}) (c : ℕ).
      and_then (count_at text c (pos 64)) (λ (n : ℤ) (d : ℕ). and_then (count_at text d (pos 256)) (λ (m : ℤ) (f : ℕ). and_then (line_end_at text f) (λ (_ : Unit {0}) (end : ℕ). Ok (record { nodes = n; arcs = m }, end))))))
      (counts, next) one.2 in
      let b = two.0.1 in
      let three = both_made (word_at text b (letter ∷ [])) (λ (_ : Unit {0}) (c : ℕ).
      and_then (count_at text c (pos 64)) (λ (n : ℤ) (d : ℕ). and_then (count_at text d (pos 256)) (λ (m : ℤ) (f : ℕ). and_then (line_end_at text f) (λ (_ : Unit {0}) (end : ℕ). Ok (record { nodes = n; arcs = m }, end)))))
      (counts, next) two.2 in
      let c = three.0.1 in
      let four = both_made (count_at text c (pos 64)) (λ (n : ℤ) (d : ℕ). and_then (count_at text d (pos 256)) (λ (m : ℤ) (f : ℕ). and_then (line_end_at text f) (λ (_ : Unit {0}) (end : ℕ). Ok (record { nodes = n; arcs = m }, end))))
      (counts, next) three.2 in
      let n = four.0.0 in
      let d = four.0.1 in
      let five = both_made (count_at text d (pos 256)) (λ (m : ℤ) (f : ℕ). and_then (line_end_at text f) (λ (_ : Unit {0}) (end : ℕ). Ok (record { nodes = n; arcs = m }, end))) (counts, next) four.2 in
      let m = five.0.0 in
      let f = five.0.1 in
      let six = both_made (line_end_at text f) (λ (_ : Unit {0}) (end : ℕ). Ok (record { nodes = n; arcs = m }, end)) (counts, next) five.2 in
      let last = six.0.1 in
      let same = made_alike (record { nodes = n; arcs = m }, last) (counts, next) six.2 in
      let nodes = count_is_written c (pos 64) n d four.1 in
      let arcs = count_is_written d (pos 256) m f five.1 in
      let s₆ = (ends_are_written text f last).1 six.1 in
      let s₅ = stands_then text d (32 ∷ decimal m) f (10 ∷ []) last arcs.0 s₆ in
      let s₄ = stands_then text c (32 ∷ decimal n) d (32 ∷ (decimal m ++ (10 ∷ []))) last nodes.0 s₅ in
      let s₃ = stands_then text b (letter ∷ []) c (32 ∷ (decimal n ++ (32 ∷ (decimal m ++ (10 ∷ []))))) last (word_is_written text b (letter ∷ []) c three.1) s₄ in
      let s₂ = stands_then text a (32 ∷ []) b (letter ∷ 32 ∷ (decimal n ++ (32 ∷ (decimal m ++ (10 ∷ []))))) last ((ends_are_written text a b).0 two.1) s₃ in
      let s₁ = stands_then text at (codes "net") a (32 ∷ letter ∷ 32 ∷ (decimal n ++ (32 ∷ (decimal m ++ (10 ∷ []))))) last (word_is_written text at (codes "net") a one.1) s₂ in
      put n m last s₁ nodes.1 arcs.1 same.0 same.1
    where
      put : (n m : ℤ) (last : ℕ) → Stands text at (codes "net" ++ (32 ∷ letter ∷ 32 ∷ (decimal n ++ (32 ∷ (decimal m ++ (10 ∷ [])))))) last → Between (pos 0) (pos 64) n → Between (pos 0) (pos 256) m
          → record { nodes = n; arcs = m } ≡ counts → last ≡ next
          → Stands text at (net_line letter counts.nodes counts.arcs) next × Between (pos 0) (pos 64) counts.nodes × Between (pos 0) (pos 256) counts.arcs
      put n m last stands some more is ends =
          rw (sym is, sym ends)
          (rw (append_assoc (decimal n) (32 ∷ (decimal m ++ [])) (10 ∷ []), append_assoc (decimal m) [] (10 ∷ [])) stands, some, more)
