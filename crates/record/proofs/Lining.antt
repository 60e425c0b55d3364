-- The lines of costs, one after another.
use Rattle.std.proofs.Common.{◌≡◌, ℕ, zero, suc, ◌+◌, ◌<◌, ◌≤◌, List, [], ◌∷◌, ◌++◌, map, length, get_or, take, ℤ, codes, sym, ap, ◌∙◌, subst, append_assoc, append-nil, arith}
use Rattle.std.proofs.lemmas.List.{length-append, take_all}
use Rattle.text.specs.Writing.{HasRoom, Appends}
use Rattle.text.specs.declared.writing.Writer.{Writer}
use Rattle.text.proofs.Overwriting.{room_then, appends_then}
use Rattle.record_form.specs.Lines.{line, row_lines}

module _ {C : Type 0} (row : C → List ℤ) where
  abbrev pub lines : List C → List ℕ
  lines cs = row_lines (map row cs)

  abbrev pub one : C → List ℕ
  one c = line (codes "c") (row c)

  pub lines_more : (cs : List C) (i : ℕ) (x : C) → i < length cs → x ≡ get_or cs i x → lines (take (i + 1) cs) ≡ lines (take i cs) ++ one x
  lines_more [] i x h is = absurd (omega arith)
  lines_more (y ∷ cs) zero x h is = append-nil (one y) ∙ ap one (sym is)
  lines_more (y ∷ cs) (suc i) x h is =
      rw (next i)
      (ap (λ (rest : List ℕ). one y ++ rest) (lines_more cs i x (omega arith) is) ∙ sym (append_assoc (one y) (lines (take i cs)) (one x)))
    where
      next : (k : ℕ) → suc k + 1 ≡ suc (k + 1)
      next k = omega arith

  pub lines_le : (cs : List C) (i : ℕ) → length (lines (take i cs)) ≤ length (lines cs)
  lines_le [] zero = omega arith
  lines_le [] (suc i) = omega arith
  lines_le (y ∷ cs) zero = omega arith
  lines_le (y ∷ cs) (suc i) = omega (arith, lines_le cs i, length-append (one y) (lines (take i cs)), length-append (one y) (lines cs))

  pub lines_all : (cs : List C) (i : ℕ) → length cs ≤ i → lines (take i cs) ≡ lines cs
  lines_all cs i h = ap lines (take_all i cs h)

  module _ (cs : List C) (i : ℕ) (x : C) (within : i < length cs) (is : x ≡ get_or cs i x) where
    pub length_more : length (lines (take (i + 1) cs)) ≡ length (lines (take i cs)) + length (one x)
    length_more = ap length (lines_more cs i x within is) ∙ length-append (lines (take i cs)) (one x)

    module _ {w u : Writer} (room : HasRoom w (lines cs)) (so_far : Appends (lines (take i cs)) w u) where
      room_so_far : HasRoom w (lines (take i cs) ++ one x)
      room_so_far = omega (arith, room, ap length (lines_more cs i x within is), lines_le cs (i + 1))

      pub room_more : HasRoom u (one x)
      room_more = room_then (lines (take i cs)) (one x) room_so_far so_far

      pub appends_more : {v : Writer} → Appends (one x) u v → Appends (lines (take (i + 1) cs)) w v
      appends_more {v} last =
          subst (λ (text : List ℕ). Appends text w v) (sym (lines_more cs i x within is)) (appends_then (lines (take i cs)) (one x) room_so_far so_far last)
