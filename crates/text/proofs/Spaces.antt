-- The text of a list of numbers, from number to number.
use Rattle.std.proofs.Common.{◌≡◌, ℕ, ◌+◌, ◌<◌, ◌≤◌, List, [], ◌∷◌, ◌++◌, length, get_or, take, drop, ℤ, pos, sym, refl, ap, ◌∙◌, subst, append_assoc, append-nil, arith, w64, SFits}
use Rattle.std.proofs.lemmas.List.{length-append, take_more, take_all, take-append-drop}
use Rattle.std.proofs.lemmas.Fmt.{length_signed_le}
use Rattle.text.specs.Fields.{decimal}
use Rattle.text.specs.Writing.{HasRoom, Appends, spaced}
use Rattle.text.specs.declared.writing.Writer.{Writer}
use Rattle.text.proofs.Overwriting.{room_then, appends_then}

pub spaced_append : (xs ys : List ℤ) → spaced (xs ++ ys) ≡ spaced xs ++ spaced ys
spaced_append [] ys = refl
spaced_append (x ∷ xs) ys =
    ap (λ (end : List ℕ). 32 ∷ end) (ap (λ (end : List ℕ). decimal x ++ end) (spaced_append xs ys) ∙ sym (append_assoc (decimal x) (spaced xs) (spaced ys)))

pub length_spaced_le : (xs : List ℤ) (i : ℕ) → length (spaced (take i xs)) ≤ length (spaced xs)
length_spaced_le xs i =
    omega (
      arith,
      ap (λ (ys : List ℤ). length (spaced ys)) (take-append-drop i xs),
      ap length (spaced_append (take i xs) (drop i xs)),
      length-append (spaced (take i xs)) (spaced (drop i xs)),
    )

module _ (xs : List ℤ) (i : ℕ) where
  pub spaced_more : i < length xs → spaced (take (i + 1) xs) ≡ spaced (take i xs) ++ (32 ∷ decimal (get_or xs i (pos 0)))
  spaced_more within =
      ap spaced (take_more xs i (pos 0) within) ∙ spaced_append (take i xs) (get_or xs i (pos 0) ∷ [])
      ∙ ap (λ (end : List ℕ). spaced (take i xs) ++ (32 ∷ end)) (append-nil (decimal (get_or xs i (pos 0))))

  pub length_spaced_more : i < length xs → length (spaced (take (i + 1) xs)) ≡ length (spaced (take i xs)) + (1 + length (decimal (get_or xs i (pos 0))))
  length_spaced_more within =
      ap length (spaced_more within) ∙ length-append (spaced (take i xs)) (32 ∷ decimal (get_or xs i (pos 0))) ∙ omega arith

  pub spaced_all : length xs ≤ i → spaced (take i xs) ≡ spaced xs
  spaced_all all = ap spaced (take_all i xs all)

  -- a number more is written after those before it
  module _ {w u : Writer} (room : HasRoom w (spaced xs)) (one : Appends (spaced (take i xs)) w u) (within : i < length xs) where
    room_so_far : HasRoom w (spaced (take i xs) ++ (32 ∷ decimal (get_or xs i (pos 0))))
    room_so_far = omega (arith, room, ap length (spaced_more within), length_spaced_le xs (i + 1))

    pub room_more : HasRoom u (32 ∷ decimal (get_or xs i (pos 0)))
    room_more = room_then (spaced (take i xs)) (32 ∷ decimal (get_or xs i (pos 0))) room_so_far one

    pub appends_more : {v : Writer} → Appends (32 ∷ decimal (get_or xs i (pos 0))) u v → Appends (spaced (take (i + 1) xs)) w v
    appends_more {v} two =
        subst (λ (text : List ℕ). Appends text w v) (sym (spaced_more within)) (appends_then (spaced (take i xs)) (32 ∷ decimal (get_or xs i (pos 0))) room_so_far one two)

-- the decimal text of a number of 64 bits is short
pub decimal_short : (x : ℤ) → SFits w64 x → length (decimal x) ≤ 21
decimal_short x fits = length_signed_le 20 x (omega (arith, fits.sfits)) fits.sfits
