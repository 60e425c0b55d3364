-- The first slope that lies below the one before it, found by looking at each slope beside the next.
use Rattle.std.proofs.Common.{◌≡◌, ℕ, ◌+◌, ◌-◌, ◌<◌, Bool, true, ltb, List, [], ◌∷◌, length, get_or, drop, ℤ, pos, Some, position, refl, ap, ◌∙◌, add-one, arith}
use lib.Signed.{lt_z}
use Rattle.std.specs.List.{zip}
use Rattle.std.specs.Option.{option_map}
use Rattle.std.proofs.lemmas.List.Quantifiers.{position-Some}
use Rattle.std.proofs.lemmas.Slice.Zip.{length-zip, get_or-zip}
use Rattle.std.proofs.lemmas.Bool.Decides.{nat_tests}
use Rattle.cost.specs.Places.{first_place, first_place_from}
use Rattle.cost.proofs.FirstPlace.{place_of_position}
use Rattle.stepped_cost.specs.Stepped.{falling}

-- a slope and the next, of which the next lies below
abbrev pub falls : ℤ × ℤ → Bool
falls pair = lt_z pair.1 pair.0

-- each slope beside the next
abbrev pub neighbours : List ℤ → List (ℤ × ℤ)
neighbours ss = zip ss (drop 1 ss)

pub first_fall : (ss : List ℤ) → option_map (λ n. n + 2) (position falls (neighbours ss)) ≡ first_place (falling ss) (length ss)
first_fall [] = refl
first_fall (s ∷ ss) =
    place_of_position falls (pos 0, pos 0) (falling (s ∷ ss)) 1 (neighbours (s ∷ ss)) told
    ∙ ap (first_place_from (falling (s ∷ ss)) 1) (length-zip (s ∷ ss) ss ∙ omega arith)
  where
    told : (j : ℕ) → j < length (neighbours (s ∷ ss)) → falling (s ∷ ss) (j + 1) ≡ falls (get_or (neighbours (s ∷ ss)) j (pos 0, pos 0))
    told j h =
        let less : j < length ss = omega (arith, length-zip (s ∷ ss) ss) in
        let pair = get_or-zip (s ∷ ss) ss j (pos 0, pos 0) (omega arith) less in
        let later : ltb 0 (j + 1) ≡ true = grind (arith, nat_tests) in
        let back : j + 1 - 1 ≡ j = omega arith in
        rw (pair, later, back, add-one) refl

pub fall_within : (ss : List ℤ) (i : ℕ) → position falls (neighbours ss) ≡ Some i → i < length ss
fall_within ss i e = omega (arith, (position-Some falls (neighbours ss) i (pos 0, pos 0) e).0, length-zip ss (drop 1 ss))
