-- What a cap and a ceiling keep of the cost below them, for any cost.
use Rattle.std.specs.Prelude.{◌≡◌, ℕ, ◌+◌, ◌-◌, ◌<◌, min, Bool, true, false, cond, length, ℤ, pos, negsuc, ◌≤ℤ◌, ◌<ℤ◌, None, int_le, slice_index_or, refl}
use Rattle.std.proofs.Common.{ap, arith}
use Rattle.std.specs.List.{slice_get}
use Rattle.std.specs.Int.{int_min, int_max}
use Rattle.std.specs.Option.{option_map}
use Rattle.std.proofs.lemmas.List.{length-take, length-map, get_or-take, get_or-map}
use Rattle.std.proofs.lemmas.Option.{slice_get_past, slice_get-map}
use Rattle.std.proofs.lemmas.Int.{ints, clamps}
use Rattle.cost.specs.Meaning.{Meaning, Lawful, last, natural, beyond, increment_at}
use Rattle.layered_cost.specs.Layers.{capped, ceiled}
use Rattle.cost.proofs.Lists.{natural_is, nth_take}

-- ---- cap

module _ (k : ℤ) (m : Meaning) where
  length_capped : length (capped k m).increments ≡ min (natural k - m.first) (length m.increments)
  length_capped = length-take (natural k - m.first) m.increments

  pub capped_last : pos (last (capped k m)) ≡ int_min (pos (last m)) (int_max k (pos m.first))
  capped_last = omega (arith, ints, clamps, length_capped, natural_is k)

  -- an increment that the cap leaves is the one below
  same_increment : (i : ℕ) → i < length (capped k m).increments → slice_index_or (capped k m).increments i (pos 0) ≡ slice_index_or m.increments i (pos 0)
  same_increment i h = get_or-take (natural k - m.first) m.increments i (pos 0) (omega (arith, length_capped))

  pub capped_lawful : Lawful m → Lawful (capped k m)
  capped_lawful law = record {
    last_limit = omega (arith, law.last_limit, length_capped);
    opening_limit = law.opening_limit;
    increment_limit = λ i h. rw (same_increment i h) (law.increment_limit i (omega (arith, length_capped)));
    convex = λ i h. rw (same_increment i (omega arith), same_increment (i + 1) h) (law.convex i (omega (arith, length_capped)));
  }

  by_first : (x : ℤ) (P : Bool → Type 0) → (pos m.first ≤ℤ x → P true) → P false → P (int_le (pos m.first) x)
  by_first x P yes' no' = go (int_le (pos m.first) x) refl
    where
      go : (b : Bool) → int_le (pos m.first) x ≡ b → P b
      go true e = yes' (omega (arith, ints))
      go false e = no'

  pub capped_increment : (x : ℤ) → x <ℤ k → increment_at (capped k m) x ≡ increment_at m x
  capped_increment x h =
      by_first x (λ b. cond b (slice_get (capped k m).increments (beyond m x)) None ≡ cond b (slice_get m.increments (beyond m x)) None)
      (λ low. nth_take (natural k - m.first) m.increments (beyond m x) (omega (arith, ints, natural_is k)))
      refl

  pub capped_none : (x : ℤ) → k ≤ℤ x → increment_at (capped k m) x ≡ None
  capped_none x h =
      by_first x (λ b. cond b (slice_get (capped k m).increments (beyond m x)) None ≡ None)
      (λ low. slice_get_past (capped k m).increments (beyond m x) (omega (arith, ints, natural_is k, length_capped)))
      refl

-- ---- ceiling

module _ (g : ℤ) (m : Meaning) where
  abbrev lower : ℤ → ℤ
  lower = int_min (int_max g (negsuc 999999))

  length_ceiled : length (ceiled g m).increments ≡ length m.increments
  length_ceiled = length-map m.increments lower

  lowered : (i : ℕ) → i < length m.increments → slice_index_or (ceiled g m).increments i (pos 0) ≡ lower (slice_index_or m.increments i (pos 0))
  lowered i h = get_or-map lower m.increments i (pos 0) (pos 0) h

  pub ceiled_last : last (ceiled g m) ≡ last m
  ceiled_last = ap (λ (n : ℕ). m.first + n) length_ceiled

  pub ceiled_lawful : Lawful m → Lawful (ceiled g m)
  ceiled_lawful law = record {
    last_limit = rw ceiled_last law.last_limit;
    opening_limit = law.opening_limit;
    increment_limit = λ i h.
        let below : i < length m.increments = omega (arith, length_ceiled) in
        let limits = law.increment_limit i below in
        rw (lowered i below) (omega (arith, ints, clamps));
    convex = λ i h.
        let below : i + 1 < length m.increments = omega (arith, length_ceiled) in
        let rises = law.convex i below in
        rw (lowered i (omega arith), lowered (i + 1) below) (omega (arith, ints, clamps));
  }

  pub ceiled_increment : (x : ℤ) → increment_at (ceiled g m) x ≡ option_map lower (increment_at m x)
  ceiled_increment x =
      elim (int_le (pos m.first) x) as (λ b. cond b (slice_get (ceiled g m).increments (beyond m x)) None ≡ option_map lower (cond b (slice_get m.increments (beyond m x)) None))
      [ true ↦ slice_get-map lower m.increments (beyond m x) | false ↦ refl ]
