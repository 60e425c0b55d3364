-- A loop over two lists at once that counts its turns.
use Rattle.std.proofs.Common.{◌≡◌, ℕ, ◌<◌, List, length, get_or, min, Some, None, Option, ap, ◌∙◌, zero-add, arith, Iter, Bor}
use Rattle.std.specs.declared.iter.Enumerate.{Enumerate}
use Rattle.std.specs.declared.iter.Zip.{Zip}
use Rattle.std.proofs.iter.Yields.{fronts}
use Rattle.std.specs.Iterator.{Yields}
use Rattle.std.specs.Iterator.Adapters.{zip_first, zip_second, enumerate_source, enumerate_count, enumerate_steps}
use Rattle.std.specs.List.{zip, enumerate_from}
use Rattle.std.specs.Slice.Iter.{iter_rest}
use Rattle.std.proofs.lemmas.Iterator.{YieldsList, zips, YieldsList-from_slice, YieldsList-from_zip}
use Rattle.std.proofs.lemmas.Iterator.Consumers.{YieldsList-from_enumerate, YieldsList-turn, YieldsList-end}
use Rattle.std.proofs.lemmas.List.FromFn.{length-enumerate_from, get_or-enumerate_from}
use Rattle.std.proofs.lemmas.List.{get_or_read}
use Rattle.std.proofs.lemmas.Slice.Zip.{length-zip, get_or-zip}

module _ {A B : Type 0} (ks : List A) (vs : List B) (xs : List (ℕ × (Bor A × Bor B))) (s t u : Enumerate (Zip (Iter A) (Iter B)))
    (first : iter_rest (zip_first (enumerate_source s)) ≡ ks) (second : iter_rest (zip_second (enumerate_source s)) ≡ vs) (count : enumerate_count s ≡ 0)
    (yielded : Yields (enumerate_steps (zips fronts fronts)) s xs t) where
  listed : YieldsList {B = ℕ × (A × B)} (enumerate_steps (zips fronts fronts)) (λ p. (p.0, (p.1.0.now, p.1.1.now))) s (enumerate_from 0 (zip ks vs))
  listed = YieldsList-from_enumerate (YieldsList-from_zip (YieldsList-from_slice ks first) (YieldsList-from_slice vs second)) count

  -- where this turn's pair is in the lists
  pub paired_turn : (r : Option (ℕ × (Bor A × Bor B))) (p : ℕ × (Bor A × Bor B)) → r ≡ Some p → enumerate_steps (zips fronts fronts) t r u
      → (p.0 ≡ length xs) × (length xs < length ks) × (length xs < length vs) × ((d : A) → p.1.0.now ≡ get_or ks (length xs) d) × ((d : B) → p.1.1.now ≡ get_or vs (length xs) d)
  paired_turn r p is steps =
      let turn = YieldsList-turn listed xs t yielded r u p is steps in
      let within : length xs < length (zip ks vs) = omega (arith, turn.0, length-enumerate_from 0 (zip ks vs)) in
      let first_in : length xs < length ks = omega (arith, length-zip ks vs) in
      let second_in : length xs < length vs = omega (arith, length-zip ks vs) in
      let whole = turn.1 ∙ get_or-enumerate_from 0 (zip ks vs) (length xs) (p.0, (p.1.0.now, p.1.1.now)) within in
      let pair = ap (λ (q : ℕ × (A × B)). q.1) whole ∙ get_or-zip ks vs (length xs) (p.1.0.now, p.1.1.now) first_in second_in in (
        ap (λ (q : ℕ × (A × B)). q.0) whole ∙ zero-add (length xs),
        first_in,
        second_in,
        get_or_read ks (length xs) p.1.0.now first_in (ap (λ (q : A × B). q.0) pair),
        get_or_read vs (length xs) p.1.1.now second_in (ap (λ (q : A × B). q.1) pair),
      )

  pub paired_end : (r : Option (ℕ × (Bor A × Bor B))) → r ≡ None → enumerate_steps (zips fronts fronts) t r u → length xs ≡ min (length ks) (length vs)
  paired_end r is steps = (YieldsList-end listed xs t yielded r u is steps).1 ∙ length-enumerate_from 0 (zip ks vs) ∙ length-zip ks vs
