-- Pieces that keep their laws are those that no condition refuses, and one walk over them tells.
use Rattle.std.proofs.Common.{◌≡◌, ℕ, zero, suc, ◌+◌, ◌-◌, ◌*◌, ◌<◌, ◌≤◌, Bool, true, false, not, ◌&&◌, ltb, List, [], ◌∷◌, length, get_or, take, ℤ, pos, negsuc, ◌+ℤ◌, ◌≤ℤ◌, ◌<ℤ◌, is_some, Some, None, Option, sym, refl, ap, ◌∙◌, inl, inr, add-one, arith, below_more}
use lib.Signed.{le_z, lt_z}
use Rattle.std.specs.Option.{option_map}
use Rattle.std.proofs.lemmas.List.{take_all}
use Rattle.std.proofs.lemmas.Int.{ints}
use Rattle.std.proofs.lemmas.Bool.{cases_eq}
use Rattle.std.proofs.lemmas.Bool.Decides.{nat_tests as by_tests}
use Rattle.cost.specs.Meaning.{total, Between, AllBetween}
use Rattle.cost.specs.Limits.{within, outside_each, load_limits, opening_limits, width_limits, increment_limits}
use Rattle.cost.specs.declared.numbers.Limits.{Limits}
use Rattle.cost.specs.declared.numbers.NumberFault.TheVariants.{Outside}
use Rattle.cost.specs.declared.refusals.CostFault.{CostFault}
use Rattle.cost.proofs.FirstPlace.{first_place_none}
use Rattle.cost.proofs.Lists.{total_more}
use Rattle.stepped_cost.specs.Stepped.{paired, too_long, falling, stepped_refusal, PiecesFit}
use Rattle.stepped_cost.specs.Pieces.{keeps, last_fits}

-- ---- what fits is not refused

and_none : (b : Bool) → b && false ≡ false
and_none true = refl
and_none false = refl

-- a number from the low end to the high end passes its limits
pub passes : (limits : Limits) (x : ℤ) → Between limits.low limits.high x → within limits x ≡ true
passes limits x between =
    let low : le_z limits.low x ≡ true = sym (omega (arith, ints, between.0)) in
    let high : le_z x limits.high ≡ true = sym (omega (arith, ints, between.1)) in
    cc

all_pass : (limits : Limits) (before : ℕ) (xs : List ℤ) → AllBetween limits.low limits.high xs → outside_each limits before xs ≡ None
all_pass limits before xs each =
    ap (option_map (λ place. Outside (before + place))) (first_place_none (λ k. not (within limits (get_or xs k (pos 0)))) (length xs) (λ k h. ap not (passes limits (get_or xs k (pos 0)) (each k h))))

-- a front of numbers above 0 sums to no more than all
front_under : (ws : List ℤ) (n : ℕ) → ((k : ℕ) → k < length ws → pos 0 ≤ℤ get_or ws k (pos 0)) → total (take n ws) ≤ℤ total ws
front_under [] zero above = omega (arith, ints)
front_under [] (suc n) above = omega (arith, ints)
front_under (w ∷ ws) zero above = omega (arith, ints, above 0 (omega arith), front_under ws zero (λ k h. above (suc k) (omega arith)))
front_under (w ∷ ws) (suc n) above = omega (arith, ints, front_under ws n (λ k h. above (suc k) (omega arith)))

module _ (first opening : ℤ) (ws ss : List ℤ) (pairs : length ws ≡ length ss) (few : length ws ≤ 8) where
  pub unrefused : within load_limits first ≡ true → within opening_limits opening ≡ true → PiecesFit first ws ss → stepped_refusal first opening ws ss ≡ None
  unrefused in_loads in_openings fit =
      let even : paired ws ss ≡ true = grind (arith, by_tests) in
      let widths = all_pass width_limits 2 ws fit.widths_within in
      let slopes = all_pass increment_limits (2 + length ws) ss fit.slopes_within in
      let short = first_place_none (too_long first ws) (length ws) (λ k h. sym (omega (arith, ints, front_under ws (k + 1) (λ j i. omega (arith, ints, fit.widths_within j i)), fit.loads_within))) in
      let rises = first_place_none (falling ss) (length ss) (λ k h. never k h) in
      simp (even, in_loads, in_openings, widths, slopes, short, rises)
    where
      never : (k : ℕ) → k < length ss → falling ss k ≡ false
      never zero h = refl
      never (suc k) h =
          let rise = rw add-one at (fit.slopes_rise k (omega arith)) in
          let back : suc k - 1 ≡ k = omega arith in
          let over : lt_z (get_or ss (suc k) (pos 0)) (get_or ss k (pos 0)) ≡ false = sym (omega (arith, ints, rise)) in
          rw back (rw over (and_none (ltb 0 (suc k))))

-- ---- one walk over the pieces

-- the walk has come to the piece at index k: the pieces before keep their laws, `last` is the load behind them, and `least` is their last slope
pub record Walked (first : ℤ) (ws ss : List ℤ) (k : ℕ) (last least : ℤ) : Type 0 where
  pub widths_so : (j : ℕ) → j < k → Between (pos 1) (pos 10000) (get_or ws j (pos 0))
  pub slopes_so : (j : ℕ) → j < k → Between (negsuc 999999) least (get_or ss j (pos 0))
  pub rise_so : (j : ℕ) → j + 1 < k → get_or ss j (pos 0) ≤ℤ get_or ss (j + 1) (pos 0)
  pub from_low : negsuc 999999 ≤ℤ least
  pub at_start : k ≡ 0 → least ≡ negsuc 999999
  pub at_last : (j : ℕ) → j + 1 ≡ k → least ≡ get_or ss j (pos 0)
  pub sum_so : last ≡ first +ℤ total (take k ws)
  pub limit : Between (pos 0) (pos (10000 + 10000 * k)) last

-- before the first piece
pub walk_starts : (first : ℤ) (ws ss : List ℤ) → Between (pos 0) (pos 10000) first → Walked first ws ss 0 first (negsuc 999999)
walk_starts first ws ss limits = record {
  widths_so = λ j h. absurd (omega arith);
  slopes_so = λ j h. absurd (omega arith);
  rise_so = λ j h. absurd (omega arith);
  from_low = omega (arith, ints);
  at_start = λ e. refl;
  at_last = λ j e. absurd (omega arith);
  sum_so = omega (arith, ints);
  limit = omega (arith, ints, limits);
}

module _ (first : ℤ) (ws ss : List ℤ) (k : ℕ) (last least : ℤ) (walked : Walked first ws ss k last least) where
  pub walk_on : k < length ws → Between (pos 1) (pos 10000) (get_or ws k (pos 0)) → least ≤ℤ get_or ss k (pos 0)
      → Walked first ws ss (k + 1) (last +ℤ get_or ws k (pos 0)) (get_or ss k (pos 0))
  walk_on within' width rise = record {
    widths_so = below_more _ _ walked.widths_so width;
    slopes_so = below_more _ _ (λ j h. omega (arith, ints, walked.slopes_so j h)) (omega (arith, ints, walked.from_low));
    rise_so = λ j h. elim (cases_eq (j + 1) k) [
      | inl at ↦ omega (arith, ints, walked.at_last j at, ap (λ i. get_or ss i (pos 0)) at)
      | inr away ↦ walked.rise_so j (omega arith)
    ];
    from_low = omega (arith, ints, walked.from_low);
    at_start = λ e. absurd (omega arith);
    at_last = λ j e. let same : k ≡ j = omega arith in ap (λ i. get_or ss i (pos 0)) same;
    sum_so = omega (arith, ints, walked.sum_so, total_more ws k within');
    limit = omega (arith, ints, walked.limit);
  }

  -- a slope below the one before it, or below all limits
  pub falls_short : k < length ss → get_or ss k (pos 0) <ℤ least → PiecesFit first ws ss → ⊥
  falls_short within' under fit = by_place k refl
    where
      by_place : (n : ℕ) → n ≡ k → ⊥
      by_place zero e = omega (arith, ints, walked.at_start (sym e), fit.slopes_within k within')
      by_place (suc j) e =
          let next : j + 1 ≡ k = omega arith in
          omega (arith, ints, walked.at_last j next, fit.slopes_rise j (omega arith), ap (λ i. get_or ss i (pos 0)) next)

module _ (first : ℤ) (ws ss : List ℤ) (pairs : length ws ≡ length ss) (k : ℕ) (at_end : k ≡ length ws) (last least : ℤ) (walked : Walked first ws ss k last least) where
  sum_is : last ≡ first +ℤ total ws
  sum_is = walked.sum_so ∙ ap (λ (xs : List ℤ). first +ℤ total xs) (take_all k ws (omega arith))

  pub walk_ends : last ≤ℤ pos 10000 → least ≤ℤ pos 1000000 → PiecesFit first ws ss
  walk_ends short low = record {
    widths_within = λ j h. walked.widths_so j (omega arith);
    slopes_within = λ j h. omega (arith, ints, walked.slopes_so j (omega arith));
    slopes_rise = λ j h. walked.rise_so j (omega arith);
    loads_within = omega (arith, ints, sum_is);
  }

  pub too_far : pos 10000 <ℤ last → PiecesFit first ws ss → ⊥
  too_far far fit = omega (arith, ints, sum_is, fit.loads_within)

  pub too_high : pos 1000000 <ℤ least → PiecesFit first ws ss → ⊥
  too_high high fit = by_place k refl
    where
      by_place : (n : ℕ) → n ≡ k → ⊥
      by_place zero e = omega (arith, ints, walked.at_start (sym e))
      by_place (suc j) e = let next : j + 1 ≡ k = omega arith in omega (arith, ints, walked.at_last j next, fit.slopes_within j (omega arith))

-- ---- the verdict

module _ (first opening : ℤ) (ws ss : List ℤ) (pairs : length ws ≡ length ss) (few : length ws ≤ 8) (in_loads : within load_limits first ≡ true) (in_openings : within opening_limits opening ≡ true) where
  -- a test that tells what fits tells what is not refused
  tells : (r : Bool) → (r ≡ true → PiecesFit first ws ss) → (r ≡ false → PiecesFit first ws ss → ⊥) → r ≡ not (is_some (stepped_refusal first opening ws ss))
  tells true fit unfit =
      let none = unrefused first opening ws ss pairs few in_loads in_openings (fit refl) in
      ap (λ (o : Option CostFault). not (is_some o)) (sym none)
  tells false fit unfit = go (stepped_refusal first opening ws ss) refl
    where
      go : (o : Option CostFault) → stepped_refusal first opening ws ss ≡ o → false ≡ not (is_some o)
      go None none =
          let kept = keeps first opening ws ss none in
          absurd (unfit refl (record { widths_within = kept.numbers.width_limit; slopes_within = kept.numbers.slope_limit; slopes_rise = kept.rising; loads_within = last_fits first opening ws ss kept }))
      go (Some f) some = refl

  -- the same of lists that equal those of a content
  pub tells_made : (ws' ss' : List ℤ) → ws ≡ ws' → ss ≡ ss' → (r : Bool) → (r ≡ true → PiecesFit first ws ss) → (r ≡ false → PiecesFit first ws ss → ⊥)
      → r ≡ not (is_some (stepped_refusal first opening ws' ss'))
  tells_made ws' ss' widths slopes r fit unfit =
      tells r fit unfit
      ∙ ap (λ (xs : List ℤ). not (is_some (stepped_refusal first opening xs ss))) widths
      ∙ ap (λ (xs : List ℤ). not (is_some (stepped_refusal first opening ws' xs))) slopes
