-- The stepped cost keeps the four laws, and its pieces answer its increments.
use Rattle.std.specs.Prelude.{◌≡◌, ℕ, zero, suc, ◌+◌, ◌-◌, ◌<◌, ◌≤◌, true, false, cond, not, ltb, List, [], ◌∷◌, ◌++◌, length, get_or, take, drop, set, replicate, ℤ, pos, negsuc, ◌+ℤ◌, ◌-ℤ◌, ◌≤ℤ◌, ◌<ℤ◌, is_some, Some, None, Option, ◌==◌, int_lt, nat_le, nat_lt, slice_index_or, slice_set, refl}
use Rattle.std.proofs.Common.{sym, ◌∙◌, ap, add-one, arith}
use Rattle.std.specs.List.{slice_get}
use Rattle.std.specs.Option.{option_map}
use Rattle.std.proofs.lemmas.List.{append_assoc, length-append, length-replicate, length-take-le, set_at, take_all, take_at, take_more, drop_all, drop_more}
use Rattle.std.proofs.lemmas.Int.{ints}
use Rattle.std.proofs.lemmas.Bool.{and_parts}
use Rattle.std.proofs.lemmas.Bool.Decides.{nat_tests}
use Rattle.cost.specs.Meaning.{Meaning, empty_cost, natural, total, Lawful, last, increment_at, Rising, Between, AllBetween}
use Rattle.cost.specs.Places.{first_place, kept_or}
use Rattle.cost.specs.Limits.{outside, outside_each, load_limits, opening_limits, width_limits, increment_limits}
use Rattle.stepped_cost.specs.Stepped.{spread, stepped_meaning, paired, too_long, falling, stepped_outside, stepped_refusal, widths_of, slopes_of, stepped_content, stepped_of, padded}
use Rattle.cost.specs.declared.refusals.CostFault.{CostFault}
use Rattle.cost.specs.declared.refusals.CostFault.TheVariants.{Pieces, Number, Long, Falls}
use Rattle.stepped_cost.specs.declared.stepped.Stepped.{Stepped}
use Rattle.cost.proofs.FirstPlace.{first_place_never}
use Rattle.cost.proofs.Lists.{natural_is, nth_repeated, nth_past_repeated, increment_under, increment_here, empty_lawful}
use Rattle.cost.proofs.Refusing.{neither, none_below, passed, not_both, inside, all_inside, no_refusal, replaced}

-- what the numbers of a stepped cost keep that are all within their limits
pub record Fit (first opening : ℤ) (ws ss : List ℤ) : Type 0 where
  pub first_limit : Between (pos 0) (pos 10000) first
  pub opening_limit : Between (negsuc 999999999) (pos 1000000000) opening
  pub width_limit : AllBetween (pos 1) (pos 10000) ws
  pub slope_limit : AllBetween (negsuc 999999) (pos 1000000) ss

pub numbers_fit : (first opening : ℤ) (ws ss : List ℤ) → stepped_outside first opening ws ss ≡ None → Fit first opening ws ss
numbers_fit first opening ws ss e =
    let one = neither (outside load_limits 1 first) _ e in
    let two = neither (outside opening_limits 2 opening) _ one.1 in
    let rest = neither (outside_each width_limits 2 ws) (outside_each increment_limits (2 + length ws) ss) two.1 in
    record {
      first_limit = inside load_limits 1 first one.0;
      opening_limit = inside opening_limits 2 opening two.0;
      width_limit = all_inside width_limits 2 ws rest.0;
      slope_limit = all_inside increment_limits (2 + length ws) ss rest.1;
    }

-- what a stepped cost keeps that is not refused
pub record Kept (first opening : ℤ) (ws ss : List ℤ) : Type 0 where
  pub numbers : Fit first opening ws ss
  pub pairs : length ws ≡ length ss
  pub few : length ws ≤ 8
  pub short : (k : ℕ) → k < length ws → too_long first ws k ≡ false
  pub rising : Rising ss

pub keeps : (first opening : ℤ) (ws ss : List ℤ) → stepped_refusal first opening ws ss ≡ None → Kept first opening ws ss
keeps first opening ws ss e =
    let one = neither (cond (paired ws ss) None (Some Pieces)) _ e in
    let two = neither (option_map Number (stepped_outside first opening ws ss)) _ one.1 in
    let three = neither (option_map Long (first_place (too_long first ws) (length ws))) (option_map Falls (first_place (falling ss) (length ss))) two.1 in
    let pair = passed Pieces (paired ws ss) one.0 in
    let same = and_parts (length ws == length ss) (nat_le (length ws) 8) pair in
    record {
      numbers = numbers_fit first opening ws ss (none_below Number (stepped_outside first opening ws ss) two.0);
      pairs = grind (arith, nat_tests);
      few = grind (arith, nat_tests);
      short = first_place_never (too_long first ws) (length ws) (none_below Long (first_place (too_long first ws) (length ws)) three.0);
      rising = λ k h.
          let here = first_place_never (falling ss) (length ss) (none_below Falls (first_place (falling ss) (length ss)) three.1) (k + 1) h in
          let later : ltb 0 (k + 1) ≡ true = grind (arith, nat_tests) in
          let back : k + 1 - 1 ≡ k = omega arith in
          let high = rw back at (not_both (nat_lt 0 (k + 1)) (int_lt (slice_index_or ss (k + 1) (pos 0)) (slice_index_or ss (k + 1 - 1) (pos 0))) here later) in
          omega (arith, ints, high);
    }

-- one more number in an array of eight
pub padded_more : (xs : List ℤ) (k : ℕ) → k < length xs → length xs ≤ 8 → slice_set (take k xs ++ replicate (8 - k) (pos 0)) k (slice_index_or xs k (pos 0)) ≡ take (k + 1) xs ++ replicate (8 - (k + 1)) (pos 0)
padded_more xs k h few' =
    let rest : 8 - k ≡ suc (8 - (k + 1)) = omega arith in
    let front : length (take k xs) ≡ k = length-take-le k xs (omega arith) in
    ap (λ (n : ℕ). set (take k xs ++ replicate n (pos 0)) k (slice_index_or xs k (pos 0))) rest
    ∙ set_at (take k xs) (pos 0) (replicate (8 - (k + 1)) (pos 0)) (slice_index_or xs k (pos 0)) k front
    ∙ sym (ap (λ (ys : List ℤ). ys ++ replicate (8 - (k + 1)) (pos 0)) (take_more xs k (pos 0) h) ∙ append_assoc (take k xs) (slice_index_or xs k (pos 0) ∷ []) (replicate (8 - (k + 1)) (pos 0)))

-- the pieces of a made content are those that were given
pub front_of_padded : (n : ℕ) (xs : List ℤ) → n ≡ length xs → take n (padded xs) ≡ xs
front_of_padded n xs e = take_at xs (replicate (8 - length xs) (pos 0)) n (sym e)

module _ (first opening : ℤ) where
  -- what first load, opening amount and pieces mean, refused or not
  abbrev valued : List ℤ → List ℤ → Meaning
  valued ws ss = kept_or empty_cost (stepped_refusal first opening ws ss) (stepped_meaning first opening ws ss)

  pub accepted_means : (ws ss : List ℤ) → stepped_refusal first opening ws ss ≡ None → valued ws ss ≡ stepped_meaning first opening ws ss
  accepted_means ws ss e = ap (λ (r : Option CostFault). kept_or empty_cost r (stepped_meaning first opening ws ss)) e

  pub made_means : (ws ss : List ℤ) → stepped_refusal first opening ws ss ≡ None → stepped_content (stepped_of first opening ws ss) ≡ stepped_meaning first opening ws ss
  made_means ws ss e =
      let kept = keeps first opening ws ss e in
      ap (λ (xs : List ℤ). valued xs (take (length ws) (padded ss))) (front_of_padded (length ws) ws refl)
      ∙ ap (valued ws) (front_of_padded (length ws) ss kept.pairs)
      ∙ accepted_means ws ss e

-- ---- the increments

pub length_spread : (ws ss : List ℤ) → length ws ≡ length ss → AllBetween (pos 1) (pos 10000) ws → pos (length (spread ws ss)) ≡ total ws
length_spread [] ss e limits = refl
length_spread (w ∷ ws) [] e limits = absurd (omega arith)
length_spread (w ∷ ws) (s ∷ ss) e limits =
    let here = limits 0 (omega arith) in
    let rest = length_spread ws ss (omega arith) (λ k h. limits (suc k) (omega arith)) in
    let long = length-append (replicate (natural w) s) (spread ws ss) in
    let wide = length-replicate (natural w) s in
    omega (arith, ints, natural_is w)

-- a list that rises from `low`
abbrev Climbs : ℤ → List ℤ → Type 0
Climbs low [] = Unit {0}
Climbs low (x ∷ xs) = (low ≤ℤ x) × Climbs x xs

climbs_lower : (low high : ℤ) (xs : List ℤ) → low ≤ℤ high → Climbs high xs → Climbs low xs
climbs_lower low high [] h c = tt
climbs_lower low high (x ∷ xs) h c = (omega (arith, ints, c.0), c.1)

climbs_repeated : (low s : ℤ) (n : ℕ) (xs : List ℤ) → low ≤ℤ s → Climbs s xs → Climbs low (replicate n s ++ xs)
climbs_repeated low s zero xs h c = climbs_lower low s xs h c
climbs_repeated low s (suc n) xs h c = (h, climbs_repeated s s n xs (omega (arith, ints)) c)

climbs_spread : (low : ℤ) (ws ss : List ℤ) → Climbs low ss → Climbs low (spread ws ss)
climbs_spread low [] ss c = tt
climbs_spread low (w ∷ ws) [] c = tt
climbs_spread low (w ∷ ws) (s ∷ ss) c = climbs_repeated low s (natural w) (spread ws ss) c.0 (climbs_spread s ws ss c.1)

climbs_from_rising : (low : ℤ) (xs : List ℤ) → (0 < length xs → low ≤ℤ slice_index_or xs 0 (pos 0)) → Rising xs → Climbs low xs
climbs_from_rising low [] h r = tt
climbs_from_rising low (x ∷ xs) h r =
    (h (omega arith), climbs_from_rising x xs (λ more. r 0 (omega arith)) (λ k high. rw add-one (rw add-one at (r (suc k) (omega arith)))))

rising_suc : (low : ℤ) (xs : List ℤ) → Climbs low xs → (k : ℕ) → suc k < length xs → slice_index_or xs k (pos 0) ≤ℤ slice_index_or xs (suc k) (pos 0)
rising_suc low [] c k h = absurd (omega arith)
rising_suc low (x ∷ []) c k h = absurd (omega arith)
rising_suc low (x ∷ (y ∷ ys)) c zero h = c.1.0
rising_suc low (x ∷ (y ∷ ys)) c (suc k) h = rising_suc x (y ∷ ys) c.1 k (omega arith)

spread_rising : (ws ss : List ℤ) → Rising ss → Rising (spread ws ss)
spread_rising ws ss r k h =
    let low = get_or ss 0 (pos 0) in
    let climbs = climbs_spread low ws ss (climbs_from_rising low ss (λ more. omega (arith, ints)) r) in
    rw add-one (rising_suc low (spread ws ss) climbs k (omega arith))

-- each increment is one of the slopes
module _ (low high : ℤ) where
  repeated_between : (n : ℕ) (s : ℤ) (xs : List ℤ) → Between low high s → AllBetween low high xs → AllBetween low high (replicate n s ++ xs)
  repeated_between zero s xs here rest k h = rest k h
  repeated_between (suc n) s xs here rest zero h = here
  repeated_between (suc n) s xs here rest (suc k) h = repeated_between n s xs here rest k (omega arith)

  spread_between : (ws ss : List ℤ) → AllBetween low high ss → AllBetween low high (spread ws ss)
  spread_between [] ss b k h = absurd (omega arith)
  spread_between (w ∷ ws) [] b k h = absurd (omega arith)
  spread_between (w ∷ ws) (s ∷ ss) b k h =
      repeated_between (natural w) s (spread ws ss) (b 0 (omega arith)) (spread_between ws ss (λ j i. b (suc j) (omega arith))) k h

-- ---- the laws

pub last_fits : (first opening : ℤ) (ws ss : List ℤ) → Kept first opening ws ss → (first +ℤ total ws) ≤ℤ pos 10000
last_fits first opening [] ss kept = omega (arith, ints, kept.numbers.first_limit.1)
last_fits first opening (w ∷ ws) ss kept =
    let n = length ws in
    let all : take (n + 1) (w ∷ ws) ≡ w ∷ ws = take_all (n + 1) (w ∷ ws) (omega arith) in
    let at_end = rw all at (kept.short n (omega arith)) in
    omega (arith, ints, at_end)

pub meant_last : (first opening : ℤ) (ws ss : List ℤ) → Kept first opening ws ss → pos (last (stepped_meaning first opening ws ss)) ≡ first +ℤ total ws
meant_last first opening ws ss kept =
    omega (arith, ints, natural_is first, kept.numbers.first_limit.0, length_spread ws ss kept.pairs kept.numbers.width_limit)

kept_lawful : (first opening : ℤ) (ws ss : List ℤ) → Kept first opening ws ss → Lawful (stepped_meaning first opening ws ss)
kept_lawful first opening ws ss kept = record {
  last_limit = omega (arith, ints, meant_last first opening ws ss kept, last_fits first opening ws ss kept);
  opening_limit = kept.numbers.opening_limit;
  increment_limit = spread_between (negsuc 999999) (pos 1000000) ws ss kept.numbers.slope_limit;
  convex = spread_rising ws ss kept.rising;
}

-- any content keeps the laws
pub content_lawful : (c : Stepped) → Lawful (stepped_content c)
content_lawful c = go (stepped_refusal c.first c.opening (widths_of c) (slopes_of c)) refl
  where
    go : (r : Option CostFault) → stepped_refusal c.first c.opening (widths_of c) (slopes_of c) ≡ r → Lawful (kept_or empty_cost r (stepped_meaning c.first c.opening (widths_of c) (slopes_of c)))
    go None e = kept_lawful c.first c.opening (widths_of c) (slopes_of c) (keeps c.first c.opening (widths_of c) (slopes_of c) e)
    go (Some f) e = empty_lawful

-- ---- the walk over the pieces

module _ (ws ss : List ℤ) (k : ℕ) (within' : k < length ws) (pairs : length ws ≡ length ss) where
  spread_drop : spread (drop k ws) (drop k ss) ≡ replicate (natural (slice_index_or ws k (pos 0))) (slice_index_or ss k (pos 0)) ++ spread (drop (k + 1) ws) (drop (k + 1) ss)
  spread_drop =
      ap (λ (xs : List ℤ). spread xs (drop k ss)) (drop_more ws k (pos 0) within')
      ∙ ap (spread (slice_index_or ws k (pos 0) ∷ drop (k + 1) ws)) (drop_more ss k (pos 0) (omega arith))

  pub in_piece : (left : ℤ) → pos 0 ≤ℤ left → left <ℤ slice_index_or ws k (pos 0) → slice_get (spread (drop k ws) (drop k ss)) (natural left) ≡ Some (slice_index_or ss k (pos 0))
  in_piece left low high =
      let w = get_or ws k (pos 0) in
      ap (λ (xs : List ℤ). slice_get xs (natural left)) spread_drop
      ∙ nth_repeated (natural w) (slice_index_or ss k (pos 0)) (spread (drop (k + 1) ws) (drop (k + 1) ss)) (natural left) (omega (arith, ints, natural_is left, natural_is w))

  pub past_piece : (left : ℤ) → pos 0 ≤ℤ slice_index_or ws k (pos 0) → slice_index_or ws k (pos 0) ≤ℤ left → slice_get (spread (drop k ws) (drop k ss)) (natural left) ≡ slice_get (spread (drop (k + 1) ws) (drop (k + 1) ss)) (natural (left -ℤ slice_index_or ws k (pos 0)))
  past_piece left low high =
      let w = get_or ws k (pos 0) in
      let rest = spread (drop (k + 1) ws) (drop (k + 1) ss) in
      ap (λ (xs : List ℤ). slice_get xs (natural left)) spread_drop
      ∙ nth_past_repeated (natural w) (slice_index_or ss k (pos 0)) rest (natural left) (omega (arith, ints, natural_is left, natural_is w))
      ∙ ap (slice_get rest) (omega (arith, ints, natural_is left, natural_is w, natural_is (left -ℤ w)))

-- behind all pieces there is no increment
pub past_pieces : (ws ss : List ℤ) (k n : ℕ) → length ws ≤ k → slice_get (spread (drop k ws) (drop k ss)) n ≡ None
past_pieces ws ss k n h = ap (λ (xs : List ℤ). slice_get (spread xs (drop k ss)) n) (drop_all k ws h)

-- ---- what a content answers that its constructor would make

module _ (c : Stepped) (made : true ≡ not (is_some (stepped_refusal c.first c.opening (widths_of c) (slopes_of c)))) where
  pub made_keeps : Kept c.first c.opening (widths_of c) (slopes_of c)
  made_keeps = keeps c.first c.opening (widths_of c) (slopes_of c) (no_refusal (stepped_refusal c.first c.opening (widths_of c) (slopes_of c)) made)

  pub content_means : stepped_content c ≡ stepped_meaning c.first c.opening (widths_of c) (slopes_of c)
  content_means = accepted_means c.first c.opening (widths_of c) (slopes_of c) (no_refusal (stepped_refusal c.first c.opening (widths_of c) (slopes_of c)) made)

  pub made_last : pos (last (stepped_content c)) ≡ c.first +ℤ total (widths_of c)
  made_last = ap (λ (m : Meaning). pos (last m)) content_means ∙ meant_last c.first c.opening (widths_of c) (slopes_of c) made_keeps

  pub made_last_limit : (c.first +ℤ total (widths_of c)) ≤ℤ pos 10000
  made_last_limit = last_fits c.first c.opening (widths_of c) (slopes_of c) made_keeps

  pub made_increment : (x : ℤ) → c.first ≤ℤ x → increment_at (stepped_content c) x ≡ slice_get (spread (widths_of c) (slopes_of c)) (natural (x -ℤ c.first))
  made_increment x h =
      ap (λ (m : Meaning). increment_at m x) content_means
      ∙ increment_here (stepped_meaning c.first c.opening (widths_of c) (slopes_of c)) x (natural (x -ℤ c.first))
      (omega (arith, ints, natural_is c.first, natural_is (x -ℤ c.first), made_keeps.numbers.first_limit.0))

  pub made_under : (x : ℤ) → x <ℤ c.first → increment_at (stepped_content c) x ≡ None
  made_under x h =
      ap (λ (m : Meaning). increment_at m x) content_means
      ∙ increment_under (stepped_meaning c.first c.opening (widths_of c) (slopes_of c)) x (omega (arith, ints, natural_is c.first, made_keeps.numbers.first_limit.0))

pub unmade : (c : Stepped) → false ≡ not (is_some (stepped_refusal c.first c.opening (widths_of c) (slopes_of c))) → stepped_content c ≡ empty_cost
unmade c e = replaced (stepped_refusal c.first c.opening (widths_of c) (slopes_of c)) empty_cost (stepped_meaning c.first c.opening (widths_of c) (slopes_of c)) e
