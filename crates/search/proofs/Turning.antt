-- The loads at which the increments of a cost pass a bar.
use Rattle.std.proofs.Common.{◌≡◌, true, ◌||◌, ℤ, pos, ◌+ℤ◌, ◌-ℤ◌, ◌≤ℤ◌, ◌<ℤ◌, is_some, Some, None, Option, sym, ap, ◌∙◌, arith}
use lib.IntN.{+ℤ-neg_ℤ_cancel}
use Rattle.std.proofs.lemmas.Int.{ints, by_lt_z}
use Rattle.std.proofs.lemmas.Bool.{false≢true}
use Rattle.cost.specs.Meaning.{Meaning, last, InRange, beyond, increment_at, Rising}
use Rattle.cost.proofs.Amount.{increment_some, increment_below}
use Rattle.network.specs.Network.{Slack}
use Rattle.network.proofs.Least.{rising}
use Rattle.search.specs.Turns.{Turns, PassingBetween, Narrow}

-- a search by halves has come to a low and a high between which the increments pass the bar
pub record Halving (m : Meaning) (bar low high : ℤ) : Type 0 where
  pub from_first : pos m.first ≤ℤ low
  pub order : low ≤ℤ high
  pub to_last : high ≤ℤ pos (last m)
  pub before : (i : ℤ) → increment_at m (low -ℤ pos 1) ≡ Some i → i <ℤ bar
  pub after : (i : ℤ) → increment_at m high ≡ Some i → bar ≤ℤ i

pub halving_starts : (m : Meaning) (bar : ℤ) → Halving m bar (pos m.first) (pos (last m))
halving_starts m bar = record {
  from_first = omega (arith, ints);
  order = omega (arith, ints);
  to_last = omega (arith, ints);
  before = λ i e. let place = increment_some m (pos m.first -ℤ pos 1) i e in absurd (omega (arith, ints));
  after = λ i e. let place = increment_some m (pos (last m)) i e in absurd (omega (arith, ints));
}

pub halving_up : (m : Meaning) (bar low high middle i : ℤ) → Halving m bar low high → low ≤ℤ middle → middle <ℤ high → increment_at m middle ≡ Some i → i <ℤ bar → Halving m bar (middle +ℤ pos 1) high
halving_up m bar low high middle i halving above under e small = record {
  from_first = omega (arith, ints, halving.from_first);
  order = omega (arith, ints);
  to_last = halving.to_last;
  before = λ j f. let same : i ≡ j = cc (e, f, ap (increment_at m) (+ℤ-neg_ℤ_cancel middle (pos 1))) in omega (arith, ints);
  after = halving.after;
}

-- the middle is at or past the turn, or none is left to halve
pub halving_down : (m : Meaning) (bar low high middle i : ℤ) → Halving m bar low high → low ≤ℤ middle → middle <ℤ high → increment_at m middle ≡ Some i → bar ≤ℤ i → Halving m bar low middle
halving_down m bar low high middle i halving above under e large = record {
  from_first = halving.from_first;
  order = above;
  to_last = omega (arith, ints, halving.to_last);
  before = halving.before;
  after = λ j f. let same : i ≡ j = cc (e, f) in omega (arith, ints);
}

pub halving_ends : (m : Meaning) (bar low high : ℤ) → Halving m bar low high → high ≤ℤ low → Turns m bar low
halving_ends m bar low high halving done =
    let at : high ≡ low = omega (arith, ints, halving.order) in
    record { within = omega (arith, ints, halving.from_first, halving.to_last); before = halving.before; after = λ i e. halving.after i (ap (increment_at m) at ∙ e) }

-- where an increment stands before a load or at it, the load lies in the range
within_by : (m : Meaning) (x : ℤ) (before after : Option ℤ) → before ≡ increment_at m (x -ℤ pos 1) → after ≡ increment_at m x → (is_some before || is_some after) ≡ true → InRange m x
within_by m x (Some i) after e f some = let place = increment_some m (x -ℤ pos 1) i (sym e) in omega (arith, ints)
within_by m x None (Some j) e f some = let place = increment_some m x j (sym f) in omega (arith, ints)
within_by m x None None e f some = absurd (false≢true some)

pub passing_turns : (m : Meaning) (bar x : ℤ) (before after : Option ℤ) → before ≡ increment_at m (x -ℤ pos 1) → after ≡ increment_at m x → PassingBetween before after bar → Turns m bar x
passing_turns m bar x before after e f passing = record {
  within = within_by m x before after e f passing.some;
  before = λ i h. passing.under i (e ∙ h);
  after = λ i h. passing.over i (f ∙ h);
}

-- a later increment is not below an earlier one
climb : (m : Meaning) (x y i j : ℤ) → Rising m.increments → x ≤ℤ y → increment_at m x ≡ Some i → increment_at m y ≡ Some j → i ≤ℤ j
climb m x y i j rises order e f =
    let here = increment_some m x i e in
    let there = increment_some m y j f in
    let up = rising m.increments (beyond m x) (beyond m y) rises (omega (arith, ints)) (omega (arith, ints)) in
    omega (arith, ints)

module _ (m : Meaning) (rises : Rising m.increments) where
  -- a higher bar is passed no earlier
  pub turns_order : (b c x y : ℤ) → Turns m b x → Turns m c y → b ≤ℤ c → x ≤ℤ y
  turns_order b c x y low high order =
      by_lt_z y x
      (λ under.
      let e = increment_below m y (omega (arith, ints, high.within)) (omega (arith, ints, low.within)) in
      let f = increment_below m (x -ℤ pos 1) (omega (arith, ints, high.within)) (omega (arith, ints, low.within)) in
      absurd (omega (arith, ints, climb m y (x -ℤ pos 1) _ _ rises (omega (arith, ints)) e f, high.after _ e, low.before _ f)))
      (λ over. over)

  -- at the bar, and just below it, the load is slack
  pub turns_slack : (bar x : ℤ) → Turns m bar x → Slack m bar x
  turns_slack bar x turns = record { within = turns.within; before = λ i e. omega (arith, ints, turns.before i e); after = turns.after }

  pub turns_slack_below : (bar x : ℤ) → Turns m (bar +ℤ pos 1) x → Slack m bar x
  turns_slack_below bar x turns = record { within = turns.within; before = λ i e. omega (arith, ints, turns.before i e); after = λ i e. omega (arith, ints, turns.after i e) }

  pub narrow_order : (t step low high : ℤ) → pos 1 ≤ℤ step → Narrow m t step low high → low ≤ℤ high
  narrow_order t step low high above narrow = turns_order _ _ low high narrow.low_turns narrow.high_turns (omega (arith, ints))

  -- with a step of 1, every load from the low to the high is slack at the tension
  pub narrow_slack : (t low high x : ℤ) → Narrow m t (pos 1) low high → low ≤ℤ x → x ≤ℤ high → Slack m t x
  narrow_slack t low high x narrow above under =
      let from = narrow.low_turns.within in
      let to = narrow.high_turns.within in
      record {
        within = omega (arith, ints);
        before = λ i e.
            let place = increment_some m (x -ℤ pos 1) i e in
            let f = increment_below m (high -ℤ pos 1) (omega (arith, ints)) (omega (arith, ints)) in
            omega (arith, ints, climb m (x -ℤ pos 1) (high -ℤ pos 1) i _ rises (omega (arith, ints)) e f, narrow.high_turns.before _ f);
        after = λ i e.
            let place = increment_some m x i e in
            let f = increment_below m low (omega (arith, ints)) (omega (arith, ints)) in
            omega (arith, ints, climb m low x _ i rises (omega (arith, ints)) f e, narrow.low_turns.after _ f);
      }
