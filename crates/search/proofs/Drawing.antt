-- Prices are drawn together from the lowest up, and loads that were slack stay slack.
use Rattle.std.proofs.Common.{◌≡◌, ℕ, ◌-◌, ◌*◌, ◌<◌, ◌≤◌, List, length, take, ℤ, pos, ◌+ℤ◌, ◌-ℤ◌, neg_ℤ, ◌≤ℤ◌, ◌<ℤ◌, Some, sym, ◌∙◌, arith}
use lib.Signed.{le_z}
use Rattle.std.specs.Int.{int_min}
use Rattle.std.specs.List.{All}
use Rattle.std.proofs.lemmas.Int.{ints, clamps, by_lt_z}
use Rattle.std.proofs.lemmas.List.{get_or_default, get_or-take, length-take-le}
use Rattle.cost.specs.Meaning.{Meaning, beyond, increment_at, Between, Lawful}
use Rattle.cost.proofs.Amount.{increment_some}
use Rattle.network.specs.Network.{Net, Ends, Slack, tension}
use Rattle.network.specs.Records.{numbers}
use Rattle.network.specs.Sums.{count}
use Rattle.search.specs.Prices.{Modest, AllSlack}
use Rattle.search.specs.Drawn.{Near, Drawn, NextAbove}
use Rattle.network.proofs.Counts.{count_limit, count_more}

increment_within : (m : Meaning) (x i : ℤ) → Lawful m → increment_at m x ≡ Some i → Between (neg_ℤ (pos 1000000)) (pos 1000000) i
increment_within m x i lawful e =
    let place = increment_some m x i e in
    omega (arith, ints, lawful.increment_limit (beyond m x) (omega (arith, ints)), place.is)

-- a load stays slack when its tension is drawn
slack_up : (m : Meaning) (t s x : ℤ) → Lawful m → Slack m t x → s ≤ℤ t → int_min t (pos 1000000) ≤ℤ s → Slack m s x
slack_up m t s x lawful slack no_more no_less = record {
  within = slack.within;
  before = λ i e. omega (arith, ints, clamps, slack.before i e, increment_within m (x -ℤ pos 1) i lawful e);
  after = λ i e. omega (arith, ints, slack.after i e);
}

slack_down : (m : Meaning) (t s x : ℤ) → Lawful m → Slack m t x → t ≤ℤ s → int_min (neg_ℤ t) (pos 1000000) ≤ℤ neg_ℤ s → Slack m s x
slack_down m t s x lawful slack no_less no_more = record {
  within = slack.within;
  before = λ i e. omega (arith, ints, slack.before i e);
  after = λ i e. omega (arith, ints, clamps, slack.after i e, increment_within m x i lawful e);
}

pub drawn_slack : (net : Net) (price drawn load : ℕ → ℤ) → Ends net → ((a : ℕ) → a < net.arcs → Lawful (net.cost a)) → Drawn net.nodes price drawn → AllSlack net price load → AllSlack net drawn load
drawn_slack net price drawn load ends lawful near slack a h =
    by_lt_z (price (net.tail a)) (price (net.head a))
    (λ under.
    let n = near (net.tail a) (net.head a) (ends.tails a h) (ends.heads a h) (omega (arith, ints)) in
    slack_down (net.cost a) (tension net price a) (tension net drawn a) (load a) (lawful a h) (slack a h) (omega (arith, ints, n.no_more)) (omega (arith, ints, clamps, n.no_less)))
    (λ over.
    let n = near (net.head a) (net.tail a) (ends.heads a h) (ends.tails a h) (omega (arith, ints)) in
    slack_up (net.cost a) (tension net price a) (tension net drawn a) (load a) (lawful a h) (slack a h) n.no_more n.no_less)

-- prices of which the first n are drawn, as a part that is lent
pub drawn_front : (n : ℕ) (prices : List ℤ) (drawn : ℕ → ℤ) → n ≤ length prices → Drawn (length (take (n - 0) prices)) (numbers (take (n - 0) prices)) drawn → Drawn n (numbers prices) drawn
drawn_front n prices drawn within near u v hu hv order =
    let long = length-take-le (n - 0) prices (omega arith) in
    let at_u = get_or-take (n - 0) prices u (pos 0) (omega arith) in
    let at_v = get_or-take (n - 0) prices v (pos 0) (omega arith) in
    simp (at_u, at_v) at (near u v (omega arith) (omega arith) (omega (arith, ints)))

-- how many of the prices are at most a bar
abbrev pub passed : ℕ → (ℕ → ℤ) → ℤ → ℕ
passed n price bar = count n (λ v. le_z (price v) bar)

-- the prices up to the bar are drawn together, and the bar has come to the level
pub record Drawing (n : ℕ) (price drawn : ℕ → ℤ) (bar level : ℤ) : Type 0 where
  pub from : Between (pos 0) (pos 1000000000000000) bar
  pub level_limit : Between (pos 0) (pos (1000000 * passed n price bar)) level
  pub near : (u v : ℕ) → u < n → v < n → price u ≤ℤ price v → price v ≤ℤ bar → Near (price u) (drawn u) (price v) (drawn v)
  pub to_level : (v : ℕ) → v < n → price v ≤ℤ bar → Near (price v) (drawn v) bar level
  pub above : (v : ℕ) → v < n → price v ≤ℤ bar → pos 0 ≤ℤ drawn v

module _ (prices : List ℤ) (modest : Modest (length prices) prices) where
  abbrev n : ℕ
  n = length prices

  abbrev price : ℕ → ℤ
  price = numbers prices

  pub drawing_starts : (drawn : ℕ → ℤ) → ((v : ℕ) → v < n → drawn v ≡ pos 0) → Drawing n price drawn (pos 0) (pos 0)
  drawing_starts drawn none = record {
    from = omega (arith, ints);
    level_limit = omega (arith, ints);
    near = λ u v hu hv order low.
        record { no_more = omega (arith, ints, none u hu, none v hv); no_less = omega (arith, ints, clamps, none u hu, none v hv, modest u hu) };
    to_level = λ v h low. record { no_more = omega (arith, ints, none v h, modest v h); no_less = omega (arith, ints, clamps, none v h, modest v h) };
    above = λ v h low. omega (arith, ints, none v h);
  }

  -- the next price above the bar is a price
  pub next_within : (bar up : ℤ) → NextAbove prices bar up → up ≤ℤ pos 1000000000000000
  next_within bar up found =
      let at = found.listed in
      let is : numbers prices at.0 ≡ up = get_or_default prices at.0 (pos 0) up at.1 ∙ at.2 in
      omega (arith, ints, is, modest at.0 at.1)

  -- the level rises by no more than the largest increment with each price that is passed
  pub level_fits : (drawn : ℕ → ℤ) (bar level : ℤ) → n ≤ 64 → Drawing n price drawn bar level → Between (pos 0) (pos 64000000) level
  level_fits drawn bar level few drawing = omega (arith, ints, drawing.level_limit, count_limit n (λ v. le_z (price v) bar))

  pub passed_more : (bar up : ℤ) → NextAbove prices bar up → passed n price bar < passed n price up
  passed_more bar up found =
      let at = found.listed in
      let is : price at.0 ≡ up = get_or_default prices at.0 (pos 0) up at.1 ∙ at.2 in
      count_more n at.0 (λ v. le_z (price v) bar) (λ v. le_z (price v) up) at.1 (λ k h low. sym (omega (arith, ints, found.above)))
      (sym (omega (arith, ints, found.above))) (sym (omega (arith, ints)))

  -- every price at most the next bar is at most the bar before, or is the next bar
  module _ (drawn next : ℕ → ℤ) (bar level up further : ℤ) (further_is : further ≡ level +ℤ int_min (up -ℤ bar) (pos 1000000)) (drawing : Drawing n price drawn bar level) (found : NextAbove prices bar up)
      (here : (v : ℕ) → v < n → price v ≡ up → next v ≡ further)
      (elsewhere : (v : ℕ) → v < n → (price v ≡ up → ⊥) → next v ≡ drawn v) where
    least : (v : ℕ) → v < n → bar <ℤ price v → up ≤ℤ price v
    least v h = found.lowest v (pos 0) h

    either : (P : ℕ → ℤ → Type 0) → ((v : ℕ) → v < n → price v ≤ℤ bar → P v (drawn v)) → ((v : ℕ) → v < n → price v ≡ up → P v further) → (v : ℕ) → v < n → price v ≤ℤ up → P v (next v)
    either P old new v h low =
        by_lt_z bar (price v)
        (λ over. let is : price v ≡ up = omega (arith, ints, least v h over) in rw (here v h is) (new v h is))
        (λ under. rw (elsewhere v h (λ is. omega (arith, ints, found.above))) (old v h under))

    old_near : (v : ℕ) → v < n → price v ≤ℤ bar → Near (price v) (drawn v) up further
    old_near v h low =
        let n = drawing.to_level v h low in
        record { no_more = omega (arith, ints, clamps, n.no_more, found.above); no_less = omega (arith, ints, clamps, n.no_less, found.above) }

    new_near : (v : ℕ) → price v ≡ up → Near (price v) further up further
    new_near v is = record { no_more = omega (arith, ints, clamps); no_less = omega (arith, ints, clamps) }

    pub drawing_on : Drawing n price next up further
    drawing_on = record {
      from = omega (arith, ints, drawing.from, found.above, next_within bar up found);
      level_limit = omega (arith, ints, clamps, drawing.level_limit, passed_more bar up found, found.above);
      near = λ u v hu hv order low.
          either (λ w y. price u ≤ℤ price w → Near (price u) (next u) (price w) y)
          (λ w h under rises. rw (elsewhere u hu (λ is. omega (arith, ints, found.above))) (drawing.near u w hu h rises under))
          (λ w h is rises. rw is (either (λ k y. Near (price k) y up further) old_near (λ k l e. new_near k e) u hu (omega (arith, ints))))
          v hv low order;
      to_level = either (λ v y. Near (price v) y up further) old_near (λ v h is. new_near v is);
      above = either (λ v y. pos 0 ≤ℤ y) drawing.above (λ v h is. omega (arith, ints, clamps, drawing.level_limit, found.above));
    }

  -- nothing is above the bar: all prices are drawn together
  pub record AllDrawn (drawn : ℕ → ℤ) : Type 0 where
    pub near : Drawn n price drawn
    pub limits : (v : ℕ) → v < n → Between (pos 0) (pos (1000000 * n)) (drawn v)

  pub drawing_ends : (drawn : ℕ → ℤ) (bar level : ℤ) → Drawing n price drawn bar level → All (λ x. x ≤ℤ bar) prices → AllDrawn drawn
  drawing_ends drawn bar level drawing all =
      let done : (v : ℕ) → v < n → price v ≤ℤ bar = λ v h. all v (pos 0) h in
      record {
        near = λ u v hu hv order. drawing.near u v hu hv order (done v hv);
        limits = λ v h.
            omega (arith, ints, clamps, drawing.above v h (done v h), (drawing.to_level v h (done v h)).no_less, drawing.level_limit, count_limit n (λ k. le_z (price k) bar), done v h);
      }
