-- Where a set of nodes is over full within the narrowed loads, the floor rises with the prices of the set.
use Rattle.std.proofs.Common.{◌≡◌, ℕ, Bool, true, false, not, ◌&&◌, ℤ, pos, negsuc, ◌+ℤ◌, ◌-ℤ◌, ◌*ℤ◌, ◌≤ℤ◌, ◌<ℤ◌, sym, ap, ◌∙◌, mul-le-mul, arith}
use lib.IntN.{*ℤ_comm, *ℤ-zero}
use Rattle.std.proofs.lemmas.Int.{ints}
use Rattle.cost.specs.Meaning.{Meaning, Rising}
use Rattle.network.specs.Sums.{sum, counted}
use Rattle.network.specs.Network.{Net, Convex, least, worth, least_on, floor, Slack, leaves, enters, sum_marked}
use Rattle.network.proofs.Products.{times_plus, plus_times, times_minus, minus_times}
use Rattle.network.proofs.Counted.{times_counted}
use Rattle.network.proofs.Sums.{sum_same, sum_order, sum_plus, sum_minus, sum_times}
use Rattle.network.proofs.Least.{least_under, least_slack}
use Rattle.flow.specs.Within.{room_within, OverFullWithin}
use Rattle.search.specs.Prices.{raised}
use Rattle.search.specs.Turns.{Narrow, Narrowed}
use Rattle.search.proofs.Turning.{turns_slack, turns_slack_below}

-- a tension that changes by the step, at a load that is slack at the new tension
least_up : (m : Meaning) (t step high : ℤ) → Rising m.increments → Slack m (t +ℤ step) high → (least m t -ℤ step *ℤ high) ≤ℤ least m (t +ℤ step)
least_up m t step high rises slack =
    omega (arith, ints, least_slack m (t +ℤ step) high rises slack, least_under m t high slack.within, plus_times t step high)

least_down : (m : Meaning) (t step low : ℤ) → Rising m.increments → Slack m (t -ℤ step) low → (least m t +ℤ step *ℤ low) ≤ℤ least m (t -ℤ step)
least_down m t step low rises slack =
    omega (arith, ints, least_slack m (t -ℤ step) low rises slack, least_under m t low slack.within, minus_times t step low)

-- the least reduced amount of an arc, as its ends are in the set or not
least_moves : (m : Meaning) (p q step low high : ℤ) (tail head : Bool) → Rising m.increments → Narrow m (p -ℤ q) step low high
    → (least m (p -ℤ q) -ℤ step *ℤ counted (tail && not head) high +ℤ step *ℤ counted (head && not tail) low) ≤ℤ least m ((p +ℤ counted tail step) -ℤ (q +ℤ counted head step))
least_moves m p q step low high true true rises narrow =
    let same : (p +ℤ step) -ℤ (q +ℤ step) ≡ p -ℤ q = omega (arith, ints) in
    omega (arith, ints, ap (least m) same, *ℤ-zero step)
least_moves m p q step low high true false rises narrow =
    let same : (p +ℤ step) -ℤ (q +ℤ pos 0) ≡ p -ℤ q +ℤ step = omega (arith, ints) in
    omega (arith, ints, ap (least m) same, *ℤ-zero step, least_up m (p -ℤ q) step high rises (turns_slack m rises _ high narrow.high_turns))
least_moves m p q step low high false true rises narrow =
    let same : (p +ℤ pos 0) -ℤ (q +ℤ step) ≡ p -ℤ q -ℤ step = omega (arith, ints) in
    omega (arith, ints, ap (least m) same, *ℤ-zero step, least_down m (p -ℤ q) step low rises (turns_slack_below m rises (p -ℤ q -ℤ step) low narrow.low_turns))
least_moves m p q step low high false false rises narrow =
    let same : (p +ℤ pos 0) -ℤ (q +ℤ pos 0) ≡ p -ℤ q = omega (arith, ints) in
    omega (arith, ints, ap (least m) same, *ℤ-zero step)

-- a positive number of steps is at least one step
at_least_one : (step x : ℤ) → pos 0 ≤ℤ step → pos 0 <ℤ x → step ≤ℤ (step *ℤ x)
at_least_one (pos s) (pos n) above more = omega (arith, ints, mul-le-mul {n₁ = s} {m₁ = 1} {n₂ = s} {m₂ = n} (omega arith) (omega (arith, ints)))
at_least_one (pos s) (negsuc n) above more = absurd (omega (arith, ints))
at_least_one (negsuc s) x above more = absurd (omega (arith, ints))

module _ (net : Net) (price low high : ℕ → ℤ) (step : ℤ) (marked : ℕ → Bool) (convex : Convex net) (narrowed : Narrowed net price step low high) where
  worths : sum net.nodes (worth net (raised price marked step)) ≡ sum net.nodes (worth net price) +ℤ step *ℤ sum_marked net marked net.supply
  worths =
      sum_same net.nodes _ (λ v. worth net price v +ℤ step *ℤ counted (marked v) (net.supply v))
      (λ v h. times_plus (net.supply v) (price v) (counted (marked v) step)
      ∙ ap (λ x. worth net price v +ℤ x) (times_counted (net.supply v) (marked v) step ∙ ap (counted (marked v)) (*ℤ_comm (net.supply v) step) ∙ sym (times_counted step (marked v) (net.supply v))))
      ∙ sum_plus net.nodes (worth net price) (λ v. step *ℤ counted (marked v) (net.supply v))
      ∙ ap (λ x. sum net.nodes (worth net price) +ℤ x) (sum_times net.nodes step (λ v. counted (marked v) (net.supply v)))

  leasts : (sum net.arcs (least_on net price) -ℤ step *ℤ room_within net low high marked) ≤ℤ sum net.arcs (least_on net (raised price marked step))
  leasts =
      let out = λ (a : ℕ). counted (leaves net marked a) (high a) in
      let into = λ (a : ℕ). counted (enters net marked a) (low a) in
      omega (
        arith,
        ints,
        sum_order net.arcs (λ a. least_on net price a -ℤ step *ℤ counted (leaves net marked a) (high a) +ℤ step *ℤ counted (enters net marked a) (low a)) (least_on net (raised price marked step))
            (λ a h. least_moves (net.cost a) (price (net.tail a)) (price (net.head a)) step (low a) (high a) (marked (net.tail a)) (marked (net.head a)) (convex a h) (narrowed a h)),
        sum_plus net.arcs (λ a. least_on net price a -ℤ step *ℤ counted (leaves net marked a) (high a)) (λ a. step *ℤ counted (enters net marked a) (low a)),
        sum_minus net.arcs (least_on net price) (λ a. step *ℤ counted (leaves net marked a) (high a)),
        sum_times net.arcs step (λ a. counted (leaves net marked a) (high a)),
        sum_times net.arcs step (λ a. counted (enters net marked a) (low a)),
        times_minus step (sum net.arcs (λ a. counted (leaves net marked a) (high a))) (sum net.arcs (λ a. counted (enters net marked a) (low a))),
      )

  pub floor_rises : pos 0 ≤ℤ step → OverFullWithin net low high marked → (floor net price +ℤ step) ≤ℤ floor net (raised price marked step)
  floor_rises above full =
      omega (
        arith,
        ints,
        worths,
        leasts,
        times_minus step (sum_marked net marked net.supply) (room_within net low high marked),
        at_least_one step (sum_marked net marked net.supply -ℤ room_within net low high marked) above (omega (arith, ints)),
      )
