-- A walk up the range of a cost has the least reduced amount where it may end.
use Rattle.std.proofs.Common.{◌≡◌, ℤ, pos, ◌+ℤ◌, ◌-ℤ◌, ◌*ℤ◌, neg_ℤ, ◌≤ℤ◌, ◌<ℤ◌, Some, arith, w64, SFits}
use Rattle.std.proofs.lemmas.Int.{ints}
use Rattle.cost.specs.Meaning.{Meaning, last, InRange, increment_at, Between, Lawful}
use Rattle.cost.proofs.Amount.{increment_some, next_in_range, amount_first, amount_limit}
use Rattle.network.specs.Network.{reduced, least}
use Rattle.network.proofs.Products.{times_limit}
use Rattle.network.proofs.Least.{reduced_next, least_slack, before_first, before_next}

-- a tension, as the prices of two nodes make it
abbrev pub Tension : ℤ → Type 0
Tension t = Between (neg_ℤ (pos 200000000)) (pos 200000000) t

-- the largest reduced amount: the largest amount and the largest tension times the largest load
pub reduced_limit : (m : Meaning) (t x : ℤ) → Lawful m → Tension t → InRange m x → Between (neg_ℤ (pos 2011000000000)) (pos 2011000000000) (reduced m t x)
reduced_limit m t x lawful tense within =
    omega (arith, ints, amount_limit m x lawful within, times_limit t x 200000000 10000 tense (omega (arith, ints, lawful.last_limit)))

-- the load that the walk has reached, and the reduced amount there
pub record Reached (m : Meaning) (t x value : ℤ) : Type 0 where
  pub within : InRange m x
  pub value_is : value ≡ reduced m t x
  pub before : (i : ℤ) → increment_at m (x -ℤ pos 1) ≡ Some i → i ≤ℤ t

-- the walk starts at the first load
pub record Starts (m : Meaning) (t : ℤ) : Type 0 where
  pub product_fits : SFits w64 (t *ℤ pos m.first)
  pub value_fits : SFits w64 (m.opening -ℤ t *ℤ pos m.first)
  pub reached : Reached m t (pos m.first) (m.opening -ℤ t *ℤ pos m.first)

pub starts : (m : Meaning) (t : ℤ) → Lawful m → Tension t → Starts m t
starts m t lawful tense =
    let product = times_limit t (pos m.first) 200000000 10000 tense (omega (arith, ints, lawful.last_limit)) in
    record {
      product_fits = omega (arith, ints);
      value_fits = omega (arith, ints, lawful.opening_limit);
      reached = record { within = omega (arith, ints); value_is = cc (amount_first m); before = before_first m t };
    }

-- and goes on over an increment below the tension
pub record GoesOn (m : Meaning) (t x value i : ℤ) : Type 0 where
  pub load_fits : SFits w64 (x +ℤ pos 1)
  pub term_fits : SFits w64 (i -ℤ t)
  pub value_fits : SFits w64 (value +ℤ (i -ℤ t))
  pub reached : Reached m t (x +ℤ pos 1) (value +ℤ (i -ℤ t))

pub goes_on : (m : Meaning) (t x value i : ℤ) → Lawful m → Tension t → Reached m t x value → increment_at m x ≡ Some i → i <ℤ t → GoesOn m t x value i
goes_on m t x value i lawful tense reached e small =
    let here = reduced_limit m t x lawful tense reached.within in
    let next = reduced_limit m t (x +ℤ pos 1) lawful tense (next_in_range m x i e) in
    let step = reduced_next m t x i e in
    record {
      load_fits = omega (arith, ints, lawful.last_limit);
      term_fits = omega (arith, ints);
      value_fits = omega (arith, ints);
      reached = record { within = next_in_range m x i e; value_is = cc; before = before_next m t x i e (omega (arith, ints)) };
    }

-- where the next increment is not below the tension, the walk has the least
pub ends : (m : Meaning) (t x value : ℤ) → Lawful m → Reached m t x value → ((i : ℤ) → increment_at m x ≡ Some i → t ≤ℤ i) → value ≡ least m t
ends m t x value lawful reached after =
    cc (reached.value_is, least_slack m t x lawful.convex (record { within = reached.within; before = reached.before; after = after }))

pub ends_before : (m : Meaning) (t x value i : ℤ) → Lawful m → Reached m t x value → increment_at m x ≡ Some i → t ≤ℤ i → value ≡ least m t
ends_before m t x value i lawful reached e large = ends m t x value lawful reached (λ j f. let same : i ≡ j = cc (e, f) in omega (arith, ints))

-- no increment leads on from the last load
pub ends_at_last : (m : Meaning) (t x value : ℤ) → Lawful m → Reached m t x value → x ≡ pos (last m) → value ≡ least m t
ends_at_last m t x value lawful reached at =
    ends m t x value lawful reached (λ i e. let place = increment_some m x i e in absurd (omega (arith, ints)))
