-- What crosses the border of a set of nodes, and why an over-full set bars every routing.
use Rattle.std.proofs.Common.{◌≡◌, ℕ, ◌<◌, Bool, true, false, not, ◌&&◌, ℤ, pos, ◌-ℤ◌, ◌*ℤ◌, ◌≤ℤ◌, ◌<ℤ◌, sym, refl, ap, ◌∙◌, arith}
use lib.IntN.{*ℤ_comm}
use Rattle.std.proofs.lemmas.Int.{ints, by_lt_z}
use Rattle.std.proofs.lemmas.Bool.{false≢true, cond-true}
use Rattle.cost.specs.Meaning.{last}
use Rattle.network.specs.Sums.{sum, counted}
use Rattle.network.specs.Network.{Net, Ends, surplus, Routing, leaves, enters, sum_marked, Closed}
use Rattle.network.specs.Theorems.{Conservation, OverFullBars, ClosedIsOverFull}
use Rattle.network.proofs.Counted.{counted_none, counted_same, counted_order, times_counted, across}
use Rattle.network.proofs.Sums.{sum_same, sum_order, sum_minus, sum_none, sum_covers}
use Rattle.network.proofs.Balance.{identity}

-- the surpluses of a set are its supplies less the loads that leave it, but for the loads that enter it
pub crossing : (net : Net) (load : ℕ → ℤ) (marked : ℕ → Bool) → Ends net
    → sum_marked net marked (surplus net load)
    ≡ sum_marked net marked net.supply
    -ℤ (sum net.arcs (λ a. counted (leaves net marked a) (load a)) -ℤ sum net.arcs (λ a. counted (enters net marked a) (load a)))
crossing net load marked ends =
    omega (
      arith,
      ints,
      identity net load (λ v. counted (marked v) (pos 1)) ends,
      sum_same net.nodes _ _ (λ v h. *ℤ_comm (counted (marked v) (pos 1)) (surplus net load v) ∙ weighed (surplus net load v) (marked v)),
      sum_same net.nodes _ _ (λ v h. weighed (net.supply v) (marked v)),
      sum_same net.arcs _ _ (λ a h. across (marked (net.tail a)) (marked (net.head a)) (load a)),
      sum_minus net.arcs (λ a. counted (leaves net marked a) (load a)) (λ a. counted (enters net marked a) (load a)),
    )
  where
    weighed : (x : ℤ) (b : Bool) → x *ℤ counted b (pos 1) ≡ counted b x
    weighed x b = let once : x *ℤ pos 1 ≡ x = omega (arith, ints) in times_counted x b (pos 1) ∙ ap (counted b) once

pub over_full_bars : OverFullBars
over_full_bars net marked ends full load meets =
    omega (
      arith,
      ints,
      crossing net load marked ends,
      sum_none net.nodes _ (λ v h. ap (counted (marked v)) (meets.balanced v h) ∙ counted_none (marked v)),
      sum_order net.arcs _ _ (λ a h. counted_order (leaves net marked a) (load a) (pos (last (net.cost a))) (λ _. (meets.routing a h).1)),
      sum_order net.arcs _ _ (λ a h. counted_order (enters net marked a) (pos (net.cost a).first) (load a) (λ _. (meets.routing a h).0)),
    )

pub closed_is_over_full : ClosedIsOverFull
closed_is_over_full net load marked ends closed above =
    omega (
      arith,
      ints,
      crossing net load marked ends,
      sum_same net.arcs _ _ (λ a h. counted_same (leaves net marked a) (load a) (pos (last (net.cost a))) (closed.leaving a h)),
      sum_same net.arcs _ _ (λ a h. counted_same (enters net marked a) (load a) (pos (net.cost a).first) (closed.entering a h)),
    )

pub conservation : Conservation
conservation net load ends =
    omega (arith, ints, crossing net load (λ v. true) ends, sum_none net.arcs (λ a. pos 0) (λ a h. refl))

-- a set in which no number is below 0 and one is above
pub sum_marked_above : (net : Net) (marked : ℕ → Bool) (f : ℕ → ℤ) (p : ℕ) → p < net.nodes → marked p ≡ true → pos 0 <ℤ f p
    → ((v : ℕ) → v < net.nodes → marked v ≡ true → pos 0 ≤ℤ f v) → pos 0 <ℤ sum_marked net marked f
sum_marked_above net marked f p within at above each =
    omega (
      arith,
      ints,
      sum_covers net.nodes p (λ v. counted (marked v) (f v)) within (λ v h. omega (arith, ints, counted_none (marked v), counted_order (marked v) (pos 0) (f v) (each v h))),
      cond-true (marked p) (f p) (pos 0) at,
    )

-- a set that no step leads out of, neither along an arc below its last load nor against an arc above its first load, is closed
pub closed_from_steps : (net : Net) (load : ℕ → ℤ) (marked : ℕ → Bool) → Routing net load
    → ((a : ℕ) → a < net.arcs → marked (net.tail a) ≡ true → load a <ℤ pos (last (net.cost a)) → marked (net.head a) ≡ true)
    → ((a : ℕ) → a < net.arcs → marked (net.head a) ≡ true → pos (net.cost a).first <ℤ load a → marked (net.tail a) ≡ true)
    → Closed net load marked
closed_from_steps net load marked routing along against =
    record {
      leaving = λ a h crosses. held (marked (net.tail a)) (marked (net.head a)) (load a) (pos (last (net.cost a))) crosses (along a h) (routing a h).1;
      entering = λ a h crosses. sym (held (marked (net.head a)) (marked (net.tail a)) (pos (net.cost a).first) (load a) crosses (against a h) (routing a h).0);
    }
  where
    held : (from to : Bool) (x y : ℤ) → (from && not to) ≡ true → (from ≡ true → x <ℤ y → to ≡ true) → x ≤ℤ y → x ≡ y
    held true true x y crosses step order = absurd (false≢true crosses)
    held true false x y crosses step order = by_lt_z x y (λ under. absurd (false≢true (step refl under))) (λ over. omega (arith, ints))
    held false to x y crosses step order = absurd (false≢true crosses)
