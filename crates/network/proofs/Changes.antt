-- How the surpluses and the charge change with the load of one arc, and what is the same at the same loads or prices.
use Rattle.std.proofs.Common.{◌≡◌, ℕ, ◌<◌, eqb, List, get_or, set, ℤ, pos, ◌+ℤ◌, ◌-ℤ◌, ◌*ℤ◌, Some, sym, ap, ◌∙◌, inl, inr, arith}
use Rattle.std.proofs.lemmas.Int.{ints}
use Rattle.std.proofs.lemmas.List.{get_or-set_other}
use Rattle.std.proofs.lemmas.Bool.{cases_eq}
use Rattle.cost.specs.Meaning.{InRange, amount_at, increment_at}
use Rattle.cost.proofs.Amount.{amount_next}
use Rattle.network.specs.Sums.{sum, counted}
use Rattle.network.specs.Network.{Net, Ends, surplus, Routing, charge, tension, least, floor}
use Rattle.network.proofs.Counted.{counted_minus}
use Rattle.network.proofs.Sums.{AlikeBut, sum_same, sum_changed}

-- a list in which one place is set anew
pub alike_set : (n p : ℕ) (xs : List ℤ) (x d : ℤ) → AlikeBut n p (λ k. get_or xs k d) (λ k. get_or (set xs p x) k d)
alike_set n p xs x d k h away = sym (get_or-set_other xs p k x d away)

-- loads that agree at each arc have the same surpluses and the same charge
pub surplus_same : (net : Net) (load other : ℕ → ℤ) → ((a : ℕ) → a < net.arcs → load a ≡ other a) → (v : ℕ) → surplus net load v ≡ surplus net other v
surplus_same net load other same v =
    omega (
      arith,
      ints,
      sum_same net.arcs _ _ (λ a h. ap (counted (eqb (net.head a) v)) (same a h)),
      sum_same net.arcs _ _ (λ a h. ap (counted (eqb (net.tail a) v)) (same a h)),
    )

pub charge_same : (net : Net) (load other : ℕ → ℤ) → ((a : ℕ) → a < net.arcs → load a ≡ other a) → charge net load ≡ charge net other
charge_same net load other same = sum_same net.arcs _ _ (λ a h. ap (amount_at (net.cost a)) (same a h))

-- prices that agree at each node have the same floor
pub floor_same : (net : Net) (price other : ℕ → ℤ) → Ends net → ((v : ℕ) → v < net.nodes → price v ≡ other v) → floor net price ≡ floor net other
floor_same net price other ends same =
    omega (
      arith,
      ints,
      sum_same net.nodes _ _ (λ v h. ap (λ x. net.supply v *ℤ x) (same v h)),
      sum_same net.arcs _ _ (λ a h. ap (least (net.cost a)) (tense a h)),
    )
  where
    tense : (a : ℕ) → a < net.arcs → tension net price a ≡ tension net other a
    tense a h = cc (same (net.tail a) (ends.tails a h), same (net.head a) (ends.heads a h))

-- what one end of the arcs counts at a node
end_changed : (arcs a v : ℕ) (end : ℕ → ℕ) (load other : ℕ → ℤ) → a < arcs → AlikeBut arcs a load other
    → sum arcs (λ b. counted (eqb (end b) v) (other b)) ≡ sum arcs (λ b. counted (eqb (end b) v) (load b)) +ℤ counted (eqb (end a) v) (other a -ℤ load a)
end_changed arcs a v end load other within alike =
    sum_changed arcs a (λ b. counted (eqb (end b) v) (load b)) (λ b. counted (eqb (end b) v) (other b)) within (λ b h away. ap (counted (eqb (end b) v)) (alike b h away))
    ∙ ap (λ x. sum arcs (λ b. counted (eqb (end b) v) (load b)) +ℤ x) (sym (counted_minus (eqb (end a) v) (other a) (load a)))

module _ (net : Net) (load other : ℕ → ℤ) (a : ℕ) (within : a < net.arcs) (alike : AlikeBut net.arcs a load other) where
  -- what the arc carries more is gained by its head and lost by its tail
  pub surplus_changed : (v : ℕ) → surplus net other v ≡ surplus net load v +ℤ counted (eqb (net.head a) v) (other a -ℤ load a) -ℤ counted (eqb (net.tail a) v) (other a -ℤ load a)
  surplus_changed v =
      omega (arith, ints, end_changed net.arcs a v net.head load other within alike, end_changed net.arcs a v net.tail load other within alike)

  pub charge_changed : charge net other ≡ charge net load +ℤ (amount_at (net.cost a) (other a) -ℤ amount_at (net.cost a) (load a))
  charge_changed =
      sum_changed net.arcs a (λ b. amount_at (net.cost b) (load b)) (λ b. amount_at (net.cost b) (other b)) within (λ b h away. ap (amount_at (net.cost b)) (alike b h away))

  -- one request more adds the increment; read from `other` to `load`, one request fewer takes it off
  pub charge_step : (i : ℤ) → other a ≡ load a +ℤ pos 1 → increment_at (net.cost a) (load a) ≡ Some i → charge net other ≡ charge net load +ℤ i
  charge_step i more e = omega (arith, ints, charge_changed, ap (amount_at (net.cost a)) more, amount_next (net.cost a) (load a) i e)

  pub routing_changed : Routing net load → InRange (net.cost a) (other a) → Routing net other
  routing_changed routing ranged b h =
      elim (cases_eq b a) [
        | inl at ↦ rw at ranged
        | inr away ↦ rw (← alike b h away) (routing b h)
      ]
